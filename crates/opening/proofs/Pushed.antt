-- A record pushed by its parts is the record's words behind the journal.
use Prim.Native.Nat.{ℕ, ◌+◌, ◌*◌, ◌/◌, ◌%◌, ◌≤◌, ◌<◌}
use mathlib.Core.Path.{◌≡◌, refl, sym, ap, ◌∙◌}
use mathlib.Core.Bool.{Bool, true, false, cond}
use mathlib.Core.List.{List, [], ◌∷◌, ◌++◌}
use mathlib.Core.Option.{none, some}
use native.Mathlib.Omega.{arith}
use lib.ListN.{length, length-append}
use lib.Dec.{eqb}
use borrow.Author.Tests.{ne_eqb}
use Rattle.words.specs.Words.{words, bytes, over}
use Rattle.places.specs.declared.Above.{Above}
use Rattle.places.specs.declared.Above.TheVariants.{Top, Under}
use Rattle.edits.specs.Records.{Rec, flag, renamed, inserted, removed, six, place_of, record_words}
use Rattle.edits.specs.Calls.{pushed}
use Rattle.edits.proofs.Accepted.{SmallHeader}
use Rattle.edits.proofs.Journal.{six_long}
use Rattle.journals.specs.Journals.{six_put, record_pushed}
use Rattle.journals.proofs.Pushed.{six_behind, pushed_fits, record_length}
use Rattle.opening.specs.Opening.{header_of}
use Rattle.opening.specs.Steps.{number_of, above_at}

---- header places as numbers

pub place_number : (h : Above) → SmallHeader (header_of h) → place_of (number_of h) ≡ header_of h
place_number Top l = refl
place_number (Under h) l = rw (ne_eqb h 4294967295 (λ e. omega arith)) refl

pub header_above : (n : ℕ) → header_of (above_at n) ≡ place_of n
header_above n = go (eqb n 4294967295)
  where
    go : (b : Bool) → header_of (cond b Top (Under n)) ≡ cond b none (some n)
    go true = refl
    go false = refl

---- a record's words by what is pushed: the payload's words, then the six

-- a record that is a payload and six words
abbrev pub Laid : Rec → ℕ → ℕ → ℕ → List ℕ → Type 0
Laid rec kind header p x = record_words rec ≡ words x ++ six kind (place_of header) p (length (words x))

-- a word from its two bytes
two_bytes : (w : ℕ) → w < 65536 → w % 256 + 256 * (w / 256 % 256) ≡ w
two_bytes w h = omega arith

pub name_words : (a b : ℕ) → a < 65536 → b < 65536 → words (bytes (a ∷ b ∷ [])) ≡ a ∷ b ∷ []
name_words a b h l = rw (two_bytes a h, two_bytes b l) refl

pub renamed_laid : (p a b : ℕ) → a < 65536 → b < 65536 → Laid (renamed p a b) 2 4294967295 p (bytes (a ∷ b ∷ []))
unfolding record_words
renamed_laid p a b h l = rw (two_bytes a h, two_bytes b l) refl

pub inserted_laid : (h : Above) (p : ℕ) → SmallHeader (header_of h) → Laid (inserted (header_of h) p) 3 (number_of h) p []
unfolding record_words
inserted_laid h p l = rw (place_number h l) refl

pub removed_laid : (h : Above) (p : ℕ) (x y : List ℕ) → SmallHeader (header_of h) → words x ≡ y → Laid (removed (header_of h) p y) 4 (number_of h) p x
unfolding record_words
removed_laid h p x y l e = rw (place_number h l, e) refl

module _ (rec : Rec) (kind header p : ℕ) (x : List ℕ) (even : length x % 2 ≡ 0) (laid : Laid rec kind header p x) where
  pub record_long : 2 * length (record_words rec) ≡ length x + 12
  record_long = ap (λ l. 2 * length l) laid ∙ record_length x kind (place_of header) p (length (words x)) even

  pub record_pushed_lem : (journal : List ℕ) (jused : ℕ) → jused % 2 ≡ 0 → jused + length x + 12 ≤ length journal →
      record_pushed journal jused kind header p x ≡ pushed journal jused (record_words rec)
  record_pushed_lem journal jused ev h = pushed_fits journal jused kind header p x ev even h ∙ ap (pushed journal jused) (sym laid)

---- a mark's record, whose payload is packed in its place

module _ (p : ℕ) (x : List ℕ) where
  pub flag_long : 2 * length (record_words (flag p x)) ≡ 2 * length x + 12
  unfolding record_words
  flag_long = let l = length-append x (six 1 none p (length x)) in let k = six_long 1 none p (length x) in omega arith

  pub flag_pushed : (journal : List ℕ) (jused : ℕ) → jused + 2 * length x + 12 ≤ length journal →
      six_put (over journal jused (bytes x)) (jused + 2 * length x) 1 4294967295 p (length x) ≡ pushed journal jused (record_words (flag p x))
  unfolding record_words
  flag_pushed journal jused h = six_behind journal x jused 1 4294967295 p h
