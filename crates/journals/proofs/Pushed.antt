-- A record pushed: the payload and its six words behind the used bytes, written one behind the other (`push_copies`);
-- where it fits, where it does not, and how long it is.
use Prim.Native.Nat.{ℕ, ◌+◌, ◌*◌, ◌/◌, ◌%◌, ◌≤◌}
use mathlib.Core.Path.{◌≡◌, refl, sym, ap, ◌∙◌}
use mathlib.Core.List.{List, [], ◌∷◌, ◌++◌}
use mathlib.Core.Bool.{Bool, true, false, cond, ◌&&◌, and-eq-true_iff}
use mathlib.Core.Option.{Option, none, some}
use native.Mathlib.Omega.{arith}
use lib.ListN.{length, length-append}
use lib.Dec.{eqb, leb}
use borrow.Author.Tests.{eq-eqb, le-leb, eqb-true, leb-true}
use Rattle.words.specs.Words.{words, bytes, Below, over}
use Rattle.words.proofs.Laws.{length_words, length_bytes, bytes_append, bytes_words}
use Rattle.edits.specs.Records.{six, long, place_of}
use Rattle.edits.specs.Calls.{pushed}
use Rattle.edits.proofs.Journal.{six_long}
use Rattle.words.proofs.Over.{length_over, over_over}
use Rattle.buffers.proofs.Fits.{kept}
use Rattle.copies.proofs.Copies.{copied_fits}
use Rattle.journals.specs.Journals.{six_put, push_fits, record_pushed}

---- the bytes of a record

-- a header place as a long, from its number
pub long_placed : (h : ℕ) → long (place_of h) ≡ h / 65536 ∷ h % 65536 ∷ []
long_placed h = go (eqb h 4294967295) refl
  where
    go : (t : Bool) → eqb h 4294967295 ≡ t → long (cond t none (some h)) ≡ h / 65536 ∷ h % 65536 ∷ []
    go true e = rw (eqb-true h 4294967295 e) refl
    go false e = refl

-- the six words behind a payload that stands behind the used bytes
pub six_behind : (s x : List ℕ) (used kind header p : ℕ) → used + 2 * length x + 12 ≤ length s →
    six_put (over s used (bytes x)) (used + 2 * length x) kind header p (length x) ≡ pushed s used (x ++ six kind (place_of header) p (length x))
unfolding six_put
six_behind s x used kind header p h =
    let t = six kind (place_of header) p (length x) in
    let n = length_bytes x in
    let l = length_over s used (bytes x) (omega arith) in
    let m = length_bytes t in
    let k = six_long kind (place_of header) p (length x) in
    copied_fits (over s used (bytes x)) (used + 2 * length x) (bytes t) (omega arith)
    ∙ over_over s used (bytes x) (used + 2 * length x) (bytes t) (omega arith) (omega arith)
    ∙ ap (over s used) (sym (bytes_append x t))

pub push_copies : (s x s₁ s₂ : List ℕ) (used k header p : ℕ) → Below 256 x → length x % 2 ≡ 0 → used + length x + 12 ≤ length s → s₁ ≡ over s used x →
    s₂ ≡ six_put s₁ (used + length x) k header p (length x / 2) → s₂ ≡ pushed s used (words x ++ six k (place_of header) p (length (words x)))
push_copies s x s₁ s₂ used k header p b even l f g =
    let n = length_words x in
    let y = bytes_words x (length x / 2) (omega arith) b in
    let e : used + length x ≡ used + 2 * length (words x) = omega arith in
    g ∙ ap (λ t. six_put t (used + length x) k header p (length x / 2)) (f ∙ ap (over s used) (sym y))
    ∙ ap (λ a. six_put (over s used (bytes (words x))) a k header p (length x / 2)) e
    ∙ ap (λ c. six_put (over s used (bytes (words x))) (used + 2 * length (words x)) k header p c) (sym n)
    ∙ six_behind s (words x) used k header p (omega arith)

---- what fits

module _ (s : List ℕ) (used kind header p : ℕ) (x : List ℕ) where
  pub pushed_fits : used % 2 ≡ 0 → length x % 2 ≡ 0 → used + length x + 12 ≤ length s
      → record_pushed s used kind header p x ≡ pushed s used (words x ++ six kind (place_of header) p (length (words x)))
  unfolding record_pushed
  pushed_fits a b l = rw (eq-eqb (used % 2) 0 a, eq-eqb (length x % 2) 0 b, le-leb (used + length x + 12) (length s) l) refl

  pub pushed_not : (used % 2 ≡ 0 → length x % 2 ≡ 0 → used + length x + 12 ≤ length s → ⊥) → s ≡ record_pushed s used kind header p x
  unfolding record_pushed
  pushed_not miss =
      kept (push_fits s used x) (pushed s used (words x ++ six kind (place_of header) p (length (words x)))) s
      (λ e.
      let i = (and-eq-true_iff (eqb (used % 2) 0) (eqb (length x % 2) 0 && leb (used + length x + 12) (length s))).0 e in
      let j = (and-eq-true_iff (eqb (length x % 2) 0) (leb (used + length x + 12) (length s))).0 i.1 in
      miss (eqb-true (used % 2) 0 i.0) (eqb-true (length x % 2) 0 j.0) (leb-true (used + length x + 12) (length s) j.1))

-- how long a pushed record is
pub record_length : (x : List ℕ) (k : ℕ) (h : Option ℕ) (p n : ℕ) → length x % 2 ≡ 0 → 2 * length (words x ++ six k h p n) ≡ length x + 12
record_length x k h p n even =
    let l = length-append (words x) (six k h p n) in
    let w = length_words x in
    let s = six_long k h p n in
    omega arith
