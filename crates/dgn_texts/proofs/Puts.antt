-- The numbers of one text put behind those that are used.
use Prim.Native.Nat.{ℕ, suc, ◌+◌, ◌-◌, ◌*◌, ◌≤◌, ◌<◌}
use mathlib.Core.Path.{◌≡◌, refl, ap, ◌∙◌}
use mathlib.Core.List.{List, []}
use native.Mathlib.Omega.{arith}
use lib.IntN.{ℤ, pos}
use lib.ListN.{length, set, length-set}
use lib.Seq.{sets}
use borrow.Author.Tests.{le-leb, lt-leb, lt-ltb, le-ltb}
use Rattle.words.specs.Words.{word_at}
use Rattle.texts.specs.Texts.{counts_word, first_character}
use Rattle.kinds.specs.FirstWord.{deleted_of}
use Rattle.order.specs.Fitting.{in_numbers, ElementPut}
use Rattle.order.proofs.Fitting.{lays_numbers, nothing_put}
use Rattle.text_views.specs.declared.Text.{Text}
use Rattle.text_numbers.specs.Numbers.{put_text}
use Rattle.text_numbers.proofs.Laws.{fifteen}
use Rattle.dgn_texts.specs.Texts.{entry_by, from_number}
use Rattle.std.specs.Prelude.{Err, None, Ok, Option, Result, Some}
use Rattle.refusals.specs.declared.Refusal.{Refusal}

-- a text has 18 numbers
pub eighteen : (text : Text) (dim : ℕ) (ws : List ℕ) (at depth : ℕ) → length (entry_by (Ok text) dim ws at depth) ≡ 18
eighteen text dim ws at depth = let l = fifteen (2 * at + first_character dim) text in omega arith

pub entry_put : (dim : ℕ) (ws : List ℕ) (at depth n : ℕ) (text : Text) (numbers t : List ℤ) (from : ℕ) (a b c : ℤ) → a ≡ pos at → b ≡ pos (deleted_of (word_at ws at)) → c ≡ pos depth →
    n ≡ counts_word dim → from + 18 ≤ length numbers → t ≡ put_text (set (set (set numbers from a) (from + 1) b) (from + 2) c) (from + 3) (2 * (at + n + 1)) text →
    t ≡ sets numbers from (entry_by (Ok text) dim ws at depth)
unfolding put_text
entry_put dim ws at depth n text numbers t from a b c ea eb ec e h put =
    let one : from + 1 ≡ suc from = omega arith in
    let two : from + 2 ≡ suc (suc from) = omega arith in
    let three : from + 3 ≡ suc (suc (suc from)) = omega arith in
    let start : 2 * (at + n + 1) ≡ 2 * at + first_character dim = omega arith in
    let m = set (set (set numbers from a) (from + 1) b) (from + 2) c in
    let l : length m ≡ length numbers = simp length-set in
    put ∙ rw (le-leb (from + 3 + 15) (length m) (omega arith)) (rw (three, two, one, ea, eb, ec, start) refl)

---- an element, by whether it is a text of number k or more and fits

module _ (dim : ℕ) (ws : List ℕ) (k i at depth : ℕ) (numbers : List ℤ) (used : ℕ) where
  abbrev Put : Result Text Refusal → Option ℕ → List ℤ → Type 0
  Put v r t = ElementPut in_numbers (from_number k i (entry_by v dim ws at depth)) numbers used r t

  nothing : (e : List ℤ) → e ≡ [] → ElementPut in_numbers e numbers used (Some used) numbers
  nothing e q = rw q (nothing_put in_numbers lays_numbers numbers used)

  pub put_before : (v : Result Text Refusal) → i < k → Put v (Some used) numbers
  put_before v h = nothing (from_number k i (entry_by v dim ws at depth)) (rw (lt-ltb i k h) refl)

  module _ (h : k ≤ i) where
    from_k : (v : Result Text Refusal) → from_number k i (entry_by v dim ws at depth) ≡ entry_by v dim ws at depth
    from_k v = rw (le-ltb i k h) refl

    pub put_none : (v : Result Text Refusal) (x : Refusal) → v ≡ Err x → Put v (Some used) numbers
    put_none v x e = nothing (from_number k i (entry_by v dim ws at depth)) (from_k v ∙ rw e refl)

    module _ (v : Result Text Refusal) (text : Text) (e : v ≡ Ok text) where
      is : from_number k i (entry_by v dim ws at depth) ≡ entry_by (Ok text) dim ws at depth
      is = from_k v ∙ rw e refl

      pub put_full : length numbers - used < 18 → Put v None numbers
      put_full l = rw is
          (let no = lt-leb (length (entry_by (Ok text) dim ws at depth)) (length numbers - used) (omega (arith, eighteen text dim ws at depth)) in
          record { is = rw no refl; given = rw no refl })

      pub put_text_lem : 18 ≤ length numbers - used → (t : List ℤ) → t ≡ sets numbers used (entry_by (Ok text) dim ws at depth) → Put v (Some (used + 18)) t
      put_text_lem l t q = rw is
          (let s = eighteen text dim ws at depth in
          let yes = le-leb (length (entry_by (Ok text) dim ws at depth)) (length numbers - used) (omega arith) in
          record { is = rw yes (ap Some (omega arith)); given = rw yes q })
