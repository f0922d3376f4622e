-- One plate behind those that are used: none of an element that is no cell, no room, or its numbers in the slice.
use Prim.Native.Nat.{ℕ, suc, ◌+◌, ◌-◌, ◌*◌, ◌≤◌, ◌<◌}
use mathlib.Core.Path.{◌≡◌, refl, sym, ap, ◌∙◌}
use mathlib.Core.Bool.{Bool, true, false, false≢true}
use mathlib.Core.List.{List, [], ◌∷◌, append-nil}
use native.Mathlib.Omega.{arith}
use lib.IntN.{ℤ, pos}
use lib.ListN.{length, set}
use lib.Seq.{sets}
use borrow.Author.Tests.{le-leb, lt-leb}
use Rattle.words.specs.Words.{words, word_at}
use Rattle.kinds.specs.FirstWord.{deleted_of}
use Rattle.kinds.specs.Kinds.{is_cell}
use Rattle.headers.specs.Header.{type_at}
use Rattle.places.specs.Places.{spotted_at}
use Rattle.places.specs.declared.Above.{Above}
use Rattle.plates.specs.Plates.{plate_of}
use Rattle.plates.specs.Hops.{plate_here, plate_in}
use Rattle.plates.proofs.Calls.{found_is}
use Rattle.answers.specs.Answers.{Replied}
use Rattle.answers.proofs.Laws.{answered}
use Rattle.order.specs.Fitting.{ElementPut}
use Rattle.dgn_plates.specs.Plates.{plate_given, is_counted, put_from, CellPut, in_plates, plate_items}
use Rattle.dgn_plates.specs.Answers.{plate_reply}
use Rattle.std.specs.Prelude.{Err, None, Ok, Result, Some}
use Rattle.places.specs.Spotted.{spotted_with}
use Rattle.plates.specs.declared.Plate.{Plate}
use Rattle.refusals.specs.Refusals.{refused_with}
use Rattle.refusals.specs.declared.Refusal.{Refusal}

---- nine numbers, one by one

pub nine_put : {A : Type 0} (s : List A) (at : ℕ) (a b c d e f g h i : A) →
    set (set (set (set (set (set (set (set (set s at a) (at + 1) b) (at + 2) c) (at + 3) d) (at + 4) e) (at + 5) f) (at + 6) g) (at + 7) h) (at + 8) i
    ≡ sets s at (a ∷ b ∷ c ∷ d ∷ e ∷ f ∷ g ∷ h ∷ i ∷ [])
nine_put s at a b c d e f g h i =
    let one : at + 1 ≡ suc at = omega arith in
    let two : at + 2 ≡ suc (suc at) = omega arith in
    let three : at + 3 ≡ suc (suc (suc at)) = omega arith in
    let four : at + 4 ≡ suc (suc (suc (suc at))) = omega arith in
    let five : at + 5 ≡ suc (suc (suc (suc (suc at)))) = omega arith in
    let six : at + 6 ≡ suc (suc (suc (suc (suc (suc at))))) = omega arith in
    let seven : at + 7 ≡ suc (suc (suc (suc (suc (suc (suc at)))))) = omega arith in
    let eight : at + 8 ≡ suc (suc (suc (suc (suc (suc (suc (suc at))))))) = omega arith in
    rw (one, two, three, four, five, six, seven, eight) refl

---- an element

module _ (ws : List ℕ) (at : ℕ) (numbers : List ℤ) (used : ℕ) where
  -- of another type
  pub put_other : is_cell (type_at ws at) ≡ false → ElementPut in_plates (plate_items ws at) numbers used (Some used) numbers
  unfolding plate_items plate_in
  put_other h =
      let yes = le-leb 0 (in_plates.room numbers - used) (omega arith) in
      rw h (record { is = rw yes (ap Some (omega arith)); given = rw yes refl })

  module _ (cell : is_cell (type_at ws at) ≡ true) where
    pub put_full : in_plates.room numbers - used < 1 → ElementPut in_plates (plate_items ws at) numbers used None numbers
    unfolding plate_items plate_in
    put_full h =
        let no = lt-leb 1 (in_plates.room numbers - used) h in
        rw cell (record { is = rw no refl; given = rw no refl })

    -- the two numbers before the plate's own, and these
    behind : (s : List ℤ) (at : ℕ) (a b : ℤ) (l : List ℤ) → sets (set (set s at a) (at + 1) b) (at + 2) l ≡ sets s at (a ∷ b ∷ l)
    behind s at a b l =
        let i : at + 1 ≡ suc at = omega arith in
        let k : at + 2 ≡ suc (suc at) = omega arith in
        rw (i, k) refl

    pub put_one : 11 ≤ length numbers - 11 * used → (first second : ℤ) (t : List ℤ) → first ≡ pos at → second ≡ pos (deleted_of (word_at ws at)) →
        t ≡ put_from (set (set numbers (11 * used) first) (11 * used + 1) second) (11 * used + 2) (plate_in ws at) → ElementPut in_plates (plate_items ws at) numbers used (Some (used + 1)) t
    unfolding plate_items plate_in
    put_one h first second t f g p =
        let yes = le-leb 1 (in_plates.room numbers - used) (omega arith) in
        let plate = plate_here ws at in
        let own = plate_given (plate_here ws at) in
        let put : t ≡ sets (set (set numbers (11 * used) first) (11 * used + 1) second) (11 * used + 2) (plate_given (plate_here ws at)) = p ∙ rw cell refl in
        let there : t ≡ sets numbers (11 * used) (pos at ∷ pos (deleted_of (word_at ws at)) ∷ plate_given (plate_here ws at)) = put ∙ behind numbers (11 * used) first second own ∙ rw (f, g) refl in
        rw cell (record { is = rw yes refl; given = rw yes (there ∙ ap (sets numbers (11 * used)) (sym (append-nil (pos at ∷ pos (deleted_of (word_at ws at)) ∷ own)))) })

---- the call for the plate at a place

module _ (dim : ℕ) (s : List ℕ) (at end depth : ℕ) (above : Above) (found : spotted_at dim s at ≡ spotted_with end depth above) (out : List ℤ) (room : 9 ≤ length out) (r : Bool) (t : List ℤ)
    (put : CellPut (plate_in (words s) at) 0 out r t) where
  -- it is put where it is a cell
  pub plate_put : r ≡ true → Replied 9 (plate_reply (plate_of dim s at)) out 0 t
  plate_put h = go (plate_of dim s at) refl (put.is ∙ ap is_counted (found_is dim s at end depth above found)) (put.given ∙ ap (put_from out 0) (found_is dim s at end depth above found))
    where
      go : (a : Result Plate Refusal) → plate_of dim s at ≡ a → r ≡ is_counted a → t ≡ put_from out 0 a → Replied 9 (plate_reply (plate_of dim s at)) out 0 t
      go (Ok plate) q e g = rw g (answered 9 _ _ out (ap plate_reply q) room)
      go (Err refusal) q e g = absurd (false≢true (sym e ∙ h))

  -- and is 18 where it is none
  pub plate_other : r ≡ false → Replied 9 (plate_reply (plate_of dim s at)) out 18 t
  unfolding plate_of
  plate_other h = go (is_cell (type_at (words s) at)) refl (put.is ∙ ap is_counted (found_is dim s at end depth above found)) (put.given ∙ ap (put_from out 0) (found_is dim s at end depth above found))
    where
      go : (b : Bool) → is_cell (type_at (words s) at) ≡ b → r ≡ is_counted (plate_of dim s at) → t ≡ put_from out 0 (plate_of dim s at) → Replied 9 (plate_reply (plate_of dim s at)) out 18 t
      go true k e g = absurd (false≢true (sym h ∙ e ∙ rw (found, k) refl))
      go false k e g =
          let none : plate_of dim s at ≡ refused_with 18 0 = rw (found, k) refl in
          rw (g ∙ ap (put_from out 0) none) (answered 9 _ _ out (ap plate_reply none) room)

-- where no element is found
pub refused_plate : (dim : ℕ) (s : List ℕ) (at n p : ℕ) → spotted_at dim s at ≡ refused_with n p → plate_of dim s at ≡ refused_with n p
unfolding plate_of
refused_plate dim s at n p q = rw q refl
