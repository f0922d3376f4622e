-- Each case of the answer: refused at once, no room for the first plate, done.
use Prim.Native.Nat.{ℕ, ◌-◌, ◌≤◌}
use mathlib.Core.Path.{◌≡◌, subst}
use mathlib.Core.Bool.{true, false}
use mathlib.Core.List.{List}
use native.Mathlib.Omega.{arith}
use lib.IntN.{ℤ}
use lib.ListN.{length, set}
use Rattle.words.specs.Words.{words}
use Rattle.answers.proofs.Elements.{elements_few}
use Rattle.order.specs.declared.Part.{Part}
use Rattle.order.specs.Calls.{begun_of, none_fits}
use Rattle.order.specs.Fitting.{Fitting, part_of, PartPut}
use Rattle.order.proofs.Order.{count_is}
use Rattle.order.proofs.Calls.{GoesOn}
use Rattle.order.proofs.Replies.{taken_refused, taken_full, taken_done}
use Rattle.dgn_plates.specs.Plates.{Entry, in_plates, plates_part, plates_from}
use Rattle.dgn_plates.specs.Answers.{plates_reply, PlatesGiven}
use Rattle.dgn_plates.proofs.Slices.{lays_plates}
use Rattle.dgn_plates.proofs.Places.{plates_are}
use Rattle.std.specs.Prelude.{Err}

module _ (dim : ℕ) (s : List ℕ) (k : ℕ) (was : List ℤ) (out : List ℕ) where
  abbrev part : Fitting Entry
  part = plates_part dim s (in_plates.room was) k

  pub plates_refused : (a : ℕ) → begun_of dim s 2 (length out) ≡ Err a → PlatesGiven dim s k was out a was out
  unfolding plates_reply
  plates_refused a q = let g = taken_refused in_plates lays_plates dim s part (length part.given) was out a q in record { replied = g.0; given = g.1 }

  module _ (e : ℕ) (on : GoesOn dim s 2 (length out) e) (t : List ℤ) (r : Part) (put : PartPut in_plates (part_of (in_plates.room was) k (plates_from (e - k) (words s) k)) was r t) where
    put_part : PartPut in_plates part was r t
    put_part = subst (λ p. PartPut in_plates p was r t) (plates_are dim s e on.deepest on.marker on.accepted (in_plates.room was) k) put

    pub plates_full : true ≡ none_fits r.used r.next e → PlatesGiven dim s k was out 15 t out
    unfolding plates_reply
    plates_full f = let g = taken_full in_plates lays_plates dim s part (length part.given) was out e on t r put_part f in record { replied = g.0; given = g.1 }

    pub plates_done : false ≡ none_fits r.used r.next e → PlatesGiven dim s k was out 0 t (set (set out 0 r.next) 1 r.used)
    unfolding plates_reply
    plates_done f = let g = taken_done in_plates lays_plates dim s part (length part.given) was out e on t r put_part f r.used put_part.used in record { replied = g.0; given = g.1 }

-- an accepted file has few elements
pub accepted_few : (dim : ℕ) (s : List ℕ) (room e : ℕ) → GoesOn dim s 2 room e → e ≤ 1048576
accepted_few dim s room e on =
    let f = elements_few dim s e on.deepest on.marker on.accepted in
    let c = count_is dim s e on.deepest on.marker on.accepted in
    omega arith
