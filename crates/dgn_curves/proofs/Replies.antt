-- Each case of the answer: refused at once, no room for the first curve, done.
use Prim.Native.Nat.{ℕ, ◌-◌}
use mathlib.Core.Path.{◌≡◌, subst}
use mathlib.Core.Bool.{true, false}
use mathlib.Core.List.{List}
use lib.ListN.{length, set}
use Rattle.words.specs.Words.{words}
use Rattle.order.specs.declared.Part.{Part}
use Rattle.order.specs.Calls.{begun_of, none_fits}
use Rattle.order.specs.Fitting.{Fitting, part_of, PartPut}
use Rattle.order.proofs.Calls.{GoesOn}
use Rattle.order.proofs.Replies.{taken_refused, taken_full, taken_done}
use Rattle.dgn_curves.specs.Curves.{Entry, Both, in_both, curves_part, curves_from}
use Rattle.dgn_curves.specs.Answers.{curves_reply, CurvesGiven}
use Rattle.dgn_curves.proofs.Slices.{lays_both}
use Rattle.dgn_curves.proofs.Places.{curves_are}
use Rattle.std.specs.Prelude.{Err}

module _ (dim : ℕ) (s : List ℕ) (k : ℕ) (was : Both) (out : List ℕ) where
  abbrev part : Fitting Entry
  part = curves_part dim (words s) (in_both.room was) k

  pub curves_refused : (a : ℕ) → begun_of dim s 2 (length out) ≡ Err a → CurvesGiven dim s k was out a was out
  unfolding curves_reply
  curves_refused a q = let g = taken_refused in_both lays_both dim s part (length part.given) was out a q in record { replied = g.0; given = g.1 }

  module _ (e : ℕ) (on : GoesOn dim s 2 (length out) e) (t : Both) (r : Part) (put : PartPut in_both (part_of (in_both.room was) k (curves_from (e - k) dim (words s) k)) was r t) where
    put_part : PartPut in_both part was r t
    put_part = subst (λ p. PartPut in_both p was r t) (curves_are dim s e on.deepest on.marker on.accepted (in_both.room was) k) put

    pub curves_full : true ≡ none_fits r.used r.next e → CurvesGiven dim s k was out 15 t out
    unfolding curves_reply
    curves_full f = let g = taken_full in_both lays_both dim s part (length part.given) was out e on t r put_part f in record { replied = g.0; given = g.1 }

    pub curves_done : false ≡ none_fits r.used r.next e → CurvesGiven dim s k was out 0 t (set (set out 0 r.next) 1 r.used)
    unfolding curves_reply
    curves_done f = let g = taken_done in_both lays_both dim s part (length part.given) was out e on t r put_part f r.used put_part.used in record { replied = g.0; given = g.1 }
