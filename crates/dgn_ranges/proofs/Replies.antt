-- Each case of the answer: refused at once, no room for the first place, done.
use Prim.Native.Nat.{ℕ, ◌-◌}
use mathlib.Core.Path.{◌≡◌, refl, ap, ◌∙◌, subst}
use mathlib.Core.Bool.{true, false}
use mathlib.Core.List.{List, [], ◌∷◌, map}
use mathlib.Core.Option.{some}
use lib.IntN.{ℤ}
use lib.ListN.{length, set, drop}
use Rattle.words.specs.Words.{words}
use Rattle.files.specs.Judge.{judge_of}
use Rattle.files.specs.Spots.{Spot, spots_of, spot_in}
use Rattle.places.specs.Places.{found_by}
use Rattle.places.proofs.Places.{spotted_found}
use Rattle.range_checks.specs.InRange.{in_range_in, in_range_of}
use Rattle.order.specs.declared.Part.{Part}
use Rattle.order.specs.Calls.{begun_of, none_fits}
use Rattle.order.specs.Fitting.{Fitting, part_of, in_numbers, PartPut}
use Rattle.order.proofs.Order.{FoundIn, found_drop, file_found}
use Rattle.order.proofs.Items.{items_are}
use Rattle.order.proofs.Calls.{GoesOn}
use Rattle.order.proofs.Fitting.{lays_numbers}
use Rattle.order.proofs.Replies.{taken_refused, taken_full, taken_done}
use Rattle.dgn_ranges.specs.Ranges.{range_entry, ranges_part, entry_at, ranges_from}
use Rattle.dgn_ranges.specs.Answers.{ranges_reply, RangesGiven}
use Rattle.std.specs.Prelude.{Err}
use Rattle.files.specs.Accepted.{accepted_with}

---- by places and by the list of elements

module _ (dim : ℕ) (s : List ℕ) (e d m : ℕ) (accepted : judge_of dim s ≡ accepted_with e d m) where
  abbrev all : List Spot
  all = spots_of dim (words s)

  -- what a call at the place of an element answers is what stands there
  pub answered_there : (x : Spot) → spot_in all x.place ≡ some x → in_range_of dim s x.place ≡ in_range_in dim (words s) x.place
  unfolding in_range_of
  answered_there x f = rw (spotted_found dim s x.place e d m accepted ∙ ap found_by f) refl

  entries_are : (xs : List Spot) → FoundIn all xs → map (λ x. entry_at dim (words s) x.place) xs ≡ map (range_entry dim s) xs
  entries_are [] f = refl
  entries_are (x ∷ xs) f = rw (answered_there x f.0, entries_are xs f.1) refl

  pub ranges_are : (room k : ℕ) → part_of room k (ranges_from (e - k) dim (words s) k) ≡ ranges_part dim s room k
  unfolding ranges_part
  ranges_are room k = ap (part_of room k) (items_are dim s e d m accepted (entry_at dim (words s)) k ∙ entries_are (drop k all) (found_drop all all k (file_found dim s e d m accepted)))

---- the answers

module _ (dim : ℕ) (s : List ℕ) (k : ℕ) (places : List ℤ) (out : List ℕ) where
  abbrev part : Fitting ℤ
  part = ranges_part dim s (length places) k

  pub ranges_refused : (a : ℕ) → begun_of dim s 2 (length out) ≡ Err a → RangesGiven dim s k places out a places out
  unfolding ranges_reply
  ranges_refused a q = let g = taken_refused in_numbers lays_numbers dim s part (length part.given) places out a q in record { replied = g.0; given = g.1 }

  module _ (e : ℕ) (on : GoesOn dim s 2 (length out) e) (t : List ℤ) (r : Part) (put : PartPut in_numbers (part_of (length places) k (ranges_from (e - k) dim (words s) k)) places r t) where
    put_part : PartPut in_numbers part places r t
    put_part = subst (λ p. PartPut in_numbers p places r t) (ranges_are dim s e on.deepest on.marker on.accepted (length places) k) put

    pub ranges_full : true ≡ none_fits r.used r.next e → RangesGiven dim s k places out 15 t out
    unfolding ranges_reply
    ranges_full f = let g = taken_full in_numbers lays_numbers dim s part (length part.given) places out e on t r put_part f in record { replied = g.0; given = g.1 }

    pub ranges_done : false ≡ none_fits r.used r.next e → RangesGiven dim s k places out 0 t (set (set out 0 r.next) 1 r.used)
    unfolding ranges_reply
    ranges_done f = let g = taken_done in_numbers lays_numbers dim s part (length part.given) places out e on t r put_part f r.used put_part.used in record { replied = g.0; given = g.1 }
