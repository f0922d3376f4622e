-- Each case of the answer: refused at once, no room for the first text, done.
use Prim.Native.Nat.{ℕ, ◌-◌, ◌/◌, ◌≤◌, ◌<◌}
use mathlib.Core.Path.{◌≡◌, ap, subst, ◌∙◌}
use mathlib.Core.Bool.{true, false}
use mathlib.Core.List.{List}
use lib.IntN.{ℤ}
use lib.ListN.{length, set}
use Rattle.words.specs.Words.{words}
use Rattle.grammar.proofs.Exact.{accepted_is}
use Rattle.answers.proofs.Elements.{call_words}
use Rattle.order.specs.declared.Part.{Part}
use Rattle.order.specs.Calls.{begun_of, none_fits}
use Rattle.order.specs.Fitting.{in_numbers, Fitting, part_of, PartPut}
use Rattle.order.proofs.Calls.{GoesOn}
use Rattle.order.proofs.Fitting.{lays_numbers}
use Rattle.order.proofs.Replies.{taken_refused, taken_full, taken_done}
use Rattle.dgn_texts.specs.Texts.{texts_part, texts_from, walk_of}
use Rattle.dgn_texts.specs.Answers.{texts_reply, TextsGiven}
use Rattle.dgn_texts.proofs.Places.{texts_are, walk_inside}
use Rattle.std.specs.Prelude.{Err}

module _ (dim : ℕ) (s : List ℕ) (k : ℕ) (numbers : List ℤ) (out : List ℕ) where
  abbrev part : Fitting ℤ
  part = texts_part dim s (length numbers) k

  pub texts_refused : (a : ℕ) → begun_of dim s 2 (length out) ≡ Err a → TextsGiven dim s k numbers out a numbers out
  unfolding texts_reply
  texts_refused a q = let g = taken_refused in_numbers lays_numbers dim s part (length part.given / 18) numbers out a q in record { replied = g.0; given = g.1 }

  module _ (e : ℕ) (on : GoesOn dim s 2 (length out) e) (t : List ℤ) (r : Part) (put : PartPut in_numbers (part_of (length numbers) k (texts_from (e - k) dim (words s) k)) numbers r t) where
    put_part : PartPut in_numbers part numbers r t
    put_part = subst (λ p. PartPut in_numbers p numbers r t) (texts_are dim s e on.deepest on.marker on.accepted (length numbers) k) put

    pub texts_full : true ≡ none_fits r.used r.next e → TextsGiven dim s k numbers out 15 t out
    unfolding texts_reply
    texts_full f = let g = taken_full in_numbers lays_numbers dim s part (length part.given / 18) numbers out e on t r put_part f in record { replied = g.0; given = g.1 }

    pub texts_done : false ≡ none_fits r.used r.next e → (n : ℕ) → n ≡ r.used / 18 →
        TextsGiven dim s k numbers out 0 t (set (set out 0 r.next) 1 n)
    unfolding texts_reply
    texts_done f n q =
        let g = taken_done in_numbers lays_numbers dim s part (length part.given / 18) numbers out e on t r put_part f n (q ∙ ap (λ m. m / 18) put_part.used) in
        record { replied = g.0; given = g.1 }

-- what is handed on: the file is small, and each element is in it
pub texts_walk : (dim : ℕ) (s : List ℕ) (room e : ℕ) → GoesOn dim s 2 room e → (length (words s) ≤ 524288) × ((i : ℕ) → i < e → (walk_of (words s) i).place < length (words s))
texts_walk dim s room e on = (call_words dim s (accepted_is dim s e on.deepest on.marker on.accepted).call, walk_inside dim s e on.deepest on.marker on.accepted)
