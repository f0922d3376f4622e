-- Each case of the answer of a call that takes elements: refused at once, no room for the first one that has items, done.
use Prim.Native.Nat.{ℕ}
use mathlib.Core.Path.{◌≡◌, refl, sym, ◌∙◌}
use mathlib.Core.Bool.{true, false, and-eq-true_iff}
use mathlib.Core.List.{List, [], ◌∷◌}
use native.Mathlib.Omega.{arith}
use lib.ListN.{length, set}
use lib.Dec.{eqb, ltb}
use borrow.Author.Tests.{eqb-true}
use Rattle.files.specs.Judge.{judge_of}
use Rattle.answers.specs.Answers.{Reply, with_room, Replied}
use Rattle.answers.specs.Besides.{if_done}
use Rattle.order.specs.declared.Part.{Part}
use Rattle.order.specs.Calls.{begun_of, none_fits, reply_by}
use Rattle.order.specs.Fitting.{Fitting, Slices, PartPut}
use Rattle.order.proofs.Calls.{GoesOn, call_refused, call_full, call_done}
use Rattle.order.proofs.Fitting.{Lays}
use Rattle.std.specs.Prelude.{Err}

-- the answer is the next element's number, and a number that says how much was put
module _ {S A : Type 0} (into : Slices S A) (lays : Lays into) (dim : ℕ) (s : List ℕ) (part : Fitting A) (second : ℕ) (was : S) (out : List ℕ) where
  abbrev answer : List ℕ
  answer = part.next ∷ second ∷ []

  abbrev reply : Reply ℕ
  reply = reply_by (judge_of dim s) (length part.given) part.next answer

  abbrev made : S
  made = into.put was 0 part.given

  abbrev Given : ℕ → List ℕ → S → Type 0
  Given n o t = Replied 2 reply out n o × (t ≡ if_done (with_room 2 reply out) made was)

  pub taken_refused : (a : ℕ) → begun_of dim s 2 (length out) ≡ Err a → Given a out was
  taken_refused a q = call_refused dim s 2 (length part.given) part.next answer out made was a q

  module _ (e : ℕ) (on : GoesOn dim s 2 (length out) e) (t : S) (r : Part) (put : PartPut into part was r t) where
    fits : none_fits r.used r.next e ≡ none_fits (length part.given) part.next e
    fits = rw (put.next, put.used) refl

    pub taken_full : true ≡ none_fits r.used r.next e → Given 15 out t
    taken_full f =
        let g = call_full dim s 2 (length part.given) part.next answer out made was e on (f ∙ fits) in
        let z : r.used ≡ 0 = eqb-true r.used 0 ((and-eq-true_iff (eqb r.used 0) (ltb r.next e)).0 (sym f)).0 in
        (g.0, put.given ∙ none part.given (sym put.used ∙ z) ∙ g.1)
      where
        none : (l : List A) → length l ≡ 0 → into.put was 0 l ≡ was
        none [] q = lays.none was 0
        none (x ∷ l) q = absurd (omega arith)

    pub taken_done : false ≡ none_fits r.used r.next e → (u : ℕ) → u ≡ second → Given 0 (set (set out 0 r.next) 1 u) t
    taken_done f u q =
        let g = call_done dim s 2 (length part.given) part.next answer out made was e on (f ∙ fits) in
        rw (put.next, q) (g.0, put.given ∙ g.1)
