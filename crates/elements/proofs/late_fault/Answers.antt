-- A text by `text_fault`, an ellipse or an arc by `curve_fault`, which may not stand under 7.
use Prim.Native.Nat.{ℕ}
use mathlib.Core.Bool.{Bool, not, ◌||◌, or-true, or-false}
use mathlib.Core.List.{List, ◌∷◌}
use mathlib.Core.Path.{sym, ap, ◌∙◌}
use lib.Dec.{eqb}
use borrow.Author.Tests.{ne_eqb}
use Rattle.words.specs.Words.{words}
use Rattle.headers.specs.Checks.{Check, check}
use Rattle.headers.proofs.Checks.{pass, stop, tail, first}
use Rattle.elements.specs.Simple.{simple_checks}
use Rattle.elements.proofs.late_fault.Goals as goal

-- the checks of the call
abbrev of : ℕ → ℕ → ℕ → List ℕ → ℕ → ℕ → List Check
of under t dim ws at size = check (not (eqb under 7) || eqb t 17) 6 ∷ simple_checks dim ws at size

pub text_fault-requires : goal.text_fault-requires
text_fault-requires c = (sym c.if-t-eq17.true ∙ c.requires.t_value.0, (c.requires.t_value.1, c.requires.t_value_2.1))

pub returns-then-t-eq17 : goal.returns-then-t-eq17
returns-then-t-eq17 c =
    let a = c.args in
    first (of a.under a.t a.dim (words a.s.now) a.at a.size) (pass (simp (c.if-t-eq17.true, or-true)) (tail _ c.text_fault.ensures))

pub returns-then-under-eq7 : goal.returns-then-under-eq7
returns-then-under-eq7 c =
    let a = c.args in
    first (of a.under a.t a.dim (words a.s.now) a.at a.size) (stop (simp (c.if-under-eq7.true, ne_eqb _ _ c.if-t-eq17.false)))

pub curve_fault-requires : goal.curve_fault-requires
curve_fault-requires c = record {
  t_value = c.requires.t_value;
  t_value_2 = (rw (ne_eqb _ 17 c.if-t-eq17.false, or-false) at c.requires.t_value_2.0, c.requires.t_value_2.1);
}

pub returns : goal.returns
returns c =
    let a = c.args in
    first (of a.under a.t a.dim (words a.s.now) a.at a.size)
    (pass (ap (λ (b : Bool). not b || eqb a.t 17) (ne_eqb a.under 7 c.if-under-eq7.false)) (tail _ c.curve_fault.ensures))
