-- The invariant: the bytes that are left decide (`triple_first`); fewer than three are right (`short_right`).
use Prim.Native.Nat.{ℕ}
use mathlib.Core.Path.{refl, sym, ◌∙◌}
use native.Mathlib.Omega.{arith}
use lib.ListN.{length-take, length-drop}
use Rattle.fields.proofs.Bounds.{and_no, and_on}
use Rattle.text_fields.proofs.Triples.{triple_first, short_right}
use Rattle.text_fields.proofs.triples_ok.Goals as goal

pub loop-rest-init : goal.loop-rest-init
loop-rest-init c = refl

pub returns-then-not-field_ok : goal.returns-then-not-field_ok
returns-then-not-field_ok c =
    and_no _ (sym c.field_ok.ensures ∙ c.if-not-field_ok.true) ∙ sym (c.loop-rest.invariant ∙ triple_first _ _ c.in-len3-up.len_at_least)

pub loop-rest-smaller : goal.loop-rest-smaller
loop-rest-smaller c = omega (arith, c.in-len3-up.len_at_least, length-take {A = ℕ}, length-drop {A = ℕ})

pub loop-rest-preserved : goal.loop-rest-preserved
loop-rest-preserved c =
    c.loop-rest.invariant ∙ triple_first _ _ c.in-len3-up.len_at_least ∙ sym (and_on (sym c.field_ok.ensures ∙ c.if-not-field_ok.false) refl)

pub returns : goal.returns
returns c = sym (c.loop-rest.invariant ∙ short_right _ _ c.in_default.len_below)
