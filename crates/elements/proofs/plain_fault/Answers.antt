-- An ellipse, an arc or a text by `late_fault`, any other check by check. The size, once tested, bounds the places that are read after it.
use Prim.Native.Nat.{ℕ}
use mathlib.Core.Bool.{Bool, true, false, not, ◌||◌, false≢true}
use mathlib.Core.List.{List, [], ◌∷◌}
use mathlib.Core.Path.{◌≡◌, refl, sym, ap, ◌∙◌}
use native.Mathlib.Omega.{arith}
use lib.Dec.{eqb}
use borrow.Author.Tests.{ne_eqb, le-leb, lt-leb}
use Rattle.words.specs.Words.{words}
use Rattle.kinds.specs.Kinds.{is_curve, is_linked, fixed_part}
use Rattle.elements.specs.Attributes.{attributes_ok, linkages_ok}
use Rattle.elements.specs.Rules.{text_fields_ok, curve_floats_ok}
use Rattle.elements.specs.Simple.{simple_checks}
use Rattle.headers.specs.Header.{type_at, sizing_at, attributes_at}
use Rattle.headers.specs.Checks.{Check, check}
use Rattle.headers.proofs.Checks.{pass, stop, tail, first}
use Rattle.elements.proofs.Laws.{linked_size, linkages_linked, fields_none, floats_none}
use Rattle.elements.proofs.plain_fault.Goals as goal

-- the checks of the call
abbrev of : ℕ → ℕ → ℕ → List ℕ → ℕ → ℕ → List Check
of under t dim ws at size = check (not (eqb under 7) || eqb t 17) 6 ∷ simple_checks dim ws at size

neither : (a b : Bool) → (a || b) ≡ false → (a ≡ false) × (b ≡ false)
neither false false e = (refl, refl)
neither false true e = (refl, e)
neither true b e = absurd (false≢true (sym e))

module _ (dim t under : ℕ) (ws : List ℕ) (at size : ℕ) where
  -- no text may stand under 7, and the fields and floats of one that is neither a text nor a curve
  stands : (under ≡ 7 → ⊥) → (not (eqb under 7) || eqb t 17) ≡ true
  stands h = ap (λ (b : Bool). not b || eqb t 17) (ne_eqb under 7 h)

  fieldless : t ≡ type_at ws at → eqb t 17 ≡ false → text_fields_ok dim ws at ≡ true
  fieldless e h = fields_none dim ws at (rw e at h)

  unfloated : t ≡ type_at ws at → is_curve t ≡ false → curve_floats_ok dim ws at ≡ true
  unfloated e h = floats_none dim ws at (rw e at h)

  -- what attributes_ok answers is check 11
  linked : (fixed : ℕ) (r : Bool) → t ≡ type_at ws at → is_linked t ≡ true → fixed ≡ fixed_part dim t (sizing_at dim ws at) → ((d : ℕ) → fixed ≡ fixed_part d (type_at ws at) (sizing_at d ws at) → r ≡ (not (attributes_at ws at) || attributes_ok d ws at)) → r ≡ linkages_ok dim ws at
  linked fixed r e l f h = h dim (rw e at f) ∙ sym (linkages_linked dim ws at (rw e at l))

pub is_late-requires : goal.is_late-requires
is_late-requires c = (c.requires.t_value_2.0, c.requires.t_value_2.1.0)

pub late_fault-requires : goal.late_fault-requires
late_fault-requires c = record {
  t_value = c.requires.t_value;
  t_value_2 = (sym c.is_late.ensures ∙ c.if-is_late.true, c.requires.t_value_2.1.1);
}

pub returns-then-is_late : goal.returns-then-is_late
returns-then-is_late c = c.late_fault.ensures

pub returns-then-under-eq7 : goal.returns-then-under-eq7
returns-then-under-eq7 c =
    let a = c.args in
    let o = neither (is_curve a.t) (eqb a.t 17) (sym c.is_late.ensures ∙ c.if-is_late.false) in
    first (of a.under a.t a.dim (words a.s.now) a.at a.size) (stop (simp (c.if-under-eq7.true, o.1)))

pub plain_part-fixed-requires : goal.plain_part-fixed-requires
plain_part-fixed-requires c =
    let o = neither (is_curve c.args.t) (eqb c.args.t 17) (sym c.is_late.ensures ∙ c.if-is_late.false) in
    let r = c.requires.t_value_2 in
    record { t_value = c.requires.t_value; t_value_2 = (r.0, (r.1.0, (o.0, (o.1, r.1.1)))) }

pub returns-then-size-fixed : goal.returns-then-size-fixed
returns-then-size-fixed c =
    let a = c.args in
    first (of a.under a.t a.dim (words a.s.now) a.at a.size)
    (pass (stands a.dim a.t a.under (words a.s.now) a.at a.size c.if-under-eq7.false) (stop (sym c.plain_part-fixed.ensures.0 ∙ lt-leb _ _ c.if-size-fixed.true)))

pub returns-then-not-size_ok : goal.returns-then-not-size_ok
returns-then-not-size_ok c =
    let a = c.args in
    let o = neither (is_curve a.t) (eqb a.t 17) (sym c.is_late.ensures ∙ c.if-is_late.false) in
    first (of a.under a.t a.dim (words a.s.now) a.at a.size)
    (pass (stands a.dim a.t a.under (words a.s.now) a.at a.size c.if-under-eq7.false)
    (pass (sym c.plain_part-fixed.ensures.0 ∙ le-leb _ _ c.if-size-fixed.false)
    (pass (fieldless a.dim a.t a.under (words a.s.now) a.at a.size c.requires.t_value.0 o.1)
    (stop (sym c.size_ok.ensures ∙ c.if-not-size_ok.true)))))

pub attributes_ok-requires : goal.attributes_ok-requires
attributes_ok-requires c =
    let a = c.args in
    let long = sym c.plain_part-fixed.ensures.0 ∙ le-leb _ _ c.if-size-fixed.false in
    let n = linked_size a.dim (words a.s.now) a.at a.t c.requires.t_value.0 long c.requires.t_value_2.0 in
    let z = c.requires.t_value.1 in
    record { size_value = z; le_size = (omega arith, c.requires.t_value_2.1.1) }

pub returns-then-not-attributes_ok : goal.returns-then-not-attributes_ok
returns-then-not-attributes_ok c =
    let a = c.args in
    let o = neither (is_curve a.t) (eqb a.t 17) (sym c.is_late.ensures ∙ c.if-is_late.false) in
    let long = sym c.plain_part-fixed.ensures.0 ∙ le-leb _ _ c.if-size-fixed.false in
    let linked_here = linked a.dim a.t a.under (words a.s.now) a.at a.size _ _ c.requires.t_value.0 c.requires.t_value_2.0 (c.plain_part-fixed.ensures.1 long) c.attributes_ok.ensures in
    first (of a.under a.t a.dim (words a.s.now) a.at a.size)
    (pass (stands a.dim a.t a.under (words a.s.now) a.at a.size c.if-under-eq7.false)
    (pass long
    (pass (fieldless a.dim a.t a.under (words a.s.now) a.at a.size c.requires.t_value.0 o.1)
    (pass (sym c.size_ok.ensures ∙ c.if-not-size_ok.false)
    (stop (sym linked_here ∙ c.if-not-attributes_ok.true))))))

pub returns : goal.returns
returns c =
    let a = c.args in
    let o = neither (is_curve a.t) (eqb a.t 17) (sym c.is_late.ensures ∙ c.if-is_late.false) in
    let long = sym c.plain_part-fixed.ensures.0 ∙ le-leb _ _ c.if-size-fixed.false in
    let linked_here = linked a.dim a.t a.under (words a.s.now) a.at a.size _ _ c.requires.t_value.0 c.requires.t_value_2.0 (c.plain_part-fixed.ensures.1 long) c.attributes_ok.ensures in
    first (of a.under a.t a.dim (words a.s.now) a.at a.size)
    (pass (stands a.dim a.t a.under (words a.s.now) a.at a.size c.if-under-eq7.false)
    (pass long
    (pass (fieldless a.dim a.t a.under (words a.s.now) a.at a.size c.requires.t_value.0 o.1)
    (pass (sym c.size_ok.ensures ∙ c.if-not-size_ok.false)
    (pass (sym linked_here ∙ c.if-not-attributes_ok.false)
    (pass (unfloated a.dim a.t a.under (words a.s.now) a.at a.size c.requires.t_value.0 o.0) (tail [] refl)))))))
