-- Check by check. The size, once tested, bounds the places that are read after it.
use Prim.Native.Nat.{ℕ}
use mathlib.Core.List.{[]}
use mathlib.Core.Path.{◌≡◌, refl, sym, ap, ◌∙◌}
use native.Mathlib.Omega.{arith}
use lib.Dec.{leb}
use borrow.Author.Tests.{le-leb, lt-leb}
use Rattle.words.specs.Words.{words}
use Rattle.kinds.specs.Kinds.{fixed_part}
use Rattle.kinds.proofs.Types.{curve_type}
use Rattle.headers.specs.Header.{sizing_at}
use Rattle.headers.proofs.Checks.{pass, stop, tail, first}
use Rattle.elements.specs.Attributes.{linkages_ok}
use Rattle.elements.specs.Rules.{fixed_ok, curve_floats_ok}
use Rattle.elements.specs.Simple.{simple_checks}
use Rattle.elements.proofs.Laws.{linked_size, linkages_linked, curve_fixed, curve_fields, curve_floats}
use Rattle.elements.proofs.curve_fault.Goals as goal
use Rattle.elements.proofs.curve_fault.Goals.{After-attributes_ok, After-curve_part-fixed, After-floats_ok}

-- the check of the size by the fixed part
fixed : (c : After-curve_part-fixed) → fixed_ok c.args.dim (words c.args.s.now) c.args.at ≡ leb c.curve_part-fixed.result c.args.size
fixed c =
    let r = c.requires in
    curve_fixed c.args.dim (words c.args.s.now) c.args.at c.args.t c.args.size r.t_value.0 r.t_value.1 _ c.curve_part-fixed.ensures r.t_value_2.0

-- what attributes_ok and floats_ok answer are the checks 11 and 21
linked : (c : After-attributes_ok) → c.attributes_ok.result ≡ linkages_ok c.args.dim (words c.args.s.now) c.args.at
linked c =
    let ws = words c.args.s.now in
    let n = sizing_at c.args.dim ws c.args.at in
    let kind = curve_type c.args.t c.requires.t_value_2.0 in
    c.attributes_ok.ensures c.args.dim (c.curve_part-fixed.ensures n ∙ ap (λ (t : ℕ). fixed_part c.args.dim t n) c.requires.t_value.0)
    ∙ sym (linkages_linked c.args.dim ws c.args.at (rw c.requires.t_value.0 at kind.linked))

floats : (c : After-floats_ok) → c.floats_ok.result ≡ curve_floats_ok c.args.dim (words c.args.s.now) c.args.at
floats c =
    let r = c.requires in
    c.floats_ok.ensures
    ∙ sym (curve_floats c.args.dim (words c.args.s.now) c.args.at c.args.t c.args.size r.t_value.0 r.t_value.1 r.t_value_2.0)

pub curve_part-fixed-requires : goal.curve_part-fixed-requires
curve_part-fixed-requires c = c.requires.t_value_2.0

pub returns-then-size-fixed : goal.returns-then-size-fixed
returns-then-size-fixed c =
    let a = c.args in
    first (simple_checks a.dim (words a.s.now) a.at a.size)
    (stop (fixed (goal.at.returns-then-size-fixed c).After-curve_part-fixed ∙ lt-leb _ _ c.if-size-fixed.true))

pub returns-then-not-size_ok : goal.returns-then-not-size_ok
returns-then-not-size_ok c =
    let a = c.args in
    let r = c.requires in
    let ws = words a.s.now in
    first (simple_checks a.dim ws a.at a.size)
    (pass (fixed (goal.at.returns-then-not-size_ok c).After-curve_part-fixed ∙ le-leb _ _ c.if-size-fixed.false)
    (pass (curve_fields a.dim ws a.at a.t a.size r.t_value.0 r.t_value.1 r.t_value_2.0)
    (stop (sym c.size_ok.ensures ∙ c.if-not-size_ok.true))))

pub attributes_ok-requires : goal.attributes_ok-requires
attributes_ok-requires c =
    let a = c.args in
    let r = c.requires in
    let long = fixed (goal.at.attributes_ok-requires c).After-curve_part-fixed ∙ le-leb _ _ c.if-size-fixed.false in
    let n = linked_size a.dim (words a.s.now) a.at a.t r.t_value.0 long (curve_type a.t r.t_value_2.0).linked in
    let z = r.t_value.1 in
    record { size_value = z; le_size = (omega arith, r.t_value_2.1) }

pub returns-then-not-attributes_ok : goal.returns-then-not-attributes_ok
returns-then-not-attributes_ok c =
    let a = c.args in
    let r = c.requires in
    let ws = words a.s.now in
    let g = goal.at.returns-then-not-attributes_ok c in
    first (simple_checks a.dim ws a.at a.size)
    (pass (fixed g.After-curve_part-fixed ∙ le-leb _ _ c.if-size-fixed.false)
    (pass (curve_fields a.dim ws a.at a.t a.size r.t_value.0 r.t_value.1 r.t_value_2.0)
    (pass (sym c.size_ok.ensures ∙ c.if-not-size_ok.false)
    (stop (sym (linked g.After-attributes_ok) ∙ c.if-not-attributes_ok.true)))))

pub returns-then-not-floats_ok : goal.returns-then-not-floats_ok
returns-then-not-floats_ok c =
    let a = c.args in
    let r = c.requires in
    let ws = words a.s.now in
    let g = goal.at.returns-then-not-floats_ok c in
    first (simple_checks a.dim ws a.at a.size)
    (pass (fixed g.After-curve_part-fixed ∙ le-leb _ _ c.if-size-fixed.false)
    (pass (curve_fields a.dim ws a.at a.t a.size r.t_value.0 r.t_value.1 r.t_value_2.0)
    (pass (sym c.size_ok.ensures ∙ c.if-not-size_ok.false)
    (pass (sym (linked g.After-attributes_ok) ∙ c.if-not-attributes_ok.false)
    (stop (sym (floats g.After-floats_ok) ∙ c.if-not-floats_ok.true))))))

pub returns : goal.returns
returns c =
    let a = c.args in
    let r = c.requires in
    let ws = words a.s.now in
    let g = goal.at.returns c in
    first (simple_checks a.dim ws a.at a.size)
    (pass (fixed g.After-curve_part-fixed ∙ le-leb _ _ c.if-size-fixed.false)
    (pass (curve_fields a.dim ws a.at a.t a.size r.t_value.0 r.t_value.1 r.t_value_2.0)
    (pass (sym c.size_ok.ensures ∙ c.if-not-size_ok.false)
    (pass (sym (linked g.After-attributes_ok) ∙ c.if-not-attributes_ok.false)
    (pass (sym (floats g.After-floats_ok) ∙ c.if-not-floats_ok.false) (tail [] refl))))))
