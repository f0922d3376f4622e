-- Check by check. The fixed part, once tested, bounds the places that are read after it.
use Prim.Native.Nat.{ℕ}
use mathlib.Core.Bool.{true}
use mathlib.Core.List.{List, [], ◌∷◌}
use mathlib.Core.Path.{◌≡◌, refl, sym, ◌∙◌}
use native.Mathlib.Omega.{arith}
use Rattle.words.specs.Words.{words}
use Rattle.kinds.specs.Kinds.{may_stand}
use Rattle.elements.specs.Attributes.{linkages_ok}
use Rattle.elements.specs.Rules.{fixed_ok, extent_ok, content_checks}
use Rattle.headers.specs.Checks.{Check, check}
use Rattle.kinds.proofs.Types.{header_long}
use Rattle.headers.proofs.Checks.{pass, stop, tail, first}
use Rattle.elements.proofs.Laws.{header_short, header_fixed, header_part, header_fields, header_floats, extent_header}
use Rattle.elements.proofs.header_fault.Goals as goal
use Rattle.elements.proofs.header_fault.Goals.{After-extent_ok, After-linkages_ok, Else-size-fixed}

-- the checks of the call
abbrev of : ℕ → ℕ → ℕ → List ℕ → ℕ → ℕ → List Check
of dim under t ws at room = check (may_stand dim under t) 6 ∷ content_checks dim ws at room

-- the size is right
sized : (c : Else-size-fixed) → fixed_ok c.args.dim (words c.args.s.now) c.args.at ≡ true
sized c =
    let r = c.requires in
    header_fixed c.args.dim (words c.args.s.now) c.args.at c.args.t c.args.size r.t_value.0 r.t_value.1 _ c.header_part-fixed.ensures r.t_value_2.0 c.if-size-fixed.false

-- what extent_ok and linkages_ok answer are the checks 8 and 11
extended : (c : After-extent_ok) → c.extent_ok.result ≡ extent_ok (words c.args.s.now) c.args.at c.args.room
extended c =
    (rw c.requires.t_value.1 at c.extent_ok.ensures)
    ∙ sym (extent_header (words c.args.s.now) c.args.at c.args.room (rw c.requires.t_value.0 at c.requires.t_value_2.0))

linked : (c : After-linkages_ok) → c.linkages_ok.result ≡ linkages_ok c.args.dim (words c.args.s.now) c.args.at
linked c =
    let r = c.requires in
    c.linkages_ok.ensures c.args.dim
    (header_part c.args.dim (words c.args.s.now) c.args.at c.args.t c.args.size r.t_value.0 r.t_value.1 _ c.header_part-fixed.ensures r.t_value_2.0)

pub returns-then-not-may_stand : goal.returns-then-not-may_stand
returns-then-not-may_stand c =
    let a = c.args in
    first (of a.dim a.under a.t (words a.s.now) a.at a.room) (stop (sym c.may_stand.ensures ∙ c.if-not-may_stand.true))

pub returns-then-size-lt20 : goal.returns-then-size-lt20
returns-then-size-lt20 c =
    let a = c.args in
    let r = c.requires in
    let least = header_long a.dim a.t 0 r.t_value_2.0 in
    first (of a.dim a.under a.t (words a.s.now) a.at a.room)
    (pass (sym c.may_stand.ensures ∙ c.if-not-may_stand.false)
    (stop (header_short a.dim (words a.s.now) a.at a.t a.size r.t_value.0 r.t_value.1 _ refl r.t_value_2.0 (omega arith))))

pub header_part-fixed-requires : goal.header_part-fixed-requires
header_part-fixed-requires c = c.requires.t_value_2.0

pub returns-then-size-fixed : goal.returns-then-size-fixed
returns-then-size-fixed c =
    let a = c.args in
    let r = c.requires in
    first (of a.dim a.under a.t (words a.s.now) a.at a.room)
    (pass (sym c.may_stand.ensures ∙ c.if-not-may_stand.false)
    (stop (header_short a.dim (words a.s.now) a.at a.t a.size r.t_value.0 r.t_value.1 _ c.header_part-fixed.ensures r.t_value_2.0 c.if-size-fixed.true)))

pub extent_ok-requires : goal.extent_ok-requires
extent_ok-requires c =
    let n = c.if-size-lt20.false in
    let b = c.requires.t_value_2.1 in
    omega arith

pub returns-then-not-extent_ok : goal.returns-then-not-extent_ok
returns-then-not-extent_ok c =
    let a = c.args in
    let r = c.requires in
    let ws = words a.s.now in
    let g = goal.at.returns-then-not-extent_ok c in
    first (of a.dim a.under a.t ws a.at a.room)
    (pass (sym c.may_stand.ensures ∙ c.if-not-may_stand.false)
    (pass (sized g.Else-size-fixed)
    (pass (header_fields a.dim ws a.at a.t a.size r.t_value.0 r.t_value.1 r.t_value_2.0)
    (stop (sym (extended g.After-extent_ok) ∙ c.if-not-extent_ok.true)))))

pub linkages_ok-requires : goal.linkages_ok-requires
linkages_ok-requires c =
    let n = c.if-size-lt20.false in
    let r = c.requires in
    record { t_value = r.t_value; t_value_2 = (r.t_value_2.0, (omega arith, r.t_value_2.1)) }

pub returns-then-not-linkages_ok : goal.returns-then-not-linkages_ok
returns-then-not-linkages_ok c =
    let a = c.args in
    let r = c.requires in
    let ws = words a.s.now in
    let g = goal.at.returns-then-not-linkages_ok c in
    first (of a.dim a.under a.t ws a.at a.room)
    (pass (sym c.may_stand.ensures ∙ c.if-not-may_stand.false)
    (pass (sized g.Else-size-fixed)
    (pass (header_fields a.dim ws a.at a.t a.size r.t_value.0 r.t_value.1 r.t_value_2.0)
    (pass (sym (extended g.After-extent_ok) ∙ c.if-not-extent_ok.false)
    (stop (sym (linked g.After-linkages_ok) ∙ c.if-not-linkages_ok.true))))))

pub stored_name_ok-requires : goal.stored_name_ok-requires
stored_name_ok-requires c =
    let n = c.if-size-lt20.false in
    let b = c.requires.t_value_2.1 in
    (c.requires.t_value.0, omega arith)

pub returns-then-not-stored_name_ok : goal.returns-then-not-stored_name_ok
returns-then-not-stored_name_ok c =
    let a = c.args in
    let r = c.requires in
    let ws = words a.s.now in
    let g = goal.at.returns-then-not-stored_name_ok c in
    first (of a.dim a.under a.t ws a.at a.room)
    (pass (sym c.may_stand.ensures ∙ c.if-not-may_stand.false)
    (pass (sized g.Else-size-fixed)
    (pass (header_fields a.dim ws a.at a.t a.size r.t_value.0 r.t_value.1 r.t_value_2.0)
    (pass (sym (extended g.After-extent_ok) ∙ c.if-not-extent_ok.false)
    (pass (sym (linked g.After-linkages_ok) ∙ c.if-not-linkages_ok.false)
    (pass (header_floats a.dim ws a.at a.t a.size r.t_value.0 r.t_value.1 r.t_value_2.0)
    (stop (sym c.stored_name_ok.ensures ∙ c.if-not-stored_name_ok.true))))))))

pub returns : goal.returns
returns c =
    let a = c.args in
    let r = c.requires in
    let ws = words a.s.now in
    let g = goal.at.returns c in
    first (of a.dim a.under a.t ws a.at a.room)
    (pass (sym c.may_stand.ensures ∙ c.if-not-may_stand.false)
    (pass (sized g.Else-size-fixed)
    (pass (header_fields a.dim ws a.at a.t a.size r.t_value.0 r.t_value.1 r.t_value_2.0)
    (pass (sym (extended g.After-extent_ok) ∙ c.if-not-extent_ok.false)
    (pass (sym (linked g.After-linkages_ok) ∙ c.if-not-linkages_ok.false)
    (pass (header_floats a.dim ws a.at a.t a.size r.t_value.0 r.t_value.1 r.t_value_2.0)
    (pass (sym c.stored_name_ok.ensures ∙ c.if-not-stored_name_ok.false) (tail [] refl))))))))
