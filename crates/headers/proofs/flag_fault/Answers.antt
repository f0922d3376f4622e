-- Where the two bits are wrong, bit 6 decides which check fails; else the depth.
use mathlib.Core.List.{List, []}
use mathlib.Core.Path.{refl, sym, ◌∙◌}
use borrow.Author.Tests.{le-leb, lt-leb}
use Rattle.headers.specs.Checks.{Check}
use Rattle.headers.specs.Flags.{reserved_ok, place_ok, flag_checks}
use Rattle.headers.proofs.Checks.{both_true, pass, stop, tail, first}
use Rattle.headers.proofs.Laws.{flags_stop}
use Rattle.headers.proofs.flag_fault.Goals as goal
use Rattle.headers.proofs.flag_fault.Goals.{Start}

-- the checks of the call
abbrev of : Start → List Check
of c = flag_checks c.args.depth c.args.w

pub flags_ok-requires : goal.flags_ok-requires
flags_ok-requires c = tt

pub pick-requires : goal.pick-requires
pick-requires c = tt

pub returns-then-not-flags_ok : goal.returns-then-not-flags_ok
returns-then-not-flags_ok c = c.pick.ensures ∙ first (of (goal.at.returns-then-not-flags_ok c).Start) (flags_stop (c.args.w) (c.args.depth) _ (sym c.flags_ok.ensures ∙ c.if-not-flags_ok.true))

pub returns-then-depth-gt8 : goal.returns-then-depth-gt8
returns-then-depth-gt8 c =
    let p = both_true (reserved_ok c.args.w) (place_ok c.args.depth c.args.w)
    (sym c.flags_ok.ensures ∙ c.if-not-flags_ok.false) in
    first (of (goal.at.returns-then-depth-gt8 c).Start) (pass p.0 (pass p.1 (stop (lt-leb _ _ c.if-depth-gt8.true))))

pub returns : goal.returns
returns c =
    let p = both_true (reserved_ok c.args.w) (place_ok c.args.depth c.args.w)
    (sym c.flags_ok.ensures ∙ c.if-not-flags_ok.false) in
    first (of (goal.at.returns c).Start) (pass p.0 (pass p.1 (pass (le-leb _ _ c.if-depth-gt8.false) (tail [] refl))))
