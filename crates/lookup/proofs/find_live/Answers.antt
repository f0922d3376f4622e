-- The three ends of the rule; where entry low has the name, the table of live cells answers as the elements themselves do.
use Prim.Native.Nat.{ℕ}
use mathlib.Core.Path.{sym, ap, ◌∙◌}
use Rattle.std.specs.Prelude.{Err}
use native.Mathlib.Omega.{arith}
use lib.ListN.{length-replicate}
use Rattle.words.specs.Words.{words}
use Rattle.entries.specs.Entries.{entries}
use Rattle.entries.proofs.Laws.{length_entries}
use Rattle.lookup.specs.Live.{live_in}
use Rattle.lookup.proofs.Table.{marked_none}
use Rattle.lookup.proofs.Steps.{named_is, end_none, end_other, end_steps}
use Rattle.lookup.proofs.find_live.Goals as goal

pub returns-then-s-low : goal.returns-then-s-low
returns-then-s-low c =
    let args = c.args in
    λ xs o a. ap Err c.none_named.ensures ∙ end_none (live_in xs (words args.file.now)) _ _ c.halve-low.ensures
    (omega (arith, length_entries args.s.now, c.if-s-low.true))

pub overflow_add-looks : goal.overflow_add-looks
overflow_add-looks c =
    omega (arith, c.halve-low.ensures.few, length_entries c.args.s.now, c.well_formed)

pub returns-then-not-has_name : goal.returns-then-not-has_name
returns-then-not-has_name c =
    let args = c.args in
    λ xs o a. ap Err c.none_named-then-not-has_name.ensures ∙ end_other (live_in xs (words args.file.now)) _ _ c.halve-low.ensures
    (omega (arith, length_entries args.s.now, c.if-s-low.false)) (sym c.has_name.ensures ∙ c.if-not-has_name.true)

pub fill_live-requires : goal.fill_live-requires
fill_live-requires c =
    record { short = c.requires; room = omega (arith, c.requires, length-replicate {A = ℕ} 16384 0); none = marked_none 16384 }

pub overflow_add-looks-2 : goal.overflow_add-looks-2
overflow_add-looks-2 c =
    omega (arith, c.halve-low.ensures.few, length_entries c.args.s.now, c.well_formed)

pub go_on-requires : goal.go_on-requires
go_on-requires c =
    let here = named_is (entries c.args.s.now) c.halve-low.result.low c.args.name
    (sym c.has_name.ensures ∙ c.if-not-has_name.false) in
    (here.0, (here.1, omega (arith, c.halve-low.ensures.few, length_entries c.args.s.now, c.well_formed)))

pub returns : goal.returns
returns c =
    let args = c.args in
    λ xs o a. end_steps c.halve-low.ensures (omega (arith, length_entries args.s.now, c.if-s-low.false))
    (c.fill_live.ensures xs o a) c.go_on.ensures
