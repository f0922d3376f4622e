-- By whether the entry is there.
use native.Mathlib.Omega.{arith}
use Rattle.entries.specs.Entries.{entries}
use Rattle.entries.proofs.Laws.{length_entries}
use Rattle.lookup.proofs.Steps.{named_there, named_none}
use Rattle.lookup.proofs.has_name.Goals as goal

pub returns-then-i-s : goal.returns-then-i-s
returns-then-i-s c =
    let args = c.args in
    named_there (entries args.s.now) args.i args.name (omega (arith, length_entries args.s.now, c.if-i-s.true)) c.entry.ensures

pub returns : goal.returns
returns c =
    let args = c.args in
    named_none (entries args.s.now) args.i args.name (omega (arith, length_entries args.s.now, c.if-i-s.false))
