-- `names::code_of` meets its contract: each arm of the match is a case of `code_of`, and what is left has code 29.
use mathlib.Core.Path.{sym, ap}
use native.Mathlib.Omega.{arith}
use borrow.Author.Tests.{ne_eqb}
use Rattle.names.specs.Names.{code_of}
use Rattle.names.proofs.Alphabet.{inside, under, over, code_none}
use Rattle.names.proofs.code_of.Goals as goal

pub returns-in-32 : goal.returns-in-32
unfolding code_of
returns-in-32 c = sym (ap code_of c.in-32.is)

pub returns-in-36 : goal.returns-in-36
unfolding code_of
returns-in-36 c = sym (ap code_of c.in-36.is)

pub returns-in-46 : goal.returns-in-46
unfolding code_of
returns-in-46 c = sym (ap code_of c.in-46.is)

pub returns-in-48-to-57 : goal.returns-in-48-to-57
unfolding code_of
returns-in-48-to-57 c =
    let b = c.args.letter in
    simp
    (ne_eqb b 32 (omega arith), ne_eqb b 36 (omega arith), ne_eqb b 46 (omega arith), under 65 b 90 (omega arith), inside 48 b 57 (omega arith) (omega arith))

pub returns-in-65-to-90 : goal.returns-in-65-to-90
unfolding code_of
returns-in-65-to-90 c =
    let b = c.args.letter in
    simp (ne_eqb b 32 (omega arith), inside 65 b 90 (omega arith) (omega arith))

pub returns-in_default : goal.returns-in_default
returns-in_default c =
    let b = c.args.letter in
    sym (code_none b (omega arith) (omega arith) (omega arith) (under 65 b 90 (omega arith)) (under 48 b 57 (omega arith)))

pub returns-in_default-2 : goal.returns-in_default-2
returns-in_default-2 c =
    let b = c.args.letter in
    sym (code_none b (omega arith) (omega arith) (omega arith) (under 65 b 90 (omega arith)) (over 48 b 57 (omega arith)))

pub returns-in_default-3 : goal.returns-in_default-3
returns-in_default-3 c =
    let b = c.args.letter in
    sym
    (code_none b (omega arith) (omega arith) (omega arith) (over 65 b 90 (omega arith)) (over 48 b 57 (omega arith)))
