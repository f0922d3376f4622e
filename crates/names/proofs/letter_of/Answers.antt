-- `names::letter_of` meets its contract: each arm of the match is a case of `letter_of`, and what is left has no letter.
use mathlib.Core.Path.{sym, ap}
use native.Mathlib.Omega.{arith}
use borrow.Author.Tests.{ne_eqb}
use Rattle.names.specs.Names.{letter_of}
use Rattle.names.proofs.Alphabet.{inside, under, over, letter_none}
use Rattle.names.proofs.letter_of.Goals as goal

pub returns-in-0 : goal.returns-in-0
unfolding letter_of
returns-in-0 c = sym (ap letter_of c.in-0.is)

pub returns-in-27 : goal.returns-in-27
unfolding letter_of
returns-in-27 c = sym (ap letter_of c.in-27.is)

pub returns-in-28 : goal.returns-in-28
unfolding letter_of
returns-in-28 c = sym (ap letter_of c.in-28.is)

pub returns-in-1-to-26 : goal.returns-in-1-to-26
unfolding letter_of
returns-in-1-to-26 c =
    let k = c.args.code in
    simp (ne_eqb k 0 (omega arith), inside 1 k 26 (omega arith) (omega arith))

pub returns-in-30-to-39 : goal.returns-in-30-to-39
unfolding letter_of
returns-in-30-to-39 c =
    let k = c.args.code in
    simp
    (ne_eqb k 0 (omega arith), ne_eqb k 27 (omega arith), ne_eqb k 28 (omega arith), over 1 k 26 (omega arith), inside 30 k 39 (omega arith) (omega arith))

pub returns-in_default : goal.returns-in_default
returns-in_default c =
    let k = c.args.code in
    sym (letter_none k (omega arith) (omega arith) (omega arith) (over 1 k 26 (omega arith)) (under 30 k 39 (omega arith)))

pub returns-in_default-2 : goal.returns-in_default-2
returns-in_default-2 c =
    let k = c.args.code in
    sym (letter_none k (omega arith) (omega arith) (omega arith) (over 1 k 26 (omega arith)) (over 30 k 39 (omega arith)))
