-- Each test is of one axis (`held`): the first that fails decides, and in a 2D file z is not asked.
use Prim.Native.Nat.{◌+◌}
use mathlib.Core.Path.{◌≡◌}
use native.Mathlib.Omega.{arith}
use mir.Syntax.{w64}
use mir.Val.{SFits}
use borrow.Author.Rules.{rules}
use Rattle.words.specs.Words.{words, long_at, signed}
use Rattle.range_checks.specs.InRange.{between}
use Rattle.range_checks.proofs.Laws.{held, not_x, not_y, flat_lies, solid_lies, words_least, words_solid}
use Rattle.range_checks.proofs.lies_at.Goals as goal
use Rattle.range_checks.proofs.lies_at.Goals.{After-between, After-between-2, After-between-3}

test_x : (c : After-between) → c.between.result ≡ between c.in-Some.range.low_x c.in-Some.range.high_x (signed (long_at (words c.args.file.now) c.args.first))
test_x c =
    let low : SFits w64 c.in-Some.range.low_x = search rules in
    let high : SFits w64 c.in-Some.range.high_x = search rules in
    held c.in-Some.range.low_x c.in-Some.range.high_x c.known_signed.result low.sfits high.sfits c.known_signed.type_inv _
    c.known_signed.ensures c.between.ensures

test_y : (c : After-between-2) → c.between-2.result ≡ between c.in-Some.range.low_y c.in-Some.range.high_y (signed (long_at (words c.args.file.now) (c.args.first + 2)))
test_y c =
    let low : SFits w64 c.in-Some.range.low_y = search rules in
    let high : SFits w64 c.in-Some.range.high_y = search rules in
    held c.in-Some.range.low_y c.in-Some.range.high_y c.known_signed-2.result low.sfits high.sfits c.known_signed-2.type_inv _
    c.known_signed-2.ensures c.between-2.ensures

test_z : (c : After-between-3) → c.between-3.result ≡ between c.in-Some.range.low_z c.in-Some.range.high_z (signed (long_at (words c.args.file.now) (c.args.first + 4)))
test_z c =
    let low : SFits w64 c.in-Some.range.low_z = search rules in
    let high : SFits w64 c.in-Some.range.high_z = search rules in
    held c.in-Some.range.low_z c.in-Some.range.high_z c.known_signed-3.result low.sfits high.sfits c.known_signed-3.type_inv _
    c.known_signed-3.ensures c.between-3.ensures

pub known_signed-requires : goal.known_signed-requires
known_signed-requires c = (omega (arith, c.requires.0), λ k. omega (arith, c.requires.1 k, words_least c.args.dim))

pub returns-then-not-between : goal.returns-then-not-between
returns-then-not-between c =
    let a = c.args in
    not_x a.dim (words a.file.now) a.first c.in-Some.is (test_x (goal.at.returns-then-not-between c).After-between) c.if-not-between.true

pub known_signed-requires-2 : goal.known_signed-requires-2
known_signed-requires-2 c =
    (omega (arith, c.requires.0), λ k. omega (arith, c.requires.1 k, words_least c.args.dim))

pub returns-then-not-between-2 : goal.returns-then-not-between-2
returns-then-not-between-2 c =
    let a = c.args in
    not_y a.dim (words a.file.now) a.first c.in-Some.is (test_x (goal.at.returns-then-not-between-2 c).After-between) c.if-not-between.false (test_y (goal.at.returns-then-not-between-2 c).After-between-2) c.if-not-between-2.true

pub returns-then-dim-eq2 : goal.returns-then-dim-eq2
returns-then-dim-eq2 c =
    let a = c.args in
    flat_lies a.dim (words a.file.now) a.first c.in-Some.is (test_x (goal.at.returns-then-dim-eq2 c).After-between) c.if-not-between.false (test_y (goal.at.returns-then-dim-eq2 c).After-between-2) c.if-not-between-2.false c.if-dim-eq2.true

pub known_signed-requires-3 : goal.known_signed-requires-3
known_signed-requires-3 c =
    (omega (arith, c.requires.0), λ k. omega (arith, c.requires.1 k, words_solid c.args.dim c.if-dim-eq2.false))

pub returns : goal.returns
returns c =
    let a = c.args in
    solid_lies a.dim (words a.file.now) a.first c.in-Some.is (test_x (goal.at.returns c).After-between) c.if-not-between.false (test_y (goal.at.returns c).After-between-2) c.if-not-between-2.false c.if-dim-eq2.false (test_z (goal.at.returns c).After-between-3)
