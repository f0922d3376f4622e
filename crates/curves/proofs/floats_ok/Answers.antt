-- The axes, then x and y, then z, as `floats_are` puts them.
use Prim.Native.Nat.{◌+◌}
use mathlib.Core.Bool.{true}
use mathlib.Core.List.{[], ◌∷◌}
use mathlib.Core.Path.{◌≡◌, sym, ◌∙◌}
use native.Mathlib.Omega.{arith}
use borrow.Author.Tests.{ne_eqb}
use Rattle.words.specs.Words.{words}
use Rattle.words.proofs.Laws.{length_words}
use Rattle.curves.specs.Curves.{axes_word, origin_word, float_places, each_float_ok, floats_ok}
use Rattle.curves.proofs.Laws.{axes_early, origin_early, each_beyond, floats_are}
use Rattle.curves.proofs.floats_ok.Goals as goal
use Rattle.curves.proofs.floats_ok.Goals.{After-pair_ok, After-pair_ok-2}

pub returns-then-s-at : goal.returns-then-s-at
unfolding floats_ok
returns-then-s-at c =
    let a = c.args in
    let l = length_words a.s.now in
    sym (each_beyond (float_places a.dim a.t) (words a.s.now) a.at (omega arith))

pub overflow_add-origin : goal.overflow_add-origin
overflow_add-origin c = let a = c.args in omega (arith, c.origin_word.ensures, origin_early a.dim a.t)

pub overflow_add-at : goal.overflow_add-at
overflow_add-at c = omega (arith, c.axes_word.ensures, axes_early c.args.t)

pub pair_ok-requires : goal.pair_ok-requires
pair_ok-requires c = omega (arith, c.axes_word.ensures, axes_early c.args.t)

-- what was asked of the axes, and of the origin
axes : (c : After-pair_ok) → let a = c.args in c.pair_ok.result ≡ each_float_ok (0 ∷ 4 ∷ []) (words a.s.now) (a.at + axes_word a.t)
axes c = rw c.axes_word.ensures at c.pair_ok.ensures

origin : (c : After-pair_ok-2) → let a = c.args in c.pair_ok-2.result ≡ each_float_ok (0 ∷ 4 ∷ []) (words a.s.now) (a.at + origin_word a.dim a.t)
origin c = rw c.origin_word.ensures at c.pair_ok-2.ensures

pub returns-then-not-pair_ok : goal.returns-then-not-pair_ok
returns-then-not-pair_ok c =
    let a = c.args in
    rw (floats_are a.dim a.t (words a.s.now) a.at, sym (axes (goal.at.returns-then-not-pair_ok c).After-pair_ok) ∙ c.if-not-pair_ok.true)

pub pair_ok-requires-2 : goal.pair_ok-requires-2
pair_ok-requires-2 c =
    let a = c.args in
    omega (arith, c.origin_word.ensures, origin_early a.dim a.t)

-- the axes are right
first : (c : After-pair_ok-2) → let a = c.args in each_float_ok (0 ∷ 4 ∷ []) (words a.s.now) (a.at + axes_word a.t) ≡ true
first c = sym (rw c.axes_word.ensures at c.pair_ok.ensures) ∙ c.if-not-pair_ok.false

pub returns-then-not-pair_ok-2 : goal.returns-then-not-pair_ok-2
returns-then-not-pair_ok-2 c =
    let a = c.args in
    rw (floats_are a.dim a.t (words a.s.now) a.at, first (goal.at.returns-then-not-pair_ok-2 c).After-pair_ok-2, sym (origin (goal.at.returns-then-not-pair_ok-2 c).After-pair_ok-2) ∙ c.if-not-pair_ok-2.true)

pub returns-then-dim-eq2 : goal.returns-then-dim-eq2
returns-then-dim-eq2 c =
    let a = c.args in
    rw (floats_are a.dim a.t (words a.s.now) a.at, first (goal.at.returns-then-dim-eq2 c).After-pair_ok-2, sym (origin (goal.at.returns-then-dim-eq2 c).After-pair_ok-2) ∙ c.if-not-pair_ok-2.false, c.if-dim-eq2.true)

pub overflow_add-origin-2 : goal.overflow_add-origin-2
overflow_add-origin-2 c =
    let a = c.args in
    omega (arith, c.origin_word.ensures, origin_early a.dim a.t)

pub returns : goal.returns
returns c =
    let a = c.args in
    rw (
      floats_are a.dim a.t (words a.s.now) a.at,
      first (goal.at.returns c).After-pair_ok-2,
      sym (origin (goal.at.returns c).After-pair_ok-2) ∙ c.if-not-pair_ok-2.false,
      ne_eqb _ 2 c.if-dim-eq2.false,
    )
    (rw (c.origin_word.ensures, ne_eqb _ 2 c.if-dim-eq2.false) at c.float_ok.ensures)
