-- By the words that are there, the floats, then by the type; each part is what its call answers.
use Prim.Native.Nat.{ℕ, ◌+◌, ◌/◌, ◌≤◌, ◌<◌}
use mathlib.Core.Path.{◌≡◌, sym, ◌∙◌}
use mathlib.Core.List.{List}
use mathlib.Core.Bool.{true}
use native.Mathlib.Omega.{arith}
use lib.ListN.{length}
use Rattle.words.specs.Words.{words}
use Rattle.words.proofs.Laws.{length_words}
use Rattle.kinds.specs.Kinds.{is_curve, fixed_part}
use Rattle.curve_views.proofs.Laws.{Inside, curve_few, curve_room, curve_cut, curve_reserved, curve_ellipse, curve_arc}
use Rattle.curve_views.proofs.curve_from.Goals as goal

-- the words of the file, as the code counts them
module _ (s : List ℕ) (n r : ℕ) (e : r ≡ n) where
  cut : (at : ℕ) → length s / 2 < at + r → length (words s) < at + n
  cut at h = let l = length_words s in omega arith

  whole : (at : ℕ) → at + r ≤ length s / 2 → at + n ≤ length (words s)
  whole at h = let l = length_words s in omega arith

-- so all its words are there
inside : (dim at t n : ℕ) {r : ℕ} → is_curve t ≡ true → r ≡ fixed_part dim t 0 → at + r ≤ n → Inside dim at t n
inside dim at t n k e h = curve_room dim at t n k (omega arith)

pub overflow_add-at : goal.overflow_add-at
overflow_add-at c =
    omega (arith, c.fixed_part.ensures, curve_few c.args.dim c.args.t c.requires.1.0, c.requires.1.1)

pub returns-then-file-at : goal.returns-then-file-at
returns-then-file-at c =
    let a = c.args in
    sym (curve_cut a.dim (words a.file.now) a.at a.t c.requires.0 (cut a.file.now _ _ c.fixed_part.ensures a.at c.if-file-at.true))

pub returns-then-not-floats_ok : goal.returns-then-not-floats_ok
returns-then-not-floats_ok c =
    let a = c.args in
    sym (curve_reserved a.dim (words a.file.now) a.at a.t c.requires.0 (whole a.file.now _ _ c.fixed_part.ensures a.at c.if-file-at.false)
    (sym c.floats_ok.ensures ∙ c.if-not-floats_ok.true))

pub overflow_add-axes : goal.overflow_add-axes
overflow_add-axes c =
    let a = c.args in
    omega (arith, c.axes_word.ensures, (inside a.dim a.at a.t _ c.requires.1.0 c.fixed_part.ensures c.if-file-at.false).axes)

pub float_at-primary-requires : goal.float_at-primary-requires
float_at-primary-requires c =
    let a = c.args in
    omega (arith, c.axes_word.ensures, (inside a.dim a.at a.t _ c.requires.1.0 c.fixed_part.ensures c.if-file-at.false).axes)

pub overflow_add-axes-2 : goal.overflow_add-axes-2
overflow_add-axes-2 c =
    let a = c.args in
    omega (arith, c.axes_word.ensures, (inside a.dim a.at a.t _ c.requires.1.0 c.fixed_part.ensures c.if-file-at.false).axes)

pub float_at-secondary-requires : goal.float_at-secondary-requires
float_at-secondary-requires c =
    let a = c.args in
    omega (arith, c.axes_word.ensures, (inside a.dim a.at a.t _ c.requires.1.0 c.fixed_part.ensures c.if-file-at.false).axes)

pub overflow_add-axes-3 : goal.overflow_add-axes-3
overflow_add-axes-3 c =
    let a = c.args in
    omega (arith, c.axes_word.ensures, (inside a.dim a.at a.t _ c.requires.1.0 c.fixed_part.ensures c.if-file-at.false).axes)

pub overflow_add-at-2 : goal.overflow_add-at-2
overflow_add-at-2 c =
    let a = c.args in
    omega (arith, c.origin_word.ensures, (inside a.dim a.at a.t _ c.requires.1.0 c.fixed_part.ensures c.if-file-at.false).origin)

pub origin_at-origin-requires : goal.origin_at-origin-requires
origin_at-origin-requires c =
    let a = c.args in
    omega (arith, c.origin_word.ensures, (inside a.dim a.at a.t _ c.requires.1.0 c.fixed_part.ensures c.if-file-at.false).origin)

pub returns-then-t-eq15 : goal.returns-then-t-eq15
returns-then-t-eq15 c =
    let a = c.args in
    rw (c.float_at-primary.ensures, c.float_at-secondary.ensures, c.turn_at-turn.ensures, c.origin_at-origin.ensures, c.axes_word.ensures, c.origin_word.ensures)
    (sym (curve_ellipse a.dim (words a.file.now) a.at a.t c.requires.0 (whole a.file.now _ _ c.fixed_part.ensures a.at c.if-file-at.false)
    (sym c.floats_ok.ensures ∙ c.if-not-floats_ok.false) c.if-t-eq15.true))

pub returns : goal.returns
returns c =
    let a = c.args in
    rw (
      c.float_at-primary.ensures,
      c.float_at-secondary.ensures,
      c.turn_at-turn.ensures,
      c.origin_at-origin.ensures,
      c.axes_word.ensures,
      c.origin_word.ensures,
      c.long.ensures.is,
      c.long-2.ensures.is,
    )
    (sym (curve_arc a.dim (words a.file.now) a.at a.t c.requires.0 (whole a.file.now _ _ c.fixed_part.ensures a.at c.if-file-at.false)
    (sym c.floats_ok.ensures ∙ c.if-not-floats_ok.false) c.if-t-eq15.false))
