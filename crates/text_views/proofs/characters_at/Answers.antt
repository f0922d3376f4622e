-- The characters lie in the text's own words, so they are a part of the slice.
use Prim.Native.Nat.{◌+◌, ◌-◌}
use mathlib.Core.Path.{◌≡◌, sym, ◌∙◌}
use native.Mathlib.Omega.{arith}
use Rattle.text_views.specs.TextViews.{character_bytes}
use Rattle.text_views.proofs.Inside.{Held, characters_held}
use Rattle.text_views.proofs.characters_at.Goals as goal
use Rattle.text_views.proofs.characters_at.Goals.{In-Ok}

-- the characters lie in the file
held : (c : In-Ok) → Held c.args.dim c.args.file.now c.args.place c.in-Ok.characters.start c.in-Ok.characters.length
held c = characters_held _ _ _ _ _ (sym c.characters_answer.ensures ∙ c.in-Ok.is)

pub overflow_add-end : goal.overflow_add-end
overflow_add-end c = omega (arith, held (goal.at.overflow_add-end c).In-Ok)

pub slice_bounds-result-end : goal.slice_bounds-result-end
slice_bounds-result-end c = omega (arith, held (goal.at.slice_bounds-result-end c).In-Ok)

pub returns-in-Ok : goal.returns-in-Ok
unfolding character_bytes
returns-in-Ok c =
    let many : c.in-Ok.characters.start + c.in-Ok.characters.length - c.in-Ok.characters.start ≡ c.in-Ok.characters.length = omega arith in
    rw (sym c.characters_answer.ensures ∙ c.in-Ok.is, many)

pub returns-in-Err : goal.returns-in-Err
unfolding character_bytes
returns-in-Err c = rw (sym c.characters_answer.ensures ∙ c.in-Err.is)
