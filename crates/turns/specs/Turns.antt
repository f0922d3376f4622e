-- How a text, an ellipse or an arc is turned (RULES.md, "Text", "Ellipses and arcs"): by the longs from place i on, unsigned, in
-- their stored order; in 2D one, the rotation, in 3D four of a quaternion.
use Rattle.std.specs.Prelude.{ℕ, ◌+◌, List, [], ◌∷◌, cond, eqb, ℤ, pos}
use Rattle.words.specs.Words.{long_at}
use Rattle.turns.specs.declared.Turn.{Turn}
use Rattle.turns.specs.declared.Turn.TheVariants.{Flat, Solid}

unfoldable pub turn_at : ℕ → List ℕ → ℕ → Turn
turn_at dim ws i = cond (eqb dim 2) (Flat (long_at ws i)) (Solid (long_at ws i) (long_at ws (i + 2)) (long_at ws (i + 4)) (long_at ws (i + 6)))

-- as four numbers: in 2D the rotation and zeros
abbrev pub turn_numbers : Turn → List ℤ
turn_numbers (Flat rotation) = pos rotation ∷ pos 0 ∷ pos 0 ∷ pos 0 ∷ []
turn_numbers (Solid a b c d) = pos a ∷ pos b ∷ pos c ∷ pos d ∷ []
