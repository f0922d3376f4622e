-- The words of an ellipse (type 15) or an arc (type 16), counted from its start (RULES.md, "Ellipses and arcs"), and whether each of
-- its floats is a number. t is the type, `at` its place in the words `ws`.
use Rattle.std.specs.Prelude.{ℕ, ◌+◌, List, [], ◌∷◌, Bool, true, not, cond, ◌&&◌, eqb}
use Rattle.words.specs.Words.{word_at}
use Rattle.dfloats.specs.FirstWord.{is_reserved}

-- the two axes, a float each: an arc has its start and its sweep, a long each, before them
abbrev pub axes_word : ℕ → ℕ
axes_word t = cond (eqb t 15) 18 22

-- behind them how it is turned: in 2D a long, in 3D four
abbrev pub turn_word : ℕ → ℕ
turn_word t = axes_word t + 8

-- behind that the origin, a float for each dimension
abbrev pub origin_word : ℕ → ℕ → ℕ
origin_word dim t = turn_word t + cond (eqb dim 2) 2 8

-- where each float begins
abbrev pub float_places : ℕ → ℕ → List ℕ
float_places dim t =
    axes_word t ∷ (axes_word t + 4) ∷ origin_word dim t ∷ (origin_word dim t + 4) ∷ cond (eqb dim 2) [] ((origin_word dim t + 8) ∷ [])

-- no float that begins at one of these words is refused
abbrev pub each_float_ok : List ℕ → List ℕ → ℕ → Bool
each_float_ok [] ws at = true
each_float_ok (k ∷ ks) ws at = not (is_reserved (word_at ws (at + k))) && each_float_ok ks ws at

-- 21 unless each float is a number
unfoldable pub floats_ok : ℕ → ℕ → List ℕ → ℕ → Bool
floats_ok dim t ws at = each_float_ok (float_places dim t) ws at
