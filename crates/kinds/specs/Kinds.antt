-- The types (RULES.md, "Fixed parts", "Complex elements", "What may stand where").
use Rattle.std.specs.Prelude.{ℕ, ◌+◌, ◌*◌, List, [], ◌∷◌, Bool, false, not, ◌&&◌, ◌||◌, cond, eqb, leb}
use Rattle.texts.specs.Texts.{counts_word, text_part}

-- a type is one of a list
abbrev pub one_of : List ℕ → ℕ → Bool
one_of [] t = false
one_of (x ∷ xs) t = eqb t x || one_of xs t

-- headers, which have a total; those that also have a count
abbrev pub is_header : ℕ → Bool
is_header = one_of (1 ∷ 2 ∷ 7 ∷ 12 ∷ 14 ∷ 18 ∷ 19 ∷ [])

abbrev pub is_counted : ℕ → Bool
is_counted = one_of (7 ∷ 12 ∷ 14 ∷ 18 ∷ 19 ∷ [])

-- the types with N points from word 19
abbrev pub is_pointed : ℕ → Bool
is_pointed = one_of (4 ∷ 6 ∷ 11 ∷ 21 ∷ [])

-- N, their number of points, is from 2 to 101
abbrev pub points_within : ℕ → Bool
points_within n = leb 2 n && leb n 101

-- the types whose fixed part is as long as a word of theirs says: N, or a text's counts; and which word that is
abbrev pub is_sized : ℕ → Bool
is_sized = one_of (4 ∷ 6 ∷ 11 ∷ 17 ∷ 21 ∷ [])

abbrev pub sizing_word : ℕ → ℕ → ℕ
sizing_word dim t = cond (eqb t 17) (counts_word dim) 18

-- the ellipses and arcs, which have floats
abbrev pub is_curve : ℕ → Bool
is_curve = one_of (15 ∷ 16 ∷ [])

-- the types that may have attributes: every known type but 1
abbrev pub is_linked : ℕ → Bool
is_linked = one_of (2 ∷ 3 ∷ 4 ∷ 6 ∷ 7 ∷ 11 ∷ 12 ∷ 14 ∷ 15 ∷ 16 ∷ 17 ∷ 18 ∷ 19 ∷ 21 ∷ [])

-- the types that are refused wherever they stand
abbrev pub is_unread : ℕ → Bool
is_unread = one_of (24 ∷ 27 ∷ 87 ∷ [])

-- the cells, which have a name of two words: it begins at word 16 of type 1, at word 19 of type 2
abbrev pub is_cell : ℕ → Bool
is_cell = one_of (1 ∷ 2 ∷ [])

abbrev pub name_word : ℕ → ℕ
name_word t = cond (eqb t 1) 16 19

-- the fixed part in words, where n is the word that sizes it; a point has as many longs as the file has dimensions. A raw
-- element has at least 2
unfoldable pub fixed_part : ℕ → ℕ → ℕ → ℕ
fixed_part dim t n =
    cond (eqb t 1) 35
    (cond (eqb t 2) (cond (eqb dim 2) 46 62)
    (cond (eqb t 3) (cond (eqb dim 2) 26 30)
    (cond (is_pointed t) (cond (eqb dim 2) (19 + 4 * n) (19 + 6 * n))
    (cond (eqb t 7) (cond (eqb dim 2) 35 43)
    (cond (one_of (12 ∷ 14 ∷ []) t) 20
    (cond (eqb t 15) (cond (eqb dim 2) 36 46)
    (cond (eqb t 16) (cond (eqb dim 2) 40 50)
    (cond (eqb t 17) (text_part dim n)
    (cond (one_of (18 ∷ 19 ∷ []) t) 21 2)))))))))

-- what may stand under a header of the type `under`, 0 at the top (no header has type 0): type 1 only at the top, only
-- type 17 under 7, no header under 12, 14, 18 and 19
abbrev pub under_ok : ℕ → ℕ → Bool
under_ok under t =
    not (eqb t 1 && not (eqb under 0))
    && (not (eqb under 7 && not (eqb t 17))
    && not (one_of (12 ∷ 14 ∷ 18 ∷ 19 ∷ []) under && is_header t))

-- the types that are read: 18 and 19 only in a 3D file
abbrev pub is_read : ℕ → ℕ → Bool
is_read dim t = not (is_unread t) && not (eqb dim 2 && one_of (18 ∷ 19 ∷ []) t)

-- what may stand there, and is read
unfoldable pub may_stand : ℕ → ℕ → ℕ → Bool
may_stand dim under t = is_read dim t && under_ok under t
