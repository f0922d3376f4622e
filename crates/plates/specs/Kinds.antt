-- The kinds of the components of a cell (RULES.md, "Plates"), by their types.
use Rattle.std.specs.Prelude.{ℕ, List, [], ◌∷◌, Bool, false, not, ◌||◌, get_or, eqb}
use Rattle.kinds.specs.Kinds.{is_pointed, is_curve, is_header}

abbrev pub is_line : ℕ → Bool
is_line t = eqb t 3

abbrev pub is_text : ℕ → Bool
is_text t = eqb t 17

-- all types that are of none of the other kinds
abbrev pub is_other : ℕ → Bool
is_other t = not (is_line t || (is_pointed t || (is_text t || (is_curve t || is_header t))))

-- the six kinds in the order of their counts: lines; types 4, 6, 11, 21; texts; ellipses and arcs; headers; others
abbrev pub kinds : List (ℕ → Bool)
kinds = is_line ∷ is_pointed ∷ is_text ∷ is_curve ∷ is_header ∷ is_other ∷ []

-- kind number k
abbrev pub is_kind : ℕ → ℕ → Bool
is_kind k = get_or kinds k (λ t. false)
