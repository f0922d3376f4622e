-- The descent to a place in words that were judged: it goes over the elements whose extents end by the place, and into
-- the header whose extent holds it. Of an element it looks at words 0, 1 and, of a header, 18 alone.
use Rattle.std.specs.Prelude.{ℕ, zero, suc, ◌+◌, ◌-◌, ◌<◌, ◌≡◌, List, cond, ◌&&◌, length, eqb, leb, ltb, Result}
use Rattle.headers.specs.Header.{type_at, size_at, extent_words}
use Rattle.kinds.specs.Kinds.{is_header}
use Rattle.places.specs.declared.Above.{Above}
use Rattle.places.specs.declared.Above.TheVariants.{Top, Under}
use Rattle.places.specs.Spotted.{spotted_with}
use Rattle.places.specs.declared.Spotted.{Spotted}
use Rattle.refusals.specs.Refusals.{refused_with}
use Rattle.refusals.specs.declared.Refusal.{Refusal}

-- the element that starts at the place p, from the element at the place `here` on, which is at a depth under a header;
-- every element has at least two words, so the first number bounds how many are looked at
unfoldable pub locate_from : ℕ → List ℕ → ℕ → ℕ → Above → ℕ → Result Spotted Refusal
locate_from zero ws here depth above p = refused_with 13 0
locate_from (suc n) ws here depth above p =
    cond (ltb here p)
    (cond (leb (here + extent_words ws here) p)
    (locate_from n ws (here + extent_words ws here) depth above p)
    (cond (is_header (type_at ws here)) (locate_from n ws (here + size_at ws here) (depth + 1) (Under here) p) (refused_with 13 0)))
    (cond (eqb here p) (spotted_with (here + extent_words ws here) depth above) (refused_with 13 0))

-- r is what is found from the element at `here` on, whatever the number of locateFrom, where it is enough
abbrev pub IsLocated : List ℕ → ℕ → ℕ → Above → ℕ → Result Spotted Refusal → Type 0
IsLocated ws here depth above p r = (n : ℕ) → p - here < n → r ≡ locate_from n ws here depth above p

-- the element that starts at the place p, from the top
unfoldable pub descent_to : List ℕ → ℕ → Result Spotted Refusal
descent_to ws p = locate_from (suc p) ws 0 0 Top p

-- the same for a place before the marker and within the words
unfoldable pub locate_of : List ℕ → ℕ → ℕ → Result Spotted Refusal
locate_of ws p marker = cond (ltb p marker && ltb p (length ws)) (descent_to ws p) (refused_with 13 0)
