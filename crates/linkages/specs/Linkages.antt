-- Attribute linkages (RULES.md, "Attribute linkages"), in the words from one place to another.
use Rattle.std.specs.Prelude.{ℕ, zero, suc, ◌+◌, ◌-◌, ◌/◌, ◌%◌, ◌≤◌, ◌≡◌, ◌⊎◌, List, [], ◌∷◌, ◌++◌, Bool, true, false, cond, ◌&&◌, ◌||◌, eqb, leb, length, None, Option}
use Rattle.words.specs.Words.{word_at}
use Rattle.linkages.specs.Linkage.{linkage_with}
use Rattle.linkages.specs.declared.Linkage.{Linkage}

-- a user linkage has bit 12 of its first word set
abbrev pub is_user : ℕ → Bool
is_user w = eqb (w / 4096 % 2) 1

-- the words of a linkage by its first word, 0 where that is no linkage's: a user linkage counts the words that
-- follow in its low byte, at least 1; any other begins with 0 or 32768 and has four
unfoldable pub linkage_words : ℕ → ℕ
linkage_words w =
    cond (is_user w) (cond (eqb (w % 256) 0) 0 (1 + w % 256)) (cond (eqb w 0 || eqb w 32768) 4 0)

-- a linkage starts at the place `at` and ends by `end`
abbrev pub linkage_fits : List ℕ → ℕ → ℕ → Bool
linkage_fits ws at end = leb 1 (linkage_words (word_at ws at)) && leb (linkage_words (word_at ws at)) (end - at)

-- the words of the linkage that starts at the place `at` and ends by `end`, 0 where none does
unfoldable pub fitting_words : List ℕ → ℕ → ℕ → ℕ
fitting_words ws at end = cond (linkage_fits ws at end) (linkage_words (word_at ws at)) 0

-- one step of a fill: the end is reached; or a linkage fits, and the rest decides; or none does
abbrev pub fill_by : Bool → Bool → (ℕ → Bool) → ℕ → Bool
fill_by true fits rest next = true
fill_by false true rest next = rest next
fill_by false false rest next = false

-- linkages one after another, from the place `at` to the place `end` exactly; the first number bounds how many
unfoldable pub fill_from : ℕ → List ℕ → ℕ → ℕ → Bool
fill_from zero ws at end = false
fill_from (suc n) ws at end =
    fill_by (eqb at end) (linkage_fits ws at end) (λ next. fill_from n ws next end) (at + linkage_words (word_at ws at))

-- the same with a bound that is enough, since each linkage has a word
unfoldable pub linkages_fill : List ℕ → ℕ → ℕ → Bool
linkages_fill ws at end = fill_from (suc (end - at)) ws at end

-- the linkage that starts at the place `at`: its kind, place, size and id, which is a user linkage's second word and 0 of
-- any other
abbrev pub linkage_at : List ℕ → ℕ → Option Linkage
linkage_at ws at =
    linkage_with (is_user (word_at ws at)) at (linkage_words (word_at ws at)) (cond (is_user (word_at ws at)) (word_at ws (at + 1)) 0)

-- the linkage of number k, counted from 0, by the first one and by the others
abbrev pub numbered : ℕ → Option Linkage → (ℕ → Option Linkage) → Option Linkage
numbered zero first others = first
numbered (suc k) first others = others k

-- linkage k of those from the place `at` to the place `end`; nothing where they end, or words that are no linkage stand,
-- before it; the first number bounds how many are passed
unfoldable pub linkage_from : ℕ → List ℕ → ℕ → ℕ → ℕ → Option Linkage
linkage_from zero ws at end k = None
linkage_from (suc n) ws at end k =
    cond (linkage_fits ws at end)
    (numbered k (linkage_at ws at) (λ j. linkage_from n ws (at + linkage_words (word_at ws at)) end j))
    None

-- the same with a bound that is enough
unfoldable pub linkage_in : List ℕ → ℕ → ℕ → ℕ → Option Linkage
linkage_in ws at end k = linkage_from (suc (end - at)) ws at end k

-- the words of one linkage. A user linkage: bit 12 of the first word is set, and its low byte counts the words that
-- follow, at least 1. Any other: the first word is 0 or 32768, and there are four
pub data IsLinkage : List ℕ → Type 0 where
  user : (w : ℕ) (follow : List ℕ) → w / 4096 % 2 ≡ 1 → length follow ≡ w % 256 → 1 ≤ w % 256 → IsLinkage (w ∷ follow)
  other : (w : ℕ) (follow : List ℕ) → (w ≡ 0) ⊎ (w ≡ 32768) → length follow ≡ 3 → IsLinkage (w ∷ follow)

-- the words of linkages, one after another
pub data Linkages : List ℕ → Type 0 where
  none : Linkages []
  more : {x rest : List ℕ} → IsLinkage x → Linkages rest → Linkages (x ++ rest)
