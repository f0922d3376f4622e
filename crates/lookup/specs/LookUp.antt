-- Looking a name up in an index by the halving rule, over any list of entries (RULES.md, "Index").
use Rattle.std.specs.Prelude.{ℕ, zero, suc, ◌+◌, ◌*◌, ◌/◌, ◌≤◌, ◌≡◌, List, cond, length, get_or, take, ltb, eqb, Err, Ok, Result}
use Rattle.names.specs.Names.{packed}
use Rattle.entries.specs.Entries.{entries, entries_ok, name_of, place_of}
use Rattle.lookup.specs.declared.Halved.{Halved}
use Rattle.finder.specs.Found.{found_with, missed_with, unlooked, none_named}
use Rattle.finder.specs.declared.Found.{Found}
use Rattle.finder.specs.declared.Missed.{Missed}
use Rattle.names.specs.declared.Name.{Name}
use Rattle.refusals.specs.declared.Refusal.{Refusal}

-- while low < high look at the middle, rounded down; a smaller name sets low past it, another sets high to it. The first
-- number bounds the turns, of which there are never more than entries from low to high
abbrev pub halving : ℕ → List ℕ → ℕ → ℕ → ℕ → ℕ → Halved
halving zero es name low high looks = record { low = low; looks = looks }
halving (suc n) es name low high looks =
    cond (ltb low high)
    (cond (ltb (name_of (get_or es ((low + high) / 2) 0)) name)
    (halving n es name ((low + high) / 2 + 1) high (looks + 1))
    (halving n es name low ((low + high) / 2) (looks + 1)))
    (record { low = low; looks = looks })

-- with low 0 and high the number of entries
unfoldable pub halved : List ℕ → ℕ → Halved
halved es name = halving (length es) es name 0 (length es) 0

-- what the rule's loop answers; it does not look more often than there are entries
pub record Ended (es : List ℕ) (name : ℕ) (r : Halved) : Type 0 where
  pub is : r ≡ halved es name
  pub few : r.looks ≤ length es

-- 13 after so many looks
abbrev pub missing : ℕ → Result Found Missed
missing looks = Err (none_named looks)

-- at last a look at entry low, if there is one
abbrev pub last_look : List ℕ → ℕ → Halved → Result Found Missed
last_look es name h =
    cond (ltb h.low (length es))
    (cond (eqb (name_of (get_or es h.low 0)) name) (found_with (place_of (get_or es h.low 0)) (h.looks + 1)) (missing (h.looks + 1)))
    (missing h.looks)

unfoldable pub look_up : List ℕ → ℕ → Result Found Missed
look_up es name = last_look es name (halved es name)

-- the name of two words as one number
abbrev pub name_number : ℕ → ℕ → ℕ
name_number first second = 65536 * first + second

-- 12 for a text that is no name, then the look-up of its two words
abbrev pub look_up_by : Result Name Refusal → List ℕ → Result Found Missed
look_up_by (Ok name) es = look_up es (name_number name.first name.second)
look_up_by (Err refusal) es = Err (unlooked refusal)

-- 1 where the used length is not whole entries or beyond the buffer, then these
unfoldable pub look_up_of : List ℕ → ℕ → List ℕ → Result Found Missed
look_up_of s used t = cond (entries_ok (length s) used) (look_up_by (packed t) (entries (take used s))) (missed_with 1 0 0)

-- the number of looks of an answer
abbrev pub looks_of : Result Found Missed → ℕ
looks_of (Ok found) = found.looks
looks_of (Err missed) = missed.looks
