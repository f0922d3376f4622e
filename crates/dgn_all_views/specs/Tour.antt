-- The walk over an accepted file in file order that also keeps, for each depth, the place of the header around it. It may begin at
-- any element at the top.
use Rattle.std.specs.Prelude.{ℕ, zero, suc, ◌+◌, ◌≤◌, ◌<◌, ◌≡◌, ◌⊎◌, ◌≢◌, List, cond, false, length, get_or, set, replicate, ltb}
use Rattle.std.proofs.Math.Option.{Option, none, some}
use Rattle.words.specs.Words.{word_at}
use Rattle.headers.specs.Header.{size_at, extent_words}
use Rattle.headers.specs.Flags.{place_ok}
use Rattle.walking.specs.declared.Walk.{Walk}
use Rattle.walking.specs.Walk.{next_of}
use Rattle.order.specs.Order.{place_of}
use Rattle.dgn_all_views.specs.declared.Numbered.{Numbered}

-- a place of the walk, with the place of the header around it for each depth
pub record Tour : Type 0 where
  pub walk : Walk
  pub headers : List ℕ

-- an element that is followed by a deeper one is the header of that depth
abbrev pub kept : List ℕ → ℕ → ℕ → ℕ → List ℕ
kept headers depth place next = cond (ltb depth next) (set headers next place) headers

-- the direct header of an element at a depth; none at the top
abbrev pub header_in : List ℕ → ℕ → Option ℕ
header_in headers zero = none
header_in headers (suc d) = some (get_or headers (suc d) 0)

-- where it begins, with an element at the top, and its next element
abbrev pub tour_at : ℕ → Tour
tour_at top = record { walk = record { place = top; depth = 0; ends = replicate 9 0 }; headers = replicate 9 0 }

abbrev pub tour_next : List ℕ → Tour → Tour
tour_next ws t = record {
  walk = next_of ws t.walk;
  headers = kept t.headers t.walk.depth t.walk.place (next_of ws t.walk).depth;
}

-- at the k-th element from there
abbrev pub tour_of : List ℕ → ℕ → ℕ → Tour
tour_of ws top zero = tour_at top
tour_of ws top (suc k) = tour_next ws (tour_of ws top k)

-- an element that opens no list and is not the last of its own, which ends at `end`
abbrev pub GoesOn : List ℕ → ℕ → ℕ → ℕ → Type 0
GoesOn ws place depth end =
    (place < length ws) × (extent_words ws place ≡ size_at ws place) × ((depth ≡ 0) ⊎ (place + size_at ws place ≢ end))

-- an element up to number k, by its number and place, that is at the top: the first, or one that by its C is no component
pub record TopBefore (ws : List ℕ) (k : ℕ) (r : Numbered) : Type 0 where
  pub upto : r.number ≤ k
  pub at_place : r.place ≡ place_of ws r.number
  pub top : (r.number ≡ 0) ⊎ (place_ok 1 (word_at ws r.place) ≡ false)
