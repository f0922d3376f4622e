-- The views of the elements number k, k + 1, .. in file order, as many as a slice of numbers holds whole.
use Rattle.std.specs.Prelude.{ℕ, zero, suc, ◌+◌, ◌-◌, ◌/◌, ◌<◌, min, ◌≡◌, List, [], ◌∷◌, ◌++◌, ℤ, length, take, drop, Err, Ok, Result}
use Rattle.std.proofs.lemmas.List.Edits.{sets}
use Rattle.words.specs.Words.{words}
use Rattle.files.specs.Spots.{Spot, spots_of}
use Rattle.places.specs.Places.{above_of}
use Rattle.views.specs.Views.{element_view, view_of}
use Rattle.view_numbers.specs.Numbers.{view_numbers, view_given, as_signed}
use Rattle.places.specs.declared.Above.{Above}
use Rattle.dgn_all_views.specs.declared.Numbered.{Numbered}
use Rattle.dgn_all_views.specs.Tour.{Tour, header_in, tour_of, TopBefore}
use Rattle.refusals.specs.declared.Refusal.{Refusal}
use Rattle.views.specs.declared.Element.{Element}

-- the numbers of the view of the element at a place, as a call at that place gives them
abbrev pub seen_numbers : ℕ → Result Element Refusal → List ℤ
seen_numbers place (Ok element) = view_given place element
seen_numbers place (Err refusal) = []

-- those of elements, one after another
abbrev pub views_of : ℕ → List ℕ → List Spot → List ℤ
views_of dim s [] = []
views_of dim s (x ∷ xs) = seen_numbers x.place (view_of dim s x.place) ++ views_of dim s xs

-- how many views: a slice holds one for each 32 numbers
abbrev pub views_many : ℕ → ℕ → ℕ → ℕ
views_many room k elements = min (room / 32) (elements - k)

-- those of a file
unfoldable pub views_part : ℕ → List ℕ → ℕ → ℕ → List ℤ
views_part dim s k n = views_of dim s (take n (drop k (spots_of dim (words s))))

-- the same by the walk that keeps the headers
unfoldable pub shown_at : List ℕ → ℕ → ℕ → Above → List ℤ
shown_at ws place depth above = view_numbers as_signed place (element_view ws place depth above)

abbrev pub tour_view : List ℕ → Tour → List ℤ
tour_view ws t = shown_at ws t.walk.place t.walk.depth (above_of (header_in t.headers t.walk.depth))

abbrev pub views_from : ℕ → List ℕ → ℕ → ℕ → List ℤ
views_from zero ws top k = []
views_from (suc n) ws top k = tour_view ws (tour_of ws top k) ++ views_from n ws top (suc k)

-- from each element at the top that the walk may begin with it comes to words of the file
abbrev pub Begins : List ℕ → ℕ → ℕ → Type 0
Begins ws k n = (r : Numbered) → TopBefore ws k r → (i : ℕ) → i < k - r.number + n → (tour_of ws r.place i).walk.place < length ws

-- what is put into the slice: the views by the walk from one of them
pub record PartPut (ws : List ℕ) (k n : ℕ) (views views' : List ℤ) : Type 0 where
  pub from : Numbered
  pub top : 0 < n → TopBefore ws k from
  pub given : views' ≡ sets views 0 (views_from n ws from.place (k - from.number))
