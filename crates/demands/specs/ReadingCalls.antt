-- What the calls that read answer of a refused file, and of an element of an accepted one.
use Rattle.std.specs.Prelude.{ℕ, ◌≡◌, true, List, length, Ok}
use Rattle.refusals.specs.Refusals.{refused_with}
use Rattle.words.specs.Words.{words}
use Rattle.files.specs.Judge.{judge_of}
use Rattle.files.specs.Spots.{Spot}
use Rattle.places.specs.Places.{above_of}
use Rattle.places.specs.Extents.{extent_answer}
use Rattle.places.specs.Extent.{extent_with}
use Rattle.views.specs.Views.{view_of}
use Rattle.views.specs.declared.Element.{Element}
use Rattle.points_linkages.specs.Points.{point_of}
use Rattle.points_linkages.specs.Linkages.{linkage_of}
use Rattle.range_checks.specs.InRange.{in_range_of}
use Rattle.text_views.specs.TextViews.{text_of, characters_of, field_of}
use Rattle.curve_views.specs.CurveViews.{curve_of}
use Rattle.plates.specs.Plates.{plate_of}
use Rattle.finder.specs.Finder.{find_of}
use Rattle.finder.specs.declared.Wanted.{Wanted}
use Rattle.finder.specs.Found.{missed_with}
use Rattle.cells.specs.Cells.{cells_of}
use Rattle.cells.specs.Index.{index_of, index_bytes}
use Rattle.indexing.specs.Indexing.{built_by, left_by}
use Rattle.answers.specs.Answers.{refuse}
use Rattle.dgn_index.specs.IndexNumbers.{cells_reply}
use Rattle.entries.specs.Entries.{entries_ok}
use Rattle.lookup.specs.Live.{live_look_up_of}

-- at every place, for every number, every text and every buffer, the refusal n at p; the count of the finder, and the looks of a look_up
-- with the file, whose index has a good used length, are then 0, and the buffer of an index is as it was
pub record FileRefused (dim : ℕ) (s : List ℕ) (n p : ℕ) : Type 0 where
  pub extents : (at : ℕ) → extent_answer dim s at ≡ refused_with n p
  pub views : (at : ℕ) → view_of dim s at ≡ refused_with n p
  pub points : (at k : ℕ) → point_of dim s at k ≡ refused_with n p
  pub linkages : (at k : ℕ) → linkage_of dim s at k ≡ refused_with n p
  pub ranges : (at : ℕ) → in_range_of dim s at ≡ refused_with n p
  pub texts : (at : ℕ) → text_of dim s at ≡ refused_with n p
  pub characters : (at : ℕ) → characters_of dim s at ≡ refused_with n p
  pub fields : (at k : ℕ) → field_of dim s at k ≡ refused_with n p
  pub curves : (at : ℕ) → curve_of dim s at ≡ refused_with n p
  pub plates : (at : ℕ) → plate_of dim s at ≡ refused_with n p
  pub finder : (w : Wanted) (t : List ℕ) → find_of w dim s t ≡ missed_with n p 0
  pub look_up : (index : List ℕ) (used : ℕ) (t : List ℕ) → entries_ok (length index) used ≡ true → live_look_up_of dim s index used t ≡ missed_with n p 0
  pub cells : cells_reply (judge_of dim s) (length (cells_of dim (words s))) ≡ refuse n p
  pub index : (b : List ℕ) → built_by (judge_of dim s) (index_bytes dim (words s)) (length b) ≡ refused_with n p
  pub buffer : (b : List ℕ) → left_by (judge_of dim s) (index_bytes dim (words s)) (index_of dim (words s)) b ≡ b

-- of the element x that starts at a place: its extent ends where x does, and a view shows its depth and its direct header
pub record Found (dim : ℕ) (s : List ℕ) (at : ℕ) (x : Spot) : Type 0 where
  pub extent : extent_answer dim s at ≡ extent_with at x.end
  pub element : Element
  pub view : view_of dim s at ≡ Ok element
  pub depth : element.depth ≡ x.depth
  pub above : element.above ≡ above_of x.header
