-- A refused file refuses every call that reads, with the same number and place; of an accepted one an extent and a view are those of the
-- element in the list. A rename by a text that is no name is refused. Each unfolds the call and rewrites with what is known.
use Prim.Native.Nat.{ℕ}
use mathlib.Core.Path.{◌≡◌, refl}
use mathlib.Core.Bool.{Bool, true, false}
use mathlib.Core.List.{List}
use mathlib.Core.Option.{some}
use Rattle.refusals.specs.Refusals.{refused_with}
use Rattle.words.specs.Words.{words}
use Rattle.names.specs.Names.{packed}
use Rattle.files.specs.Judge.{judge_of}
use Rattle.files.specs.Spots.{Spot, spots_of, spot_in}
use Rattle.files.specs.Accepted.{accepted_with}
use Rattle.places.specs.Places.{above_of, spotted_at}
use Rattle.places.specs.Extents.{extent_answer}
use Rattle.views.specs.Views.{element_view, view_of}
use Rattle.points_linkages.specs.Points.{point_of}
use Rattle.points_linkages.specs.Linkages.{linkage_of}
use Rattle.range_checks.specs.InRange.{in_range_of}
use Rattle.text_views.specs.TextViews.{text_of, characters_of, field_of}
use Rattle.curve_views.specs.CurveViews.{curve_of}
use Rattle.plates.specs.Plates.{plate_of}
use Rattle.finder.specs.Finder.{find_of}
use Rattle.lookup.specs.Live.{live_look_up_of}
use Rattle.kinds.specs.Kinds.{is_cell}
use Rattle.headers.specs.Header.{type_at}
use Rattle.edits.specs.Edits.{rename}
use Rattle.edits.specs.Allowed.{Fault?, fine, fault, or_else, unless, starts_at, rename_fault}
use Rattle.edits.specs.Calls.{Session, Outcome, rename_call, words_of, open_fault, result_by, words_by, record_by, edit_made, edit_within, edited, step}
use Rattle.edits.specs.Book.{was_refused}
use Rattle.demands.specs.ReadingCalls.{FileRefused, Found}

pub file_refused : (dim : ℕ) (s : List ℕ) (n p : ℕ) → judge_of dim s ≡ refused_with n p → FileRefused dim s n p
unfolding spotted_at extent_answer view_of point_of linkage_of text_of characters_of field_of curve_of in_range_of plate_of find_of live_look_up_of
file_refused dim s n p e = record {
  extents = λ at. rw e refl;
  views = λ at. rw e refl;
  points = λ at k. rw e refl;
  linkages = λ at k. rw e refl;
  ranges = λ at. rw e refl;
  texts = λ at. rw e refl;
  characters = λ at. rw e refl;
  fields = λ at k. rw e refl;
  curves = λ at. rw e refl;
  plates = λ at. rw e refl;
  finder = λ w t. rw e refl;
  look_up = λ index used t ok. rw (ok, e) refl;
  cells = rw e refl;
  index = λ b. rw e refl;
  buffer = λ b. rw e refl;
}

pub found_is : (dim : ℕ) (s : List ℕ) (at e d m : ℕ) (x : Spot) → judge_of dim s ≡ accepted_with e d m → spot_in (spots_of dim (words s)) at ≡ some x → Found dim s at x
unfolding spotted_at extent_answer view_of element_view
found_is dim s at e d m x j q = record { extent = rw (j, q) refl; element = element_view (words s) at x.depth (above_of x.header); view = rw (j, q) refl; depth = refl; above = refl }

---- a rename by a bad text

own_refused : (b c : Bool) (s : Session) (within : Fault?) (r : Outcome) → was_refused (result_by (or_else (or_else (unless b 13) (or_else (unless c 18) (unless false 12))) within) s r).answer ≡ true
own_refused false c s within r = refl
own_refused true false s within r = refl
own_refused true true s within r = refl

pub bad_text : (dim : ℕ) (s : Session) (p : ℕ) (t : List ℕ) (n q : ℕ) → packed t ≡ refused_with n q → was_refused (step dim s (rename_call p t)).answer ≡ true
unfolding step edited rename_fault
bad_text dim s p t n q e = rw e (go (open_fault dim s (rename_call p t)))
  where
    go : (f : Fault?) → was_refused (result_by f s (edited dim s (rename p 0 0) (rename_fault (spots_of dim (words_of s)) (words_of s) p false))).answer ≡ true
    go (fault m r) = refl
    go fine =
        own_refused (starts_at (spots_of dim (words_of s)) p) (is_cell (type_at (words_of s) p)) s
        (edit_within dim s (words_by dim s (rename p 0 0)) (record_by dim s (rename p 0 0))) (edit_made dim s (words_by dim s (rename p 0 0)) (record_by dim s (rename p 0 0)))
