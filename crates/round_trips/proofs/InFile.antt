-- What is written reads back the same: put into an accepted file as its C says, an element of a writer's makes an accepted file,
-- and view, points or text, linkages and tail are those handed in.
use Prim.Native.Nat.{ℕ, ◌+◌, ◌*◌, ◌≤◌}
use mathlib.Core.Path.{◌≡◌, refl, sym, ap, ◌∙◌, subst}
use mathlib.Core.Bool.{Bool, true, cond, false≢true}
use mathlib.Core.List.{List, append-nil}
use mathlib.Core.Option.{Option, none, some}
use native.Mathlib.Omega.{arith}
use lib.ListN.{length, take, drop}
use lib.Seq.{take_at}
use lib.Dec.{eqb}
use borrow.Author.Tests.{ne_eqb}
use Rattle.words.specs.Words.{words, bytes, over}
use Rattle.words.proofs.Laws.{length_bytes, words_bytes}
use Rattle.kinds.specs.Kinds.{may_stand}
use Rattle.files.specs.Spots.{Spot, spots_of, spot_in}
use Rattle.grammar.proofs.Forest.{nil}
use Rattle.grammar.proofs.Stands.{Stands}
use Rattle.places.specs.Places.{above_of, found_by, spotted_at}
use Rattle.places.specs.Extents.{extent_bytes}
use Rattle.views.specs.Views.{element_view}
use Rattle.places.proofs.Places.{spotted_found}
use Rattle.edits.specs.Edits.{insert, apply}
use Rattle.edits.specs.Allowed.{fine, is_some, starts_at, gap_ok, depth_by, depth_under, type_under, piece_fault, insert_fault, edit_fault}
use Rattle.edits.proofs.Faults.{fine_test, fine_both}
use Rattle.edits.proofs.Judging.{piece_fine}
use Rattle.kinds.specs.FirstWord.{bit}
use Rattle.fields.specs.Words.{element_of}
use Rattle.fields.specs.declared.Fields.{Fields}
use Rattle.fields.proofs.Bounds.{both}
use Rattle.fields.proofs.Element.{length_of}
use Rattle.places.specs.Spotted.{spotted_with}
use Rattle.round_trips.specs.Parts.{Parts, fields_of, tail_of, size_by, fault_by, linkage_by}
use Rattle.round_trips.specs.RoundTrip.{under, Place, ReadBack, ReadsBack}
use Rattle.round_trips.proofs.Own.{Owned, written_own}
use Rattle.round_trips.proofs.Local.{plain_there, shown, shown_size, shown_above, tail_there, seen, linkages_given}
use Rattle.round_trips.proofs.Extents.{extent_own}
use Rattle.round_trips.proofs.Back.{accepted_words, accepted_bytes, Inserted, insert_made}
use Rattle.round_trips.proofs.Made.{body_of, words_by, Made, made, writes_by}

---- what the place asks of the element

-- C is as the depth asks: a header that is there has a depth, and what is under it one more
c_there : (xs : List Spot) (ws : List ℕ) (h : Option ℕ) (p : ℕ) (c : Bool) → gap_ok xs ws h p ≡ true → c ≡ under h → bit c ≡ cond (eqb (depth_under xs h) 0) 0 1
unfolding gap_ok
c_there xs ws none p c g e = rw e refl
c_there xs ws (some h) p c g e = go (spot_in xs h) (both (starts_at xs h) _ g).0
  where
    go : (o : Option Spot) → is_some o ≡ true → bit c ≡ cond (eqb (depth_by o) 0) 0 1
    go none q = absurd (false≢true q)
    go (some x) q = rw (e, ne_eqb (x.depth + 1) 0 (omega arith)) refl

module _ {dim : ℕ} {f : Fields} {size : ℕ} {body tail : List ℕ} (o : Owned dim f size body tail) where
  -- the element is a piece without fault
  piece_ok : (xs : List Spot) (ws : List ℕ) (h : Option ℕ) → depth_under xs h ≤ 8 → bit f.c ≡ cond (eqb (depth_under xs h) 0) 0 1 → may_stand dim (type_under ws h) f.kind ≡ true →
      piece_fault dim xs ws h (element_of f size body tail) ≡ fine
  piece_ok xs ws h d c u =
      subst (λ x. piece_fault dim xs ws h x ≡ fine) (append-nil (element_of f size body tail))
      (piece_fine dim (depth_under xs h) (type_under ws h) xs ws h (element_of f size body tail) nil refl refl (written_own o (depth_under xs h) (type_under ws h) d c u, tt))

  -- the insert is not refused
  insert_ok : (s : List ℕ) (h : Option ℕ) (at : ℕ) → Place dim s h at f.c f.kind size → edit_fault dim (words s) (insert h at (element_of f size body tail)) ≡ fine
  unfolding edit_fault insert_fault
  insert_ok s h at place =
      let xs = spots_of dim (words s) in
      let c = c_there xs (words s) h at f.c place.gap place.as_c_says in
      fine_both (fine_test 13 place.gap)
      (fine_both (piece_ok xs (words s) h place.deep c place.stands) (rw (length_of o.formed) place.room))

module _ {dim : ℕ} {p : Parts} (m : Made dim p) where
  -- what reading gives of the bytes after it
  read_after : (ws : List ℕ) (h : Option ℕ) (at : ℕ) (after : List ℕ) → 2 * (length ws + size_by dim p) ≤ 1048576 →
      Inserted dim ws h at (words_by dim p) after → ReadBack dim (bytes after) h at p
  read_after ws h at after small i =
      let o = m.owned in
      let same = words_bytes after i.kept.below in
      let n = length_of o.formed in
      let l = i.long in
      let file = accepted_bytes dim after m.dims (omega arith) i.kept in
      let x = i.spot in
      let stands : Stands (words_by dim p) at (words (bytes after)) = rw same i.stands in
      let found : spotted_at dim (bytes after) at ≡ spotted_with x.end x.depth (above_of x.header) =
      spotted_found dim (bytes after) at file.elements file.deepest file.marker file.judged ∙ ap found_by (ap (λ v. spot_in (spots_of dim v) at) same ∙ i.found) in
      record {
        file = file;
        element = element_view (words (bytes after)) at x.depth (above_of x.header);
        seen = seen o (bytes after) stands found;
        shows = shown o stands x.depth (above_of x.header);
        size = shown_size o stands x.depth (above_of x.header);
        above = shown_above (words (bytes after)) at x.depth (above_of x.header) ∙ ap above_of i.header;
        gives_body = m.gives (bytes after) at x.end x.depth (above_of x.header) file.file_bytes found stands;
        gives_linkages = λ k. linkages_given o (bytes after) stands found k ∙ ap (λ n. linkage_by (fields_of p) n (tail_of p) at k) m.place;
        gives_tail =
            ap (λ n. drop (2 * n) (extent_bytes dim (bytes after) at)) (sym m.place)
            ∙ ap (drop (2 * (18 + length (body_of dim p)))) (extent_own dim (bytes after) at file.elements file.deepest file.marker x.end x.depth (above_of x.header) file.file_bytes file.judged found (plain_there o stands))
            ∙ tail_there o stands m.tail_bytes;
      }

  -- the writer's words, put in
  words_back : (s : List ℕ) (h : Option ℕ) (at : ℕ) → Place dim s h at (fields_of p).c (fields_of p).kind (size_by dim p) → ReadBack dim (bytes (apply dim (words s) (insert h at (words_by dim p)))) h at p
  words_back s h at place =
      let small = place.small in
      let a = accepted_words dim s place.file in
      let x = words_by dim p in
      read_after (words s) h at (apply dim (words s) (insert h at x)) small (insert_made dim (words s) h at x a (omega arith) m.below place.gap (insert_ok m.owned s h at place))

-- what the buffer then begins with is the writer's words
pub reads_back : ReadsBack
unfolding over
reads_back dim s h at p out r last handed place room wrote =
    let m = made dim p handed in
    let w = writes_by dim p out r last wrote in
    let none : fault_by dim p (length out) ≡ 0 = m.fine (length out) room in
    let own = words_by dim p in
    let n = length_of m.owned.formed in
    let l = length_bytes own in
    let same : words (take (2 * size_by dim p) last) ≡ words_by dim p =
    ap (λ x. words (take (2 * size_by dim p) x)) (w.bytes ∙ rw none refl)
    ∙ ap words (take_at (bytes own) (drop (0 + length (bytes own)) out) (2 * size_by dim p) (omega arith))
    ∙ words_bytes own m.below in
    (w.answer ∙ rw none refl, rw same (words_back m s h at place))
