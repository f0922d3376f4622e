-- What an insert that is not refused leaves: the words of an accepted file, with an element directly under the named
-- header at the place, and the piece's words there. And the bytes of an accepted file's words are an accepted file.
use Prim.Native.Nat.{ℕ, ◌+◌, ◌-◌, ◌*◌, ◌%◌, ◌≤◌}
use mathlib.Core.Path.{◌≡◌, refl, ap, ◌∙◌, subst}
use mathlib.Core.Bool.{true, ◌||◌}
use mathlib.Core.List.{List, ◌++◌}
use mathlib.Core.Option.{Option, some}
use native.Mathlib.Omega.{arith}
use lib.ListN.{length, take, drop, length-append, length-drop}
use lib.Seq.{length-take-le}
use lib.Dec.{eqb}
use borrow.Author.Tests.{eq-eqb, le-leb}
use Rattle.words.specs.Words.{words, bytes, Below}
use Rattle.words.proofs.Laws.{length_bytes, words_bytes, words_below}
use Rattle.limits.specs.Limits.{call_ok}
use Rattle.files.specs.Judge.{judge_of}
use Rattle.files.specs.Spots.{Spot, spots_of, spot_in}
use Rattle.grammar.proofs.Forest.{flat}
use Rattle.grammar.proofs.Stands.{Stands, stands_append}
use Rattle.grammar.proofs.Whole.{file_top}
use Rattle.grammar.proofs.Exact.{accepted_is}
use Rattle.edits.specs.Edits.{insert, apply, down_to, raise, splice}
use Rattle.edits.specs.Allowed.{fine, gap_ok, is_under, edit_fault}
use Rattle.edits.specs.Records.{record_of, reversible}
use Rattle.edits.proofs.Accepted.{Accepted}
use Rattle.edits.proofs.Bounds.{bytes_below}
use Rattle.edits.proofs.Ways.{front, rear, flat_plug}
use Rattle.edits.proofs.Lengths.{length_raise}
use Rattle.edits.proofs.Gaps.{under_starts, file_long, gap_found}
use Rattle.edits.proofs.Judging.{tree_spots, judged_tree, tree_judged}
use Rattle.edits.proofs.Sound.{sound}
use Rattle.fields.proofs.Bounds.{both}
use Rattle.round_trips.specs.RoundTrip.{AcceptedBytes}

---- accepted files as bytes and as words

pub accepted_words : (dim : ℕ) (s : List ℕ) → AcceptedBytes dim s → Accepted dim (words s)
accepted_words dim s a =
    let t = file_top (accepted_is dim s a.elements a.deepest a.marker a.judged).file in
    judged_tree dim (words s) a.marker _ _ t.0 (words_below s a.file_bytes) t.1 a.last

call_ok_lem : (dim : ℕ) (s : List ℕ) (n : ℕ) → (eqb dim 2 || eqb dim 3) ≡ true → length s ≡ 2 * n → length s ≤ 1048576 → call_ok dim s ≡ true
unfolding call_ok
call_ok_lem dim s n d e l = rw (d, eq-eqb (length s % 2) 0 (omega arith), le-leb (length s) 1048576 l) refl

pub accepted_bytes : (dim : ℕ) (ws : List ℕ) → (eqb dim 2 || eqb dim 3) ≡ true → 2 * length ws ≤ 1048576 → Accepted dim ws → AcceptedBytes dim (bytes ws)
unfolding judge_of
accepted_bytes dim ws d l a =
    let same = words_bytes ws a.below in
    let long = length_bytes ws in
    let t = tree_judged dim ws a in
    let n = file_long a.tree ws a.words in
    record {
      elements = t.0;
      deepest = t.1;
      marker = length ws - 1;
      judged = rw (call_ok_lem dim (bytes ws) (length ws) d long (omega arith), same, t.3) refl;
      last = rw same (omega arith);
      file_bytes = bytes_below ws;
    }

---- an insert

-- a place where an element may go in is in the file
gap_inside : (dim : ℕ) (ws : List ℕ) (h : Option ℕ) (p : ℕ) → Accepted dim ws → gap_ok (spots_of dim ws) ws h p ≡ true → p ≤ length ws
gap_inside dim ws h p a g =
    let same = tree_spots dim a.tree ws a.wf a.words in
    let r = gap_found dim a.tree a.wf ws a.words h p (subst (λ xs. gap_ok xs ws h p ≡ true) same g) in
    let n = file_long a.tree ws a.words in
    let l = ap length (ap flat r.tree ∙ flat_plug r.way r.rest) ∙ length-append (front r.way) (flat r.rest ++ rear r.way) in
    let e = r.place in
    omega arith

pub record Inserted (dim : ℕ) (ws : List ℕ) (h : Option ℕ) (p : ℕ) (x after : List ℕ) : Type 0 where
  pub kept : Accepted dim after
  pub spot : Spot
  pub found : spot_in (spots_of dim after) p ≡ some spot
  pub header : spot.header ≡ h
  pub stands : Stands x p after
  pub long : length after ≡ length ws + length x

module _ (dim : ℕ) (ws : List ℕ) (h : Option ℕ) (p : ℕ) (x : List ℕ) (a : Accepted dim ws) (l : length ws ≤ 524288) (b : Below 65536 x)
    (g : gap_ok (spots_of dim ws) ws h p ≡ true) (e : edit_fault dim ws (insert h p x) ≡ fine) where
  -- the headers corrected
  abbrev raised : List ℕ
  raised = raise true (length x) (down_to (spots_of dim ws) h) ws

  spliced : apply dim ws (insert h p x) ≡ take p raised ++ (x ++ drop p raised)
  unfolding apply splice
  spliced = refl

  before : length (take p raised) ≡ p
  before =
      let n = length_raise true (length x) (down_to (spots_of dim ws) h) ws in
      let i = gap_inside dim ws h p a g in
      length-take-le p raised (omega arith)

  placed_under : is_under (spot_in (spots_of dim (apply dim ws (insert h p x))) p) h ≡ true
  unfolding reversible record_of
  placed_under =
      (both (is_under (spot_in (spots_of dim (apply dim ws (insert h p x))) p) h) _ (sound dim ws (insert h p x) a l e b).back).0

  pub insert_made : Inserted dim ws h p x (apply dim ws (insert h p x))
  insert_made =
      let u = under_starts (spot_in (spots_of dim (apply dim ws (insert h p x))) p) h placed_under in
      let n = length_raise true (length x) (down_to (spots_of dim ws) h) ws in
      let i = gap_inside dim ws h p a g in
      let v = before in
      let d = length-drop p raised in
      let c = length-append (take p raised) (x ++ drop p raised) in
      let f = length-append x (drop p raised) in
      record {
        kept = (sound dim ws (insert h p x) a l e b).kept;
        spot = u.0;
        found = u.1;
        header = u.2;
        stands = rw spliced (subst (λ q. Stands x q (take p raised ++ (x ++ drop p raised))) before (stands_append (take p raised) x (drop p raised)));
        long = ap length spliced ∙ omega arith;
      }
