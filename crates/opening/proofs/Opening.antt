-- Opening a session: 1 for the lengths, the marker's word and the dimension are one refusal, and then judging the used
-- part says the rest.
use Prim.Native.Nat.{ℕ, ◌+◌, ◌-◌, ◌/◌, ◌%◌, ◌≤◌}
use mathlib.Core.Path.{◌≡◌, refl, ◌∙◌}
use mathlib.Core.Bool.{Bool, true, false, cond, ◌&&◌, and-false, and-true}
use mathlib.Core.List.{List}
use native.Mathlib.Omega.{arith}
use lib.ListN.{length, take}
use lib.Seq.{length-take-le}
use lib.Dec.{eqb, leb}
use borrow.Author.Tests.{eq-eqb, ne_eqb, le-leb, eqb-true, leb-true}
use Rattle.words.specs.Words.{words, word_at}
use Rattle.words.proofs.Laws.{length_words}
use Rattle.limits.specs.Limits.{dim_ok, size_ok, used_ok, call_ok}
use Rattle.files.specs.Judge.{top_of, answer, judge_of}
use Rattle.places.specs.Places.{placed_at}
use Rattle.places.specs.Descent.{locate_of}
use Rattle.places.proofs.Places.{Located, refused_judged, judged_located}
use Rattle.edits.specs.Allowed.{fine, or_else, unless}
use Rattle.edits.specs.Calls.{used_words, ends_in_marker, session_ok, file_fault, session_fault}
use Rattle.edits.proofs.Faults.{or_else_fine, unless_fine}
use Rattle.opening.specs.Opening.{opened_by, session_of}
use Rattle.std.specs.Prelude.{Err, Ok, Result}
use Rattle.files.specs.Accepted.{accepted_with}
use Rattle.files.specs.declared.Accepted.{Accepted}
use Rattle.files.specs.declared.Judgement.{Judgement}
use Rattle.places.specs.Placed.{placed_with}
use Rattle.places.specs.declared.Placed.{Placed}
use Rattle.places.specs.declared.Spotted.{Spotted}
use Rattle.refusals.specs.Refusals.{refused_with}
use Rattle.refusals.specs.declared.Refusal.{Refusal}

---- the used file alone

-- what is opened, by what the used file is judged to be, the place of its last word and what was found
unfoldable pub opened_judged : Result Accepted Refusal → ℕ → Result Spotted Refusal → Result Placed Refusal
opened_judged (Ok file) last found = cond (eqb file.marker last) (placed_with last found) (refused_with 1 0)
opened_judged (Err refusal) last found = Err refusal

module _ (dim : ℕ) (s : List ℕ) (even : length s % 2 ≡ 0) (small : length s ≤ 1048576) (at : ℕ) where
  abbrev last : ℕ
  last = length (words s) - 1

  judged_is : opened_judged (judge_of dim s) last (locate_of (words s) at last) ≡ opened_by (or_else (unless (dim_ok dim) 1) (file_fault (top_of dim (words s)) last)) (words s) at
  unfolding judge_of call_ok opened_judged
  judged_is = rw (eq-eqb (length s % 2) 0 even, le-leb (length s) 1048576 small) (go (dim_ok dim) (top_of dim (words s)))
    where
      marker : (b : Bool) → cond b (placed_with last (locate_of (words s) at last)) (refused_with 1 0) ≡ opened_by (unless b 1) (words s) at
      marker true = refl
      marker false = refl

      go : (b : Bool) (v : Result Judgement Refusal) →
          opened_judged (cond (b && (true && true)) (answer v) (refused_with 1 0)) last (locate_of (words s) at last) ≡ opened_by (or_else (unless b 1) (file_fault v last)) (words s) at
      go true (Ok judged) = marker (eqb judged.next last)
      go true (Err refusal) = refl
      go false v = refl

  -- by what was answered of the file and the place; the last word's place is by the bytes
  pub opened_refused : (refusal : Refusal) → placed_at dim s at ≡ Err refusal →
      Err refusal ≡ opened_by (or_else (unless (dim_ok dim) 1) (file_fault (top_of dim (words s)) last)) (words s) at
  unfolding opened_judged
  opened_refused refusal e = rw (refused_judged dim s at refusal.number refusal.place e) at judged_is

  located_last : (m : ℕ) (found : Result Spotted Refusal) → m ≡ last → found ≡ locate_of (words s) at m → placed_with m found ≡ placed_with last (locate_of (words s) at last)
  located_last m found q f = rw (f, q) refl

  module _ (opened : Placed) (e : placed_at dim s at ≡ Ok opened) where
    there : Located dim s at opened.marker opened.found
    there = judged_located dim s at opened.marker opened.found e

    opened_by_lem : opened_judged (accepted_with there.elements there.deepest opened.marker) last (locate_of (words s) at last)
        ≡ opened_by (or_else (unless (dim_ok dim) 1) (file_fault (top_of dim (words s)) last)) (words s) at
    opened_by_lem = rw there.judged at judged_is

    pub opened_ready : opened.marker ≡ length s / 2 - 1 → Ok opened ≡ opened_by (or_else (unless (dim_ok dim) 1) (file_fault (top_of dim (words s)) last)) (words s) at
    unfolding opened_judged
    opened_ready h =
        let w = length_words s in
        let q : opened.marker ≡ length (words s) - 1 = omega arith in
        located_last opened.marker opened.found q there.is ∙ (rw (eq-eqb opened.marker last q) at opened_by_lem)

    pub opened_early : (opened.marker ≡ length s / 2 - 1 → ⊥) → refused_with 1 0 ≡ opened_by (or_else (unless (dim_ok dim) 1) (file_fault (top_of dim (words s)) last)) (words s) at
    unfolding opened_judged
    opened_early h = let w = length_words s in rw (ne_eqb opened.marker last (λ z. h (omega arith))) at opened_by_lem

---- the two buffers

-- what holds of lengths that are right
pub record Lengths (size used : ℕ) : Type 0 where
  pub even : size % 2 ≡ 0
  pub small : size ≤ 1048576
  pub used_even : used % 2 ≡ 0
  pub within : used ≤ size

both : (a b : Bool) → (a && b) ≡ true → (a ≡ true) × (b ≡ true)
both true b e = (refl, e)
both false b e = let z : ◌≡◌ {A = Bool} false true = e in absurd (let y : ◌≡◌ {A = ℕ} 0 1 = cc in omega arith)

pub lengths_true : (size used : ℕ) → used_ok size used ≡ true → Lengths size used
lengths_true size used e =
    let t = both (size_ok size) (eqb (used % 2) 0 && leb used size) e in
    let a = both (eqb (size % 2) 0) (leb size 1048576) t.0 in
    let b = both (eqb (used % 2) 0) (leb used size) t.1 in
    record {
      even = eqb-true _ _ a.0;
      small = leb-true _ _ a.1;
      used_even = eqb-true _ _ b.0;
      within = leb-true _ _ b.1;
    }

module _ (dim : ℕ) (file : List ℕ) (used size jused : ℕ) where
  abbrev rest : Bool
  rest = used_ok (length file) used && (used_ok size jused && ends_in_marker (used_words file used))

  -- the used part's length
  pub record Part : Type 0 where
    pub within : used ≤ length file
    pub even : length (take used file) % 2 ≡ 0
    pub two : 2 ≤ length (take used file)
    pub small : length (take used file) ≤ 1048576

  pub part_true : rest ≡ true → Part
  part_true e =
      let t = both (used_ok (length file) used) (used_ok size jused && ends_in_marker (used_words file used)) e in
      let l = lengths_true (length file) used t.0 in
      let m = both (used_ok size jused) (ends_in_marker (used_words file used)) t.1 in
      let k : 1 ≤ length (used_words file used) = leb-true 1 _ (both (leb 1 (length (used_words file used))) (eqb (word_at (used_words file used) (length (used_words file used) - 1)) 65535) m.1).0 in
      let w = length_words (take used file) in
      let n = length-take-le used file l.within in
      let in' = l.within in
      let ev = l.used_even in
      let sm = l.small in
      record { within = in'; even = omega arith; two = omega arith; small = omega arith }

  module _ (at : ℕ) (journal : List ℕ) (is : length journal ≡ size) where
    pub open_refused : rest ≡ false → refused_with 1 0 ≡ opened_by (session_fault dim (session_of file used journal jused)) (used_words file used) at
    unfolding session_fault session_ok
    open_refused e = rw (is, e, and-false (dim_ok dim))

    pub open_judged : rest ≡ true → (r : Result Placed Refusal) →
        r ≡ opened_by (or_else (unless (dim_ok dim) 1) (file_fault (top_of dim (used_words file used)) (length (used_words file used) - 1))) (used_words file used) at →
        r ≡ opened_by (session_fault dim (session_of file used journal jused)) (used_words file used) at
    unfolding session_fault session_ok
    open_judged e r h = rw (is, e, and-true (dim_ok dim)) h

---- what an open session has

-- the used bytes are an accepted file, whose marker is its last word
pub record AcceptedUsed (dim : ℕ) (s : List ℕ) (m : ℕ) : Type 0 where
  pub elements : ℕ
  pub deepest : ℕ
  pub judged : judge_of dim s ≡ accepted_with elements deepest m
  pub last : m + 1 ≡ length (words s)

file_fine : (dim : ℕ) (s : List ℕ) → call_ok dim s ≡ true → 1 ≤ length (words s) → (v : Result Judgement Refusal) → top_of dim (words s) ≡ v →
    file_fault v (length (words s) - 1) ≡ fine → AcceptedUsed dim s (length (words s) - 1)
unfolding judge_of
file_fine dim s call some (Ok judged2) t f =
    let h = eqb-true judged2.next (length (words s) - 1) (unless_fine (eqb judged2.next (length (words s) - 1)) 1 f) in
    record { elements = judged2.elements; deepest = judged2.deepest; judged = rw (call, t, h); last = omega arith }
file_fine dim s call some (Err refusal) t f = let z : ◌≡◌ {A = ℕ} 0 1 = cc in absurd (omega arith)

part_call : (dim : ℕ) (s : List ℕ) → dim_ok dim ≡ true → length s % 2 ≡ 0 → length s ≤ 1048576 → call_ok dim s ≡ true
unfolding call_ok
part_call dim s d e l = rw (d, eq-eqb (length s % 2) 0 e, le-leb (length s) 1048576 l)

pub open_accepted : (dim : ℕ) (file : List ℕ) (used : ℕ) (journal : List ℕ) (jused : ℕ) →
    session_fault dim (session_of file used journal jused) ≡ fine → AcceptedUsed dim (take used file) (length (used_words file used) - 1)
unfolding session_fault session_ok
open_accepted dim file used journal jused e =
    let f = or_else_fine (unless (session_ok dim (session_of file used journal jused)) 1) (file_fault (top_of dim (used_words file used)) (length (used_words file used) - 1)) e in
    let b = both (dim_ok dim) _ (unless_fine (session_ok dim (session_of file used journal jused)) 1 f.0) in
    let p = part_true dim file used (length journal) jused b.1 in
    let w = length_words (take used file) in
    let two = p.two in
    file_fine dim (take used file) (part_call dim (take used file) b.0 p.even p.small) (omega arith) (top_of dim (used_words file used)) refl f.1
