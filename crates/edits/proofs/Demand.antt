-- Demand 3, from the law of one edit: a run keeps the used words those that the listed edits lead to and the used
-- journal their records, and every statement is read off these two.
use Prim.Native.Nat.{ℕ, ◌-◌, ◌*◌, ◌/◌, ◌%◌, ◌≤◌}
use mathlib.Core.Path.{◌≡◌, refl, sym, ap, ◌∙◌, subst}
use mathlib.Core.Bool.{true, and-eq-true_iff}
use mathlib.Core.List.{List, []}
use native.Mathlib.Omega.{arith}
use lib.ListN.{length, take}
use lib.Seq.{length-take-le}
use lib.Dec.{eqb, leb}
use borrow.Author.Tests.{le-leb, leb-true, eq-eqb, eqb-true}
use Rattle.std.specs.Prelude.{Err, Ok, Result}
use Rattle.refusals.specs.declared.Refusal.{Refusal}
use Rattle.words.specs.Words.{bytes, Below}
use Rattle.words.proofs.Laws.{words_below}
use Rattle.limits.specs.Limits.{call_ok}
use Rattle.files.specs.Judge.{top_of, judge_of}
use Rattle.files.specs.declared.Judgement.{Judgement}
use Rattle.edits.specs.Edits.{Edit}
use Rattle.edits.specs.Allowed.{fine, unless}
use Rattle.edits.specs.Calls.{Session, size_of, Call, used_words, words_of, ends_in_marker, session_ok, file_fault, session_fault}
use Rattle.edits.specs.Book.{Run, ran, applied, undos}
use Rattle.edits.specs.Demand.{OpenedEmpty, PiecesBytes, run_of, used_bytes, AcceptedFile, Demand3, EveryRun}
use Rattle.edits.proofs.Accepted.{Accepted}
use Rattle.edits.proofs.Bounds.{below_take}
use Rattle.edits.proofs.Buffers.{Holds, used_holds, holds_bytes, holds_same}
use Rattle.edits.proofs.Replay.{no_edit, replay_applied, replay_empty}
use Rattle.edits.proofs.Hypotheses.{Hypotheses}
use Rattle.edits.proofs.Faults.{or_else_fine, unless_fine}
use Rattle.edits.proofs.Tested.{used_parts, ready_tested}
use Rattle.edits.proofs.Steps.{Begun, Kept, KeptRun, limit, accepted_at, kept_ready}
use Rattle.edits.proofs.Undos.{kept_run, undos_bytes, undo_refused, undo_nothing, undos_clear}

---- a run's start

-- where a file has no refusal of its own, it is accepted with its marker last
pub file_tree : (dim : ℕ) → Hypotheses dim → (ws : List ℕ) → Below 65536 ws → ends_in_marker ws ≡ true
    → file_fault (top_of dim ws) (length ws - 1) ≡ fine → Accepted dim ws
file_tree dim hyp ws b ends = go (top_of dim ws) refl
  where
    long : 1 ≤ length ws
    long = leb-true 1 (length ws) ((and-eq-true_iff (leb 1 (length ws)) _).0 ends).0

    go : (v : Result Judgement Refusal) → top_of dim ws ≡ v → file_fault v (length ws - 1) ≡ fine → Accepted dim ws
    go (Ok judged) q f =
        let last : judged.next ≡ length ws - 1 = eqb-true judged.next (length ws - 1) (unless_fine (eqb judged.next (length ws - 1)) 1 f) in
        hyp.judged_tree ws judged.next judged.elements judged.deepest judged.direct b q (let l = long in omega arith)
    go (Err refusal) q f = let z : ◌≡◌ {A = ℕ} 0 1 = cc in absurd (omega arith)

begin : (dim : ℕ) → Hypotheses dim → (s : Session) → OpenedEmpty dim s → Begun dim s
unfolding session_fault
begin dim hyp s O =
    let u = words_of s in
    let two = or_else_fine (unless (session_ok dim s) 1) (file_fault (top_of dim u) (length u - 1)) O.ready in
    let t = ready_tested dim s O.ready in
    let none = O.journal_empty in
    record {
      dimension = t.dimension;
      file_ok = (used_parts (length s.file) s.used t.file).size_ok_lem;
      journal_ok = (used_parts (length s.journal) s.jused t.journal).size_ok_lem;
      file = used_holds s.file s.used O.file_bytes t.file;
      journal = record { whole = refl; bytes = O.journal_bytes; used = none; within = omega arith; words = ap (used_words s.journal) none };
      tree = file_tree dim hyp u (words_below (take s.used s.file) (below_take 256 s.used s.file (omega arith) O.file_bytes)) t.ends two.1;
      index = O.index_built;
      index_fits_lem = O.index_fits_lem;
    }

module _ (dim : ℕ) (hyp : Hypotheses dim) (s₀ : Session) (B : Begun dim s₀) where
  first : KeptRun dim s₀ (record { session = s₀; book = [] })
  first = record { ws = words_of s₀; js = []; replay = no_edit; file = B.file; journal = B.journal; index = B.index }

  ---- what a run keeps, read off

  kept_judged : (s : Session) (es : List Edit) → Kept dim s₀ s es → AcceptedFile dim s
  unfolding judge_of call_ok
  kept_judged s es K =
      let v = hyp.tree_judged K.ws (accepted_at dim hyp s₀ B es K.ws K.js K.replay) in
      let whole = K.file.whole in
      let used = K.file.used in
      let within = K.file.within in
      let most = limit dim hyp s₀ B in
      let long : length (take s.used s.file) ≡ s.used = length-take-le s.used s.file (omega arith) in
      let marker : length K.ws - 1 ≡ s.used / 2 - 1 = omega arith in
      record {
        elements = v.0;
        deepest = v.1;
        judged =
            rw (long, B.dimension, eq-eqb (s.used % 2) 0 (omega arith), le-leb s.used 1048576 (omega arith), K.file.words, v.3, marker) refl;
      }

  record Back (s : Session) : Type 0 where
    journal : s.jused ≡ 0
    used : s.used ≡ s₀.used
    bytes : used_bytes s ≡ used_bytes s₀

  -- with an empty list the used bytes are the original's
  kept_back : (s : Session) (es : List Edit) → es ≡ [] → Kept dim s₀ s es → Back s
  kept_back s es e K =
      let same : K.ws ≡ words_of s₀ =
      replay_applied dim (words_of s₀) (length s₀.file) (size_of s₀.index) es K.ws K.js K.replay ∙ ap (applied dim (words_of s₀)) e in
      let empty : K.js ≡ [] = replay_empty dim (words_of s₀) (length s₀.file) (size_of s₀.index) es K.ws K.js K.replay e in
      let H : Holds (length s₀.file) s.file s.used (words_of s₀) = subst (Holds (length s₀.file) s.file s.used) same K.file in
      record {
        journal = K.journal.used ∙ ap (λ l. 2 * length l) empty;
        used = H.used ∙ sym B.file.used;
        bytes = holds_same (length s₀.file) (length s₀.file) s.file s₀.file s.used s₀.used (words_of s₀) H B.file;
      }

  after_run : (r : Run) → KeptRun dim s₀ r → Demand3 dim s₀ r
  after_run r K =
      let s = r.session in
      let es = r.book in
      let clear = undos_clear dim hyp s₀ B (length es) s es refl K in
      let z = ran dim r (undos es) in
      let back = kept_back z.session z.book clear.1 (kept_run dim hyp s₀ B (undos es) r (undos_bytes es) K) in
      let same = replay_applied dim (words_of s₀) (length s₀.file) (size_of s₀.index) es K.ws K.js K.replay in
      record {
        accepted = kept_judged s es K;
        ready = kept_ready dim hyp s₀ B s es K;
        file_length = K.file.whole;
        journal_length = K.journal.whole;
        index = rw K.file.words K.index;
        equals = K.file.words ∙ same;
        equals_bytes = holds_bytes (length s₀.file) s.file s.used K.ws K.file ∙ ap bytes same;
        undo_refused = undo_refused dim hyp s₀ B s es K;
        undo_nothing = undo_nothing dim hyp s₀ B s es K;
        undos_made = clear.0;
        undos_book = clear.1;
        undos_journal = back.journal;
        undos_used = back.used;
        undos_bytes = back.bytes;
      }

-- what every run keeps
pub run_kept : (dim : ℕ) → Hypotheses dim → (s : Session) (cs : List Call) → OpenedEmpty dim s → PiecesBytes cs → Begun dim s × KeptRun dim s (run_of dim s cs)
run_kept dim hyp s cs O b =
    let B = begin dim hyp s O in
    (B, kept_run dim hyp s B cs (record { session = s; book = [] }) b (first dim hyp s B))

-- demand 3, at one dimension and at every one
pub demand_3 : (dim : ℕ) → Hypotheses dim → (s : Session) (cs : List Call) → OpenedEmpty dim s → PiecesBytes cs → Demand3 dim s (run_of dim s cs)
demand_3 dim hyp s cs O b =
    let k = run_kept dim hyp s cs O b in
    after_run dim hyp s k.0 (run_of dim s cs) k.1

pub every_run : ((dim : ℕ) → Hypotheses dim) → EveryRun
every_run hyps dim = demand_3 dim (hyps dim)
