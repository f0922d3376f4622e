-- The used journal of a run holds the records of the book's edits one behind another (edits' `KeptRun`): so walking back reads them
-- off one by one, and comes to an empty journal.
use Prim.Native.Nat.{ℕ, ◌+◌, ◌*◌, ◌≤◌}
use mathlib.Core.Path.{◌≡◌, refl, sym, ap, ◌∙◌, subst}
use mathlib.Core.List.{List, [], ◌∷◌, ◌++◌}
use native.Mathlib.Omega.{arith}
use lib.ListN.{length, get_or, take, replicate, length-append}
use lib.Seq.{take-take, sets}
use borrow.Author.Tests.{ne_eqb}
use Rattle.edits.specs.Edits.{Edit, apply}
use Rattle.edits.specs.Records.{Rec, flag, renamed, inserted, removed, record_of, record_words}
use Rattle.edits.specs.Calls.{Session, size_of, words_of}
use Rattle.edits.specs.Book.{Run, applied}
use Rattle.edits.specs.Demand.{run_of}
use Rattle.edits.proofs.Buffers.{Holds, holds_ok, holds_front}
use Rattle.edits.proofs.Every.{hypotheses}
use Rattle.edits.proofs.Demand.{run_kept}
use Rattle.edits.proofs.Journal.{reads, record_long}
use Rattle.edits.proofs.Replay.{no_edit, one_more, replay_applied}
use Rattle.edits.proofs.Steps.{Replayed, Begun, KeptRun, sound_at}
use Rattle.answers.specs.Answers.{Reply, done, refuse, returned, slice_left, Replied}
use Rattle.answers.proofs.Laws.{answered}
use Rattle.answers.proofs.Besides.{front_read, front_at}
use Rattle.dgn_record.specs.LastRecord.{record_numbers, record_reply}
use Rattle.dgn_sessions.specs.History.{records_of, four_of, WalkedBack, ends, goes_on, HistoryOf, EveryHistory}
use Rattle.dgn_sessions.proofs.Exports.{export_run}

---- a journal that is walked back

-- what dgn_record answers of it, record by record
abbrev Shows : List ℕ → ℕ → List Rec → Type 0
Shows journal used [] = record_reply journal used ≡ refuse 17 0
Shows journal used (r ∷ rs) = (before : ℕ) × (record_reply journal used ≡ done (record_numbers r before)) × Shows journal before rs

module _ (dim : ℕ) where
  records_more : (ws : List ℕ) (es : List Edit) (e : Edit) → records_of dim ws (es ++ (e ∷ [])) ≡ record_of dim (applied dim ws es) e ∷ records_of dim ws es
  records_more ws [] e = refl
  records_more ws (d ∷ es) e = ap (λ l. l ++ (record_of dim ws d ∷ [])) (records_more (apply dim ws d) es e)

  module _ (s₀ : Session) (B : Begun dim s₀) where
    shows : (journal : List ℕ) (used : ℕ) (es : List Edit) (ws js : List ℕ) → Replayed dim s₀ es ws js → Holds (length s₀.journal) journal used js →
        Shows journal used (records_of dim (words_of s₀) es)
    unfolding record_reply
    shows journal used es ws js no_edit J = rw (holds_ok J s₀.journal refl B.journal_ok, J.used) refl
    shows journal used es ws js (one_more es₀ ws₀ js₀ e r f c l i) J =
        let rec = record_of dim ws₀ e in
        let S = sound_at dim (hypotheses dim) s₀ B es₀ ws₀ js₀ e r f c in
        let long = J.used in
        let more = length-append js₀ (record_words (record_of dim ws₀ e)) in
        let six = record_long rec in
        let first : record_of dim ws₀ e ≡ record_of dim (applied dim (words_of s₀) es₀) e =
        ap (λ u. record_of dim u e) (replay_applied dim (words_of s₀) (length s₀.file) (size_of s₀.index) es₀ ws₀ js₀ r) in
        subst (Shows journal used) (ap (λ x. x ∷ records_of dim (words_of s₀) es₀) first ∙ sym (records_more (words_of s₀) es₀ e)) (
          2 * length js₀,
          rw (holds_ok J s₀.journal refl B.journal_ok, ne_eqb used 0 (λ z. omega arith), J.words, reads js₀ rec S.small) refl,
          shows journal (2 * length js₀) es₀ ws₀ js₀ r (holds_front (length s₀.journal) journal used js₀ (record_words rec) J),
        )

---- the calls

-- what a call with a slice that is long enough answers
answer_is : (q r : Reply ℕ) (out t : List ℕ) (n : ℕ) → q ≡ r → 5 ≤ length out → Replied 5 q out n t → (n ≡ returned r) × (t ≡ slice_left r out)
answer_is q r out t n e h a = let b = answered 5 q r out e h in (a.is ∙ sym b.is, a.out ∙ sym b.out)

-- the five numbers of a record in its slice
five : (r : Rec) (before : ℕ) (out t : List ℕ) → 5 ≤ length out → t ≡ sets out 0 (record_numbers r before) → (take 4 t ≡ take 4 (record_numbers r 0)) × (get_or t 4 0 ≡ before)
five r before out t h e = go r e
  where
    -- what stands at the front of the slice
    front : (vs : List ℕ) → length vs ≡ 5 → t ≡ sets out 0 vs → (take 4 t ≡ take 4 vs) × (get_or t 4 0 ≡ get_or vs 4 0)
    front vs l q =
        let all : take 5 t ≡ vs = ap (take 5) q ∙ ap (λ n. take n (sets out 0 vs)) (sym l) ∙ front_read vs out (omega arith) in
        (sym (take-take 4 5 t (omega arith)) ∙ ap (take 4) all, ap (λ l. get_or l 4 0) q ∙ front_at vs out 4 0 (omega arith) (omega arith))

    go : (r : Rec) → t ≡ sets out 0 (record_numbers r before) → (take 4 t ≡ take 4 (record_numbers r 0)) × (get_or t 4 0 ≡ before)
    go (flag p x) e = front (record_numbers (flag p x) before) refl e
    go (renamed p a b) e = front (record_numbers (renamed p a b) before) refl e
    go (inserted h p) e = front (record_numbers (inserted h p) before) refl e
    go (removed h p x) e = front (record_numbers (removed h p x) before) refl e

module _ (journal : List ℕ) where
  walked : {used n : ℕ} {given : List (List ℕ)} (rs : List Rec) → Shows journal used rs → WalkedBack journal used given n → (given ≡ four_of rs) × (n ≡ 17)
  walked {used} {n} [] e (ends out t h a z) = (refl, (answer_is (record_reply journal used) (refuse 17 0) out t n e h a).0)
  walked {used} [] e (goes_on out t h a w) = let z : ◌≡◌ {A = ℕ} 0 17 = (answer_is (record_reply journal used) (refuse 17 0) out t 0 e h a).0 in absurd (omega arith)
  walked {used} {n} (r ∷ rs) e (ends out t h a z) = absurd (z (answer_is (record_reply journal used) (done (record_numbers r e.0)) out t n e.1 h a).0)
  walked {used} (r ∷ rs) e (goes_on out t h a w) =
      let b = five r e.0 out t h (answer_is (record_reply journal used) (done (record_numbers r e.0)) out t 0 e.1 h a).1 in
      let rest = walked rs (subst (λ u. Shows journal u rs) (sym b.1) e.2) w in
      (rw (rest.0, b.0) refl, rest.1)

  -- and a walk there is
  walk_there : {used : ℕ} (rs : List Rec) → Shows journal used rs → (given : List (List ℕ)) × (n : ℕ) × WalkedBack journal used given n
  walk_there {used} [] e = ([], 17, ends (replicate 5 0) (replicate 5 0) (omega arith) (answered 5 (record_reply journal used) (refuse 17 0) (replicate 5 0) e (omega arith)) (λ z. omega arith))
  walk_there {used} (r ∷ rs) e =
      let out : List ℕ = replicate 5 0 in
      let t = sets (replicate 5 0) 0 (record_numbers r e.0) in
      let b = five r e.0 out t (omega arith) refl in
      let rest = walk_there {used = get_or t 4 0} rs (subst (λ u. Shows journal u rs) (sym b.1) e.2) in
      (take 4 t ∷ rest.0, rest.1, goes_on out t (omega arith) (answered 5 (record_reply journal used) (done (record_numbers r e.0)) out e.1 (omega arith)) rest.2)

---- every list of calls

pub every_history : EveryHistory
every_history dim s xs last opened pieces called = export_run (HistoryOf dim s) dim s (λ cs p. every (run_of dim s cs) (run_kept dim (hypotheses dim) s cs opened p)) xs last pieces called
  where
    every : (r : Run) → Begun dim s × KeptRun dim s r → HistoryOf dim s r
    every r k =
        let rs = records_of dim (words_of s) r.book in
        let h = shows dim s k.0 r.session.journal r.session.jused r.book k.1.ws k.1.js k.1.replay k.1.journal in
        record { is = λ given n w. walked r.session.journal rs h w; is_there = walk_there r.session.journal rs h }
