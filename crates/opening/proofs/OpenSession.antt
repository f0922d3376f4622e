-- What an open session has: its lengths are right, and its used file is accepted.
use Prim.Native.Nat.{ℕ, ◌-◌, ◌≤◌, ◌%◌}
use mathlib.Core.Path.{◌≡◌, refl, sym, ap, ◌∙◌}
use mathlib.Core.Bool.{true, and-eq-true_iff}
use mathlib.Core.List.{List}
use native.Mathlib.Omega.{arith}
use lib.ListN.{length, take}
use lib.Seq.{length-take-le}
use Rattle.words.specs.Words.{Below}
use Rattle.words.proofs.Laws.{length_words}
use Rattle.limits.specs.Limits.{dim_ok, used_ok}
use Rattle.files.specs.Judge.{top_of}
use Rattle.places.specs.Descent.{locate_of}
use Rattle.edits.specs.Allowed.{Fault?, fine, fault, unless, edit_fault}
use Rattle.edits.specs.Calls.{used_words, ends_in_marker, session_ok, file_fault, session_fault}
use Rattle.edits.specs.Edits.{Edit}
use Rattle.edits.proofs.Faults.{or_else_fine, unless_fine}
use Rattle.edits.proofs.Accepted.{Carried, Sound}
use Rattle.edits.proofs.Bounds.{below_take}
use Rattle.edits.proofs.Sound.{sound}
use Rattle.opening.specs.Opening.{opened_by, session_of, OpenedAs}
use Rattle.opening.proofs.Opening.{AcceptedUsed, Lengths, lengths_true, open_accepted}
use Rattle.opening.proofs.Accepted.{standing}
use Rattle.opening.specs.Steps.{last_place, Open}
use Rattle.std.specs.Prelude.{Err, Ok, Result}
use Rattle.places.specs.declared.Placed.{Placed}
use Rattle.places.specs.declared.Spotted.{Spotted}
use Rattle.refusals.proofs.Laws.{refused_not_given, given_not_refused, given_is, refusal_is}
use Rattle.refusals.specs.declared.Refusal.{Refusal}

module _ (dim : ℕ) (file : List ℕ) (used : ℕ) (journal : List ℕ) (jused : ℕ) where
  abbrev fault_of : Fault?
  fault_of = session_fault dim (session_of file used journal jused)

  -- what opening answered
  module _ (p : ℕ) (r : Result Placed Refusal) (is : OpenedAs dim file used (length journal) jused p r) where
    pub opened_ready : (opened : Placed) → r ≡ Ok opened → Open dim file used journal jused p opened.found × (opened.marker ≡ last_place file used)
    opened_ready opened h = go fault_of refl (sym h ∙ is journal refl)
      where
        go : (f : Fault?) → session_fault dim (session_of file used journal jused) ≡ f → Ok opened ≡ opened_by f (used_words file used) p →
            Open dim file used journal jused p opened.found × (opened.marker ≡ last_place file used)
        go fine e q =
            let same = given_is q in
            (record { ready = e; found_is = ap (λ (r : Placed). r.found) same }, ap (λ (r : Placed). r.marker) same)
        go (fault n q') e q = absurd (refused_not_given q)

    pub opened_refused : (refusal : Refusal) → r ≡ Err refusal → fault_of ≡ fault refusal.number refusal.place
    opened_refused refusal h = go fault_of refl (sym h ∙ is journal refl)
      where
        go : (f : Fault?) → session_fault dim (session_of file used journal jused) ≡ f → Err refusal ≡ opened_by f (used_words file used) p →
            session_fault dim (session_of file used journal jused) ≡ fault refusal.number refusal.place
        go fine e h = absurd (given_not_refused h)
        go (fault n q) e h = e ∙ ap (λ (r : Refusal). fault r.number r.place) (sym (refusal_is h))

  module _ (ready : session_fault dim (session_of file used journal jused) ≡ fine) where
    lengths : (used_ok (length file) used ≡ true) × (used_ok (length journal) jused ≡ true)
    unfolding session_fault session_ok
    lengths =
        let f = or_else_fine (unless (session_ok dim (session_of file used journal jused)) 1) (file_fault (top_of dim (used_words file used)) (length (used_words file used) - 1)) ready in
        let b = (and-eq-true_iff (dim_ok dim) _).0 (unless_fine (session_ok dim (session_of file used journal jused)) 1 f.0) in
        let c = (and-eq-true_iff (used_ok (length file) used) _).0 b.1 in
        let d = (and-eq-true_iff (used_ok (length journal) jused) (ends_in_marker (used_words file used))).0 c.1 in
        (c.0, d.0)

    pub file_lengths : Lengths (length file) used
    file_lengths = lengths_true (length file) used lengths.0

    pub journal_lengths : Lengths (length journal) jused
    journal_lengths = lengths_true (length journal) jused lengths.1

  -- the same by another name of the place
  pub open_by : {p q : ℕ} {found : Result Spotted Refusal} → p ≡ q → Open dim file used journal jused p found → Open dim file used journal jused q found
  open_by e o = record { ready = o.ready; found_is = o.found_is ∙ ap (λ k. locate_of (used_words file used) k (last_place file used)) e }

---- its lengths

module _ {dim : ℕ} {file : List ℕ} {used : ℕ} {journal : List ℕ} {jused p : ℕ} {found : Result Spotted Refusal} (o : Open dim file used journal jused p found) where
  pub used_within : used ≤ length file
  used_within = (file_lengths dim file used journal jused o.ready).within

  pub jused_within : jused ≤ length journal
  jused_within = (journal_lengths dim file used journal jused o.ready).within

  pub used_most : used ≤ 1048576
  used_most =
      let l = used_within in
      let m = (file_lengths dim file used journal jused o.ready).small in
      omega arith

  pub journal_most : length journal ≤ 1048576
  journal_most = (journal_lengths dim file used journal jused o.ready).small

  pub used_even : used % 2 ≡ 0
  used_even = (file_lengths dim file used journal jused o.ready).used_even

  pub jused_even : jused % 2 ≡ 0
  jused_even = (journal_lengths dim file used journal jused o.ready).used_even

  ---- its used file

  pub open_used : AcceptedUsed dim (take used file) (last_place file used)
  open_used = open_accepted dim file used journal jused o.ready

  words_most : length (used_words file used) ≤ 524288
  words_most =
      let n = length_words (take used file) in
      let l = length-take-le used file used_within in
      let e = used_even in
      let k = used_most in
      omega arith

  module _ (below : Below 256 file) where
    pub used_below : Below 256 (take used file)
    used_below = below_take 256 used file (omega arith) below

    -- the law of an edit that nothing refuses
    pub sound_here : (e : Edit) → edit_fault dim (used_words file used) e ≡ fine → Carried e → Sound dim (used_words file used) e
    sound_here e f c = sound dim (used_words file used) e (standing dim (take used file) (last_place file used) open_used used_below) words_most f c
