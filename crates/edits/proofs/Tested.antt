-- What a used length and a session have passed, test by test, and back; so the used file of such a session may be judged.
use Prim.Native.Nat.{ℕ, ◌*◌, ◌%◌, ◌≤◌}
use mathlib.Core.Path.{◌≡◌}
use mathlib.Core.Bool.{true, ◌&&◌, and-eq-true_iff}
use mathlib.Core.List.{List}
use native.Mathlib.Omega.{arith}
use lib.ListN.{length, take}
use lib.Seq.{length-take-le}
use lib.Dec.{eqb, leb}
use borrow.Author.Tests.{le-leb, leb-true, eq-eqb, eqb-true}
use Rattle.limits.specs.Limits.{dim_ok, size_ok, used_ok, call_ok}
use Rattle.words.proofs.Laws.{length_words}
use Rattle.edits.specs.Allowed.{fine, unless}
use Rattle.edits.specs.Calls.{Session, index_ok, used_words, words_of, ends_in_marker, session_ok, session_fault}
use Rattle.edits.specs.Demand.{used_bytes}
use Rattle.edits.proofs.Faults.{or_else_fine, unless_fine}
use Rattle.edits.proofs.Tests.{both_and}

pub record UsedWithin (size used : ℕ) : Type 0 where
  pub size_ok_lem : size_ok size ≡ true
  pub even : used % 2 ≡ 0
  pub within : used ≤ size

pub used_parts : (size used : ℕ) → used_ok size used ≡ true → UsedWithin size used
used_parts size used e =
    let p = (and-eq-true_iff (size_ok size) (eqb (used % 2) 0 && leb used size)).0 e in
    let q = (and-eq-true_iff (eqb (used % 2) 0) (leb used size)).0 p.1 in
    record { size_ok_lem = p.0; even = eqb-true (used % 2) 0 q.0; within = leb-true used size q.1 }

pub parts_used : (size used : ℕ) → UsedWithin size used → used_ok size used ≡ true
parts_used size used u = both_and u.size_ok_lem (both_and (eq-eqb (used % 2) 0 u.even) (le-leb used size u.within))

-- each used word has two of the used bytes
pub used_twice : (s : List ℕ) (n : ℕ) → UsedWithin (length s) n → n ≡ 2 * length (used_words s n)
used_twice s n u =
    let even = u.even in
    let l = length_words (take n s) in
    let t = length-take-le n s u.within in
    omega arith

pub record Tested (dim : ℕ) (s : Session) : Type 0 where
  pub index : index_ok s.index ≡ true
  pub dimension : dim_ok dim ≡ true
  pub file : used_ok (length s.file) s.used ≡ true
  pub journal : used_ok (length s.journal) s.jused ≡ true
  pub ends : ends_in_marker (words_of s) ≡ true

pub session_ok_lem : {dim : ℕ} {s : Session} → Tested dim s → session_ok dim s ≡ true
unfolding session_ok
session_ok_lem t = both_and t.index (both_and t.dimension (both_and t.file (both_and t.journal t.ends)))

pub tested : (dim : ℕ) (s : Session) → session_ok dim s ≡ true → Tested dim s
unfolding session_ok
tested dim s e =
    let i = (and-eq-true_iff (index_ok s.index) _).0 e in
    let p = (and-eq-true_iff (dim_ok dim) _).0 i.1 in
    let q = (and-eq-true_iff (used_ok (length s.file) s.used) _).0 p.1 in
    let r = (and-eq-true_iff (used_ok (length s.journal) s.jused) (ends_in_marker (words_of s))).0 q.1 in
    record { index = i.0; dimension = p.0; file = q.0; journal = r.0; ends = r.1 }

-- a session that opens has passed them
pub ready_tested : (dim : ℕ) (s : Session) → session_fault dim s ≡ fine → Tested dim s
unfolding session_fault
ready_tested dim s e = tested dim s (unless_fine (session_ok dim s) 1 (or_else_fine (unless (session_ok dim s) 1) _ e).0)

-- the used bytes are a file that judging may be handed
pub used_call : {dim : ℕ} {s : Session} → Tested dim s → call_ok dim (used_bytes s) ≡ true
unfolding call_ok
used_call {s = s} t =
    let u = used_parts (length s.file) s.used t.file in
    let most = leb-true (length s.file) 1048576 ((and-eq-true_iff (eqb (length s.file % 2) 0) (leb (length s.file) 1048576)).0 u.size_ok_lem).1 in
    let even = u.even in
    let within = u.within in
    both_and t.dimension
    (rw (length-take-le s.used s.file within)
    (both_and (eq-eqb (s.used % 2) 0 even) (le-leb s.used 1048576 (omega arith))))
