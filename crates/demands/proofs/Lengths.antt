-- The longest that may be lent: 1,048,576 bytes are judged, edited and stored in blocks, more are refused with 1.
use Prim.Native.Nat.{ℕ, ◌%◌, ◌<◌}
use mathlib.Core.Path.{◌≡◌, refl}
use mathlib.Core.Logic.{◌⊎◌, inl, inr}
use mathlib.Core.Bool.{Bool, true, false, and-false}
use mathlib.Core.List.{List, [], ◌∷◌}
use mathlib.Core.Option.{Option, none}
use lib.Dec.{eqb}
use lib.ListN.{length}
use borrow.Author.Tests.{lt-leb}
use Rattle.std.specs.Prelude.{Ok}
use Rattle.refusals.specs.Refusals.{refused_with}
use Rattle.limits.specs.Limits.{dim_ok, size_ok, used_ok, call_ok}
use Rattle.files.specs.Ends.{stop_of}
use Rattle.files.specs.Judge.{list_from, top_of, judge_of}
use Rattle.files.specs.Accepted.{accepted_with}
use Rattle.grammar.proofs.Exact.{judged_after_marker}
use Rattle.edits.specs.Allowed.{fault, or_else, unless}
use Rattle.edits.specs.Calls.{Session, index_ok, Call, insert_call, undo_call, piece_ok, session_ok, session_fault, open_fault, undone, step}
use Rattle.blocks.specs.Blocks.{blocks_for}
use Rattle.blocks.specs.Calls.{to_blocks, from_blocks}

-- the marker first, then anything
abbrev opened : List ℕ → List ℕ
opened rest = 255 ∷ 255 ∷ rest

longest : (rest : List ℕ) → length rest ≡ 1048574 → size_ok (length (opened rest)) ≡ true
longest rest h = rw h refl

too_long : (n : ℕ) → 1048576 < n → size_ok n ≡ false
too_long n h = rw (lt-leb n 1048576 h) (and-false (eqb (n % 2) 0))

-- a file of 1,048,576 bytes with the marker first is accepted
pub longest_judged : (dim : ℕ) (rest : List ℕ) → dim_ok dim ≡ true → length rest ≡ 1048574 → judge_of dim (opened rest) ≡ accepted_with 0 0 0
unfolding call_ok judge_of top_of list_from stop_of
longest_judged dim rest d h = judged_after_marker dim (opened []) (opened rest) 0 0 0 (rw d refl) (rw (d, longest rest h) refl) refl

-- a longer file is refused with 1
pub longer_judged : (dim : ℕ) (s : List ℕ) → 1048576 < length s → judge_of dim s ≡ refused_with 1 0
unfolding call_ok judge_of
longer_judged dim s h = rw (too_long (length s) h, and-false (dim_ok dim)) refl

-- a session whose two buffers have 1,048,576 bytes each opens: an undo finds nothing to undo
pub longest_edited : (dim : ℕ) (rest journal : List ℕ) → dim_ok dim ≡ true → length rest ≡ 1048574 → length journal ≡ 1048576 →
    (step dim (record { file = opened rest; used = 2; journal = journal; jused = 0; index = none }) undo_call).answer ≡ refused_with 17 0
unfolding step open_fault session_fault session_ok top_of list_from stop_of undone
longest_edited dim rest journal d h k = rw (d, h, k) refl

-- 1, whether the piece's test or the session's fails
one : (b : Bool) → or_else (unless b 1) (fault 1 0) ≡ fault 1 0
one true = refl
one false = refl

not_opened : (dim : ℕ) (s : Session) (c : Call) → session_ok dim s ≡ false → (step dim s c).answer ≡ refused_with 1 0
unfolding step open_fault session_fault
not_opened dim s c h = rw (h, one (piece_ok c)) refl

-- with a longer buffer every call is refused with 1
pub longer_edited : (dim : ℕ) (s : Session) (c : Call) → (1048576 < length s.file) ⊎ (1048576 < length s.journal) → (step dim s c).answer ≡ refused_with 1 0
unfolding session_ok
longer_edited dim s c (inl h) = not_opened dim s c (rw (too_long (length s.file) h, and-false (dim_ok dim)) (and-false (index_ok s.index)))
longer_edited dim s c (inr h) =
    not_opened dim s c (rw (too_long (length s.journal) h, and-false (used_ok (length s.file) s.used), and-false (dim_ok dim)) (and-false (index_ok s.index)))

-- an insert of a longer piece is refused with 1
pub longer_piece : (dim : ℕ) (s : Session) (h : Option ℕ) (p : ℕ) (piece : List ℕ) → 1048576 < length piece →
    (step dim s (insert_call h p piece)).answer ≡ refused_with 1 0
unfolding step open_fault
longer_piece dim s h p piece l = rw (too_long (length piece) l) refl

-- a journal of 1,048,576 bytes has 2,065 blocks, 1,057,280 bytes; a longer one, and more bytes of blocks, are refused with 1
pub longest_stored : (j : List ℕ) → length j ≡ 1048576 → to_blocks j 1057280 ≡ Ok 1057280
unfolding blocks_for
longest_stored j h = rw h refl

pub longer_stored : (j : List ℕ) (room : ℕ) → 1048576 < length j → to_blocks j room ≡ refused_with 1 0
longer_stored j room h = rw (lt-leb (length j) 1048576 h, and-false (eqb (length j % 2) 0)) refl

pub longer_blocks : (s : List ℕ) (room : ℕ) → 1057280 < length s → from_blocks s room ≡ refused_with 1 0
longer_blocks s room h = rw (lt-leb (length s) 1057280 h, and-false (eqb (length s % 2) 0)) refl
