-- Demand 3 of the C interface: a list of calls of its functions of a session, each lent the buffers that the last one left, a lent
-- index's too, and the used lengths that `out` then held.
use Rattle.std.specs.Prelude.{ℕ, ◌≡◌, cond, not, List, [], ◌∷◌, get_or, eqb}
use Rattle.std.proofs.Math.Option.{Option, none as bare, some}
use Rattle.edits.specs.Calls.{Index, Session, Call, mark_call, rename_call, insert_call, remove_call, undo_call}
use Rattle.edits.specs.Book.{Run, noted}
use Rattle.edits.specs.Demand.{OpenedEmpty, PiecesBytes, Demand3}
use Rattle.edit_answers.specs.Editing.{iused_of, StepLeftAll, MarkLeftAll, header_given}

-- a function with its arguments as they are handed in: a mark's flag and an insert's header place are numbers. On a session that is
-- lent an index it is the function of that name with `_indexed`
pub data Export : Type 0 where
  dgn_mark : ℕ → ℕ → Export
  dgn_rename : ℕ → List ℕ → Export
  dgn_insert : ℕ → ℕ → List ℕ → Export
  dgn_remove : ℕ → Export
  dgn_undo : Export

-- the call that it asks for
abbrev pub call_of : Export → Call
call_of (dgn_mark place deleted) = mark_call place (eqb deleted 1)
call_of (dgn_rename place text) = rename_call place text
call_of (dgn_insert header place piece) = insert_call (header_given header) place piece
call_of (dgn_remove place) = remove_call place
call_of dgn_undo = undo_call

abbrev pub calls_of : List Export → List Call
calls_of [] = []
calls_of (x ∷ xs) = call_of x ∷ calls_of xs

-- what its contract says of the session s, lent the slice `out`: the number n that is returned, and the buffers, the index's if one
-- is lent, and the slice t as they then are. A mark by a flag that is neither 0 nor 1, and every call with too short a slice, is
-- refused
abbrev pub Answers : ℕ → Session → Export → List ℕ → ℕ → List ℕ → List ℕ → Option (List ℕ) → List ℕ → Type 0
Answers dim s (dgn_mark place deleted) out n file journal index t = MarkLeftAll dim s place deleted out n file journal index t
Answers dim s (dgn_rename place text) out n file journal index t = StepLeftAll dim s (rename_call place text) out n file journal index t
Answers dim s (dgn_insert header place piece) out n file journal index t = StepLeftAll dim s (insert_call (header_given header) place piece) out n file journal index t
Answers dim s (dgn_remove place) out n file journal index t = StepLeftAll dim s (remove_call place) out n file journal index t
Answers dim s dgn_undo out n file journal index t = StepLeftAll dim s undo_call out n file journal index t

-- an index by its buffer and its used length; none where none is lent
abbrev pub index_in : Option (List ℕ) → Option ℕ → Option Index
index_in bare iused = bare
index_in (some buffer) bare = bare
index_in (some buffer) (some iused) = some (record { buffer = buffer; iused = iused })

-- the session that the next call is lent: the buffers as they are, and the used lengths that the slice holds; where the call was
-- refused, the last ones
abbrev pub lends : ℕ → List ℕ → Session → List ℕ → List ℕ → Option (List ℕ) → Session
lends n t s file journal index = record {
  file = file;
  used = cond (eqb n 0) (get_or t 0 0) s.used;
  journal = journal;
  jused = cond (eqb n 0) (get_or t 1 0) s.jused;
  index = index_in index (cond (eqb n 0) (some (get_or t 2 0)) (iused_of s.index));
}

-- and the book, which is fed the calls and whether each was refused
abbrev pub after : Run → Export → ℕ → List ℕ → List ℕ → Option (List ℕ) → List ℕ → Run
after r x n file journal index t = record {
  session = lends n t r.session file journal index;
  book = noted r.book (call_of x) (not (eqb n 0));
}

-- the calls of a list made one after another, with any slices, and any numbers and bytes that their contracts allow; one that is
-- not refused has the session's dimension
pub data Called (dim : ℕ) : Run → List Export → Run → Type 0 where
  none : (r : Run) → Called dim r [] r
  next : (r : Run) (x : Export) (xs : List Export) (d : ℕ) (out : List ℕ) (n : ℕ) (file journal : List ℕ) (index : Option (List ℕ)) (t : List ℕ) (last : Run) →
      Answers d r.session x out n file journal index t → (n ≡ 0 → d ≡ dim) →
      Called dim (after r x n file journal index t) xs last → Called dim r (x ∷ xs) last

-- the demand, of every dimension, session and list of calls
abbrev pub EveryExport : Type 0
EveryExport =
    (dim : ℕ) (s : Session) (xs : List Export) (last : Run) → OpenedEmpty dim s → PiecesBytes (calls_of xs) →
    Called dim (record { session = s; book = [] }) xs last → Demand3 dim s last

-- the first numbers of a slice are a session's used lengths, the third that of an index, if one is lent
pub record Holds (out : List ℕ) (s : Session) : Type 0 where
  pub used : get_or out 0 0 ≡ s.used
  pub jused : get_or out 1 0 ≡ s.jused
  pub iused : (i : Index) → s.index ≡ some i → get_or out 2 0 ≡ i.iused

-- so a host may keep the used lengths in the slice alone: whatever a call answers, it then holds those of the next one
abbrev pub KeptInOut : Type 0
KeptInOut =
    (dim : ℕ) (s : Session) (x : Export) (out : List ℕ) (n : ℕ) (file journal : List ℕ) (index : Option (List ℕ)) (t : List ℕ) →
    Answers dim s x out n file journal index t → Holds out s → Holds t (lends n t s file journal index)

-- the calls of a list, each lent the slice as the last one left it, and the used lengths that it holds
abbrev pub in_slice : List ℕ → List ℕ → List ℕ → Option (List ℕ) → Session
in_slice t file journal index = record { file = file; used = get_or t 0 0; journal = journal; jused = get_or t 1 0; index = index_in index (some (get_or t 2 0)) }

pub data CalledInSlice (dim : ℕ) : Run → List ℕ → List Export → Run → Type 0 where
  none : (r : Run) (out : List ℕ) → CalledInSlice dim r out [] r
  next : (r : Run) (out : List ℕ) (x : Export) (xs : List Export) (d n : ℕ) (file journal : List ℕ) (index : Option (List ℕ)) (t : List ℕ) (last : Run) →
      Answers d r.session x out n file journal index t → (n ≡ 0 → d ≡ dim) →
      CalledInSlice dim (record { session = in_slice t file journal index; book = noted r.book (call_of x) (not (eqb n 0)) }) t xs last →
      CalledInSlice dim r out (x ∷ xs) last

-- the demand of such calls, where the slice holds the used lengths at first
abbrev pub EveryInSlice : Type 0
EveryInSlice =
    (dim : ℕ) (s : Session) (out : List ℕ) (xs : List Export) (last : Run) → OpenedEmpty dim s → PiecesBytes (calls_of xs) → Holds out s →
    CalledInSlice dim (record { session = s; book = [] }) out xs last → Demand3 dim s last
