-- Demand 3 of the calls themselves: a list of calls on two lent buffers, each lent what the last one left.
use Rattle.std.specs.Prelude.{ℕ, true, List, [], ◌∷◌, Err, Ok, Result}
use Rattle.std.proofs.Math.Option.{Option}
use Rattle.refusals.specs.declared.Refusal.{Refusal}
use Rattle.edits.specs.Calls.{Index, Session, Call}
use Rattle.edits.specs.Book.{Run, noted, was_refused}
use Rattle.edits.specs.Demand.{OpenedEmpty, PiecesBytes, Demand3}
use Rattle.edits.specs.declared.UsedLengths.{UsedLengths}
use Rattle.opening.specs.Steps.{SteppedAll}

-- the session that a call leaves: the buffers and the index as they then are, and the answer's used lengths; where it is
-- refused, the used lengths as they were
abbrev pub leaves : Result UsedLengths Refusal → Session → List ℕ → List ℕ → Option Index → Session
leaves (Ok lengths) s file journal index = record { file = file; used = lengths.used; journal = journal; jused = lengths.jused; index = index }
leaves (Err refusal) s file journal index = record { file = file; used = s.used; journal = journal; jused = s.jused; index = index }

-- the calls of a list made one after another, with any answers and bytes that their contracts allow; the book is fed the
-- calls and whether each was refused. A call with another dimension than the session's may stand among them where it is
-- refused
pub data Called (dim : ℕ) : Run → List Call → Run → Type 0 where
  none : (r : Run) → Called dim r [] r
  next : (r : Run) (c : Call) (cs : List Call) (answer : Result UsedLengths Refusal) (file journal : List ℕ) (index : Option Index) (last : Run) →
      SteppedAll dim r.session c answer file journal index →
      Called dim (record { session = leaves answer r.session file journal index; book = noted r.book c (was_refused answer) }) cs last →
      Called dim r (c ∷ cs) last
  other : (r : Run) (d : ℕ) (c : Call) (cs : List Call) (refusal : Refusal) (file journal : List ℕ) (index : Option Index) (last : Run) →
      SteppedAll d r.session c (Err refusal) file journal index →
      Called dim (record { session = leaves (Err refusal) r.session file journal index; book = noted r.book c true }) cs last →
      Called dim r (c ∷ cs) last

-- the demand, of every dimension, session and list of calls
abbrev pub EveryCall : Type 0
EveryCall =
    (dim : ℕ) (s : Session) (cs : List Call) (last : Run) → OpenedEmpty dim s → PiecesBytes cs →
    Called dim (record { session = s; book = [] }) cs last → Demand3 dim s last
