-- What the contracts of the five calls allow is what their steps say, so demand 3 holds of the calls.
use Prim.Native.Nat.{ℕ}
use mathlib.Core.Path.{◌≡◌, refl, sym, ap, ◌∙◌, subst}
use mathlib.Core.Bool.{true}
use mathlib.Core.List.{List, [], ◌∷◌}
use mathlib.Core.Option.{Option, none}
use Rattle.std.specs.Prelude.{Err, Result}
use Rattle.refusals.specs.declared.Refusal.{Refusal}
use Rattle.edits.specs.Calls.{Index, Session, Call, Outcome, edit_made, undo_made, step}
use Rattle.edits.specs.Book.{Run, noted, noting, ran, was_refused}
use Rattle.edits.proofs.Refusals.{refusal_keeps}
use Rattle.edits.proofs.Every.{demand_three}
use Rattle.edits.proofs.Results.{every_result}
use Rattle.edits.specs.Demand.{PiecesBytes, run_of, Demand3}
use Rattle.edits.specs.declared.UsedLengths.{UsedLengths}
use Rattle.opening.specs.Steps.{SteppedAll}
use Rattle.sessions.specs.Runs as runs
use Rattle.sessions.specs.Runs.{leaves, Called, EveryCall}

---- the session after a step is the one that its answer and its bytes leave

abbrev Left : Session → Outcome → Type 0
Left s q = leaves q.answer s q.after.file q.after.journal q.after.index ≡ q.after

left_step : (dim : ℕ) (s : Session) (c : Call) → Left s (step dim s c)
unfolding edit_made undo_made
left_step dim s c = every_result dim s (Left s) (λ n p. refl) (λ ws r. refl) (λ ws j. refl) c

---- the calls of a list are its steps

step_left : (dim : ℕ) (s : Session) (c : Call) (a : Result UsedLengths Refusal) (file journal : List ℕ) (index : Option Index) → SteppedAll dim s c a file journal index → leaves a s file journal index ≡ (step dim s c).after
step_left dim s c a file journal index t = rw (t.buffers.answer, t.buffers.file_is, t.buffers.journal_is, t.index_is) (left_step dim s c)

-- a refused call with another dimension leaves the session as it was
other_left : (d : ℕ) (s : Session) (c : Call) (refusal : Refusal) (file journal : List ℕ) (index : Option Index) → SteppedAll d s c (Err refusal) file journal index → leaves (Err refusal) s file journal index ≡ s
other_left d s c refusal file journal index t = step_left d s c (Err refusal) file journal index t ∙ refusal_keeps d s c (ap was_refused (sym t.buffers.answer))

after_next : (dim : ℕ) (r : Run) (c : Call) (a : Result UsedLengths Refusal) (file journal : List ℕ) (index : Option Index) → SteppedAll dim r.session c a file journal index →
    ◌≡◌ {A = Run} (record { session = leaves a r.session file journal index; book = noted r.book c (was_refused a) }) (noting r.book c (step dim r.session c))
after_next dim r c a file journal index t = rw (step_left dim r.session c a file journal index t, t.buffers.answer) refl

after_other : (d : ℕ) (r : Run) (c : Call) (refusal : Refusal) (file journal : List ℕ) (index : Option Index) → SteppedAll d r.session c (Err refusal) file journal index →
    ◌≡◌ {A = Run} (record { session = leaves (Err refusal) r.session file journal index; book = noted r.book c true }) r
after_other d r c refusal file journal index t = rw (other_left d r.session c refusal file journal index t) refl

-- what a list comes to is what those of its calls come to that have the session's dimension
record Ran (dim : ℕ) (r last : Run) (cs : List Call) : Type 0 where
  pub calls : List Call
  pub pieces : PiecesBytes cs → PiecesBytes calls
  pub is : last ≡ ran dim r calls

ran_next : (dim : ℕ) (q r last : Run) (c : Call) (cs : List Call) → q ≡ noting r.book c (step dim r.session c) → Ran dim q last cs → Ran dim r last (c ∷ cs)
ran_next dim q r last c cs e x =
    record { calls = c ∷ x.calls; pieces = λ p. (p.0, x.pieces p.1); is = x.is ∙ ap (λ a. ran dim a x.calls) e }

ran_other : (dim : ℕ) (q r last : Run) (c : Call) (cs : List Call) → q ≡ r → Ran dim q last cs → Ran dim r last (c ∷ cs)
ran_other dim q r last c cs e x =
    record { calls = x.calls; pieces = λ p. x.pieces p.1; is = x.is ∙ ap (λ a. ran dim a x.calls) e }

called_ran : (dim : ℕ) (r last : Run) (cs : List Call) → Called dim r cs last → Ran dim r last cs
called_ran dim r last [] (runs.none _) = record { calls = []; pieces = λ p. p; is = refl }
called_ran dim r last (c ∷ cs) (runs.next _ _ _ a file journal index _ t rest) =
    ran_next dim _ r last c cs (after_next dim r c a file journal index t) (called_ran dim (record { session = leaves a r.session file journal index; book = noted r.book c (was_refused a) }) last cs rest)
called_ran dim r last (c ∷ cs) (runs.other _ d _ _ refusal file journal index _ t rest) =
    ran_other dim _ r last c cs (after_other d r c refusal file journal index t) (called_ran dim (record { session = leaves (Err refusal) r.session file journal index; book = noted r.book c true }) last cs rest)

-- so what holds of every run of steps holds of the calls
pub called_run : (P : Run → Type 0) (dim : ℕ) (s : Session) → ((cs : List Call) → PiecesBytes cs → P (run_of dim s cs)) → (cs : List Call) (last : Run) → PiecesBytes cs →
    Called dim (record { session = s; book = [] }) cs last → P last
called_run P dim s every cs last pieces called =
    let x = called_ran dim (record { session = s; book = [] }) last cs called in
    subst P (sym x.is) (every x.calls (x.pieces pieces))

pub every_call : EveryCall
every_call dim s cs last opened pieces called = called_run (Demand3 dim s) dim s (λ cs p. demand_three dim s cs opened p) cs last pieces called
