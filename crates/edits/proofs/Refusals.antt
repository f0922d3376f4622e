-- A refused call leaves every byte and both lengths as they were: a refusal is found before anything changes.
use Prim.Native.Nat.{ℕ}
use mathlib.Core.Path.{◌≡◌, refl}
use mathlib.Core.Bool.{true, false, false≢true}
use mathlib.Core.List.{List}
use mathlib.Core.Option.{none}
use Rattle.files.specs.Spots.{Spot}
use Rattle.edits.specs.Allowed.{fine, unless, starts_at, rename_fault}
use Rattle.headers.specs.Header.{type_at}
use Rattle.kinds.specs.Kinds.{is_cell}
use Rattle.edits.specs.Calls.{Session, Call, edit_made, undo_made, step}
use Rattle.edits.specs.Book.{was_refused}
use Rattle.edits.proofs.Faults.{or_else_fine, unless_fine}
use Rattle.edits.proofs.Results.{every_result}

pub refusal_keeps : (dim : ℕ) (s : Session) (c : Call) → was_refused (step dim s c).answer ≡ true → (step dim s c).after ≡ s
unfolding edit_made undo_made
refusal_keeps dim s c =
    every_result dim s (λ r. was_refused r.answer ≡ true → r.after ≡ s) (λ n p q. refl) (λ ws r q. absurd (false≢true q)) (λ ws j q. absurd (false≢true q)) c

-- a rename's text that is none is refused
pub not_named : (xs : List Spot) (ws : List ℕ) (p : ℕ) → rename_fault xs ws p false ≡ fine → ⊥
unfolding rename_fault
not_named xs ws p f = false≢true (unless_fine false 12 (or_else_fine (unless (is_cell (type_at ws p)) 18) _ (or_else_fine (unless (starts_at xs p) 13) _ f).1).1)
