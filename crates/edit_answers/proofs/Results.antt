-- A lent index stays lent, and none stays none.
use Prim.Native.Nat.{ℕ}
use mathlib.Core.Path.{◌≡◌, refl, ap, ◌∙◌}
use mathlib.Core.List.{List}
use mathlib.Core.Option.{Option, none, some}
use native.Mathlib.Omega.{arith}
use Rattle.edits.specs.Calls.{Index, Session, size_of, afresh, Call, edit_made, undo_made, step}
use Rattle.edits.proofs.Results.{every_result}
use Rattle.edit_answers.specs.Editing.{lengths_of}

fresh : (dim : ℕ) (ws : List ℕ) (x : Option Index) → lengths_of (afresh dim ws (size_of x)) ≡ lengths_of x
fresh dim ws none = refl
fresh dim ws (some i) = refl

pub as_many : (dim : ℕ) (s : Session) (c : Call) → lengths_of (step dim s c).after.index ≡ lengths_of s.index
unfolding edit_made undo_made
as_many dim s c =
    every_result dim s (λ q. lengths_of q.after.index ≡ lengths_of s.index) (λ n p. refl) (λ ws r. fresh dim ws s.index) (λ ws j. fresh dim ws s.index) c

pub bare_step : (dim : ℕ) (s : Session) (c : Call) → s.index ≡ none → none ≡ (step dim s c).after.index
bare_step dim s c i = go (step dim s c).after.index (as_many dim s c ∙ ap lengths_of i)
  where
    go : (x : Option Index) → lengths_of x ≡ 2 → none ≡ x
    go none e = refl
    go (some i) e = absurd (omega arith)
