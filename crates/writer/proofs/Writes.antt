-- The answer and the buffer, by the number of the fault.
use Prim.Native.Nat.{ℕ}
use mathlib.Core.Path.{◌≡◌, refl}
use mathlib.Core.List.{List}
use borrow.Author.Tests.{ne_eqb}
use Rattle.std.specs.Prelude.{Ok}
use Rattle.refusals.specs.Refusals.{refused_with}
use Rattle.writer.specs.Writing.{laid, WritesBy}

module _ (fault size : ℕ) (ws out : List ℕ) where
  pub writes_refused : (n : ℕ) → n ≡ fault → (n ≡ 0 → ⊥) → WritesBy fault size ws out (refused_with n 0) out
  writes_refused n e h = record { answer = rw (← e, ne_eqb n 0 h) refl; bytes = rw (← e, ne_eqb n 0 h) refl }

  pub writes_made : (n : ℕ) (last : List ℕ) → fault ≡ 0 → n ≡ size → last ≡ laid out 0 ws → WritesBy fault size ws out (Ok n) last
  writes_made n last e s l = record { answer = rw (e, s) refl; bytes = rw e l }
