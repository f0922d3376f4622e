-- All fields are right where those from number k on are; one field is judged at each turn (`first_field`).
use Prim.Native.Nat.{◌+◌, ◌-◌, ◌*◌, ◌/◌, ◌≤◌}
use mathlib.Core.Bool.{true}
use mathlib.Core.Path.{◌≡◌}
use lib.ListN.{length}
use Rattle.words.specs.Words.{words}
use Rattle.texts.specs.Texts.{each_field_ok}
use Rattle.texts.proofs.each_field_ok.Given as goal

abbrev pub invariant-loop-k : goal.invariant-loop-k
invariant-loop-k l = record {
  rest : each_field_ok l.n l.c (words l.s) 0 l.j ≡ each_field_ok (l.n - l.k) l.c (words l.s) 0 (l.j + 3 * l.k);
  there : l.known ≡ true → l.j + 3 * l.n ≤ length l.s / 2 * 2;
}
