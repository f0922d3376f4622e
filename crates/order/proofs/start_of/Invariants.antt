-- The loop's invariant: it is at the place of element number `counter`.
use mathlib.Core.Path.{◌≡◌}
use Rattle.words.specs.Words.{words}
use Rattle.order.specs.Order.{place_of}
use Rattle.order.proofs.start_of.Given as goal

abbrev pub invariant-loop : goal.invariant-loop
invariant-loop l = l.at ≡ place_of (words l.file) l.counter
