-- The invariant `Exchanges`: what is read and put from `here` on, behind the bits so far, is all of it.
use Prim.Native.Nat.{◌-◌}
use Rattle.flags.proofs.Turns.{Exchanges}
use Rattle.flags.proofs.exchange.Given as goal

abbrev pub invariant-loop : goal.invariant-loop
invariant-loop l = Exchanges l.initial.used l.at l.end l.new l.used l.here l.rest l.bits l.weight (16 - l.counter)
