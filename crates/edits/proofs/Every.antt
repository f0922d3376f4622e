-- Demand 3, whole: every list of calls on every accepted file, 2D or 3D.
use Prim.Native.Nat.{ℕ}
use Rattle.names.proofs.OneToOne.{pack_stored}
use Rattle.edits.specs.Demand.{EveryRun}
use Rattle.edits.proofs.Hypotheses.{Hypotheses}
use Rattle.edits.proofs.Judging.{judged_tree, tree_judged}
use Rattle.edits.proofs.Sound.{sound}
use Rattle.edits.proofs.Demand.{every_run}

pub hypotheses : (dim : ℕ) → Hypotheses dim
hypotheses dim = record {
  sound = sound dim;
  judged_tree = judged_tree dim;
  tree_judged = tree_judged dim;
  packed_ok = λ text a b e. let s = pack_stored text a b e in (s.ok, s.first, s.second);
}

pub demand_three : EveryRun
demand_three = every_run hypotheses
