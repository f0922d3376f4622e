-- An element that the list of a tree's elements has at a place passes the tests of one element there: its own words stand there
-- and are of the grammar.
use Prim.Native.Nat.{ℕ, suc, ◌+◌, ◌≤◌}
use mathlib.Core.Path.{◌≡◌, refl, sym, ◌∙◌, subst}
use mathlib.Core.Bool.{Bool, true, false}
use mathlib.Core.List.{List}
use mathlib.Core.Option.{Option, none, some}
use native.Mathlib.Omega.{arith}
use lib.ListN.{length}
use lib.Dec.{eqb}
use borrow.Author.Tests.{eqb-true, eqb-false}
use Rattle.headers.specs.Header.{type_at}
use Rattle.elements.proofs.Laws.{Checked}
use Rattle.files.specs.Spots.{Spot, spot_in}
use Rattle.grammar.proofs.Stands.{Stands}
use Rattle.grammar.proofs.Forest.{Forest, nil, node, flat, weight, Wf, spots, length_node, own_stands, components_stand, rest_stand}
use Rattle.grammar.proofs.Places.{none_some, spot_there, spot_else}
use Rattle.grammar.proofs.Rules.{own_checked}

-- the tests of an element pass at a place of words, with their end as its bound
pub record Ruled (dim : ℕ) (ws : List ℕ) (at : ℕ) : Type 0 where
  pub depth : ℕ
  pub under : ℕ
  pub checked : Checked dim depth under ws at (length ws)

module _ (dim : ℕ) (ws : List ℕ) where
  pub spot_ruled : (depth under : ℕ) (header : Option ℕ) (at : ℕ) (f : Forest) (p : ℕ) (x : Spot) → Wf dim depth under f → Stands (flat f) at ws →
      at + length (flat f) ≤ length ws → spot_in (spots depth header at f) p ≡ some x → Ruled dim ws p
  spot_ruled depth under header at nil p x w s l e = absurd (none_some e)
  spot_ruled depth under header at (node own k r) p x w s l e =
      let n = length_node own k r in
      go (eqb at p) refl (spot_in (spots (suc depth) (some at) (at + length own) k) p) refl
      (λ y. spot_ruled (suc depth) (type_at own 0) (some at) (at + length own) k p y w.1 (components_stand own k r s) (omega arith))
      (spot_ruled depth under header (at + weight own k) r p x w.2 (rest_stand own k r s) (omega arith))
      (record { depth = depth; under = under; checked = own_checked w.0 (own_stands own k r s) (length ws) (omega arith) })
    where
      go : (b : Bool) → eqb at p ≡ b → (o : Option Spot) → spot_in (spots (suc depth) (some at) (at + length own) k) p ≡ o →
          ((y : Spot) → spot_in (spots (suc depth) (some at) (at + length own) k) p ≡ some y → Ruled dim ws p) →
          (spot_in (spots depth header (at + weight own k) r) p ≡ some x → Ruled dim ws p) → Ruled dim ws at → Ruled dim ws p
      go true q o d i j here = subst (Ruled dim ws) (eqb-true at p q) here
      go false q (some y) d i j here = i y d
      go false q none d i j here = j
          (sym (spot_there depth header at own k r p (eqb-false at p q)
          ∙ spot_else (spots (suc depth) (some at) (at + length own) k) (spots depth header (at + weight own k) r) p d) ∙ e)
