-- The search among a tree's elements: it passes those before the place that a way leads to, and stops at the header that
-- the way goes into, or at the element where it ends.
use Prim.Native.Nat.{ℕ, suc, ◌+◌}
use native.Mathlib.Omega.{arith}
use mathlib.Core.Path.{◌≡◌, ap, ◌∙◌}
use mathlib.Core.List.{List}
use lib.ListN.{length, length-append}
use Rattle.headers.specs.Header.{type_at}
use Rattle.grammar.proofs.Tests.{OwnTests}
use Rattle.grammar.proofs.Forest.{Forest, node, flat, num, weight, Wf, own_stands}
use Rattle.grammar.proofs.Stands.{Stands}
use Rattle.grammar.proofs.Rules.{own_two, own_size}
use Rattle.edits.proofs.Ways.{Way, past, into, plug, front}
use Rattle.edits.proofs.Places.{inside}
use Rattle.headers.proofs.Laws.{words_two}
use Rattle.places.proofs.Descent.{extent_weight}
use Rattle.totals.specs.Totals.{holder_of}
use Rattle.totals.specs.declared.Holder.TheVariants.{Itself, Inside}
use Rattle.totals.proofs.Holders.{at_itself, at_inside, holder_past, holder_here}

-- an element starts there
pub reach_itself : (ws : List ℕ) (at p : ℕ) → at ≡ p → holder_of ws at p ≡ Itself
reach_itself ws at p e = let two = words_two ws at in holder_here ws at p (omega arith) ∙ at_itself ws at p e

module _ {dim depth under : ℕ} (ws own : List ℕ) (at p : ℕ) where
  -- the way goes past an element
  pub reach_past : (k f : Forest) (w : Way) → OwnTests dim depth under own (length (flat k)) (num k) → Stands (flat (plug (past own k w) f)) at ws →
      p ≡ at + length (front (past own k w)) → holder_of ws at p ≡ holder_of ws (at + weight own k) p
  reach_past k f w o t e =
      let x = extent_weight _ _ _ _ _ _ _ _ o (own_stands own k (plug w f) t) in
      let l : length (front (past own k w)) ≡ weight own k + length (front w) = simp length-append (omega arith) in
      holder_past ws at p (omega arith) ∙ ap (λ m. holder_of ws (at + m) p) x

  -- it goes into a header
  module _ (r : Forest) (w : Way) (own₀ : List ℕ) (k₀ f : Forest) where
    pub reach_inside : Wf dim depth under (plug (into own r w) (node own₀ k₀ f)) → Stands (flat (plug (into own r w) (node own₀ k₀ f))) at ws →
        p ≡ at + length (front (into own r w)) → holder_of ws at p ≡ Inside at (at + length own)
    reach_inside x t e =
        let s = own_stands own (plug w (node own₀ k₀ f)) r t in
        let y = extent_weight _ _ _ _ _ _ _ _ x.0 s in
        let z = own_size x.0 s in
        let two = own_two x.0 in
        let l : length (front (into own r w)) ≡ length own + length (front w) = length-append own (front w) in
        let i = inside dim own₀ k₀ f (suc depth) (type_at own 0) w x.1 in
        holder_here ws at p (omega arith) ∙ at_inside ws at p (omega arith) (omega arith) ∙ ap (λ m. Inside at (at + m)) z
