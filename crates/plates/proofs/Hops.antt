-- Going over elements by their extents: one step and the end; over elements that stand one behind another they are those elements.
use Prim.Native.Nat.{ℕ, zero, suc, ◌+◌, ◌-◌, ◌≤◌, ◌<◌}
use mathlib.Core.Path.{◌≡◌, refl, ap, ◌∙◌}
use mathlib.Core.Bool.{Bool, true, false, cond}
use mathlib.Core.List.{List, [], ◌∷◌}
use native.Mathlib.Omega.{arith}
use lib.Dec.{ltb}
use borrow.Author.Tests.{lt-ltb, le-ltb, ltb-true}
use Rattle.headers.specs.Header.{extent_words}
use Rattle.promises.specs.Components.{Behind}
use Rattle.promises.proofs.Promises.{extent_two}
use Rattle.plates.specs.Hops.{hops_from, hops}

module _ (ws : List ℕ) (end : ℕ) where
  -- the number does not matter, where it is enough
  hops_same : (n m here : ℕ) → end - here < n → end - here < m → hops_from n ws here end ≡ hops_from m ws here end
  unfolding hops_from
  hops_same zero m here h l = absurd (omega arith)
  hops_same (suc n) zero here h l = absurd (omega arith)
  hops_same (suc n) (suc m) here h l =
      let t = extent_two ws here in
      go (ltb here end) refl (λ i. hops_same n m (here + extent_words ws here) (omega arith) (omega arith))
    where
      go : (b : Bool) → ltb here end ≡ b → (here < end → hops_from n ws (here + extent_words ws here) end ≡ hops_from m ws (here + extent_words ws here) end) →
          cond b (here ∷ hops_from n ws (here + extent_words ws here) end) [] ≡ cond b (here ∷ hops_from m ws (here + extent_words ws here) end) []
      go false e r = refl
      go true e r = ap (λ qs. here ∷ qs) (r (ltb-true here end e))

  pub hop_more : (here : ℕ) → here < end → hops ws here end ≡ here ∷ hops ws (here + extent_words ws here) end
  unfolding hops hops_from
  hop_more here h =
      let t = extent_two ws here in
      rw (lt-ltb here end h) (ap (λ qs. here ∷ qs) (hops_same (end - here) (suc (end - (here + extent_words ws here))) (here + extent_words ws here) (omega arith) (omega arith)))

  pub hop_none : (here : ℕ) → end ≤ here → hops ws here end ≡ []
  unfolding hops hops_from
  hop_none here h = rw (le-ltb here end h) refl

  ---- elements one behind another

  pub behind_by : (here : ℕ) (qs : List ℕ) → Behind ws here qs end → here ≤ end
  behind_by here [] b = omega arith
  behind_by here (q ∷ qs) b = let r = behind_by (here + extent_words ws here) qs b.1 in omega arith

  pub behind_hops : (here : ℕ) (qs : List ℕ) → Behind ws here qs end → hops ws here end ≡ qs
  behind_hops here [] b = hop_none here (omega arith)
  behind_hops here (q ∷ qs) b =
      let t = extent_two ws here in
      let r = behind_by (here + extent_words ws here) qs b.1 in
      hop_more here (omega arith) ∙ rw (behind_hops (here + extent_words ws here) qs b.1, b.0) refl
