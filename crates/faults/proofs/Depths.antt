-- The depth of an element that the descent finds is at most its place: each header that is gone into has two words at
-- least.
use Prim.Native.Nat.{ℕ, zero, suc, ◌+◌, ◌≤◌, ◌<◌}
use mathlib.Core.Path.{◌≡◌, refl, sym, ap, ◌∙◌}
use mathlib.Core.Bool.{Bool, true, false}
use mathlib.Core.List.{List}
use native.Mathlib.Omega.{arith}
use lib.ListN.{length}
use lib.Dec.{eqb, leb, ltb}
use borrow.Author.Tests.{ltb-true, ltb-false, leb-true, leb-false, eqb-true, eqb-false}
use Rattle.headers.specs.Header.{type_at, size_at, extent_words}
use Rattle.kinds.specs.Kinds.{is_header}
use Rattle.places.specs.declared.Above.{Above}
use Rattle.places.specs.declared.Above.TheVariants.{Top, Under}
use Rattle.places.specs.Descent.{locate_from, descent_to, locate_of}
use Rattle.places.proofs.Descent.{locate_over, locate_into, locate_own, locate_here, locate_past}
use Rattle.places.proofs.Places.{locate_before, locate_after, locate_outside}
use Rattle.places.specs.Spotted.{spotted_with}
use Rattle.places.specs.declared.Spotted.{Spotted}
use Rattle.refusals.proofs.Laws.{given_not_refused, given_is}

depth_from : (n : ℕ) (ws : List ℕ) (here depth : ℕ) (above : Above) (p end d : ℕ) (a : Above) → depth ≤ here →
    locate_from n ws here depth above p ≡ spotted_with end d a → d ≤ p
unfolding locate_from
depth_from zero ws here depth above p end d a h e = absurd (given_not_refused e)
depth_from (suc n) ws here depth above p end d a h e =
    go (leb (here + extent_words ws here) p) refl (ltb here p) refl (is_header (type_at ws here)) refl (eqb here p) refl
    (depth_from n ws (here + extent_words ws here) depth above p end d a)
    (depth_from n ws (here + size_at ws here) (depth + 1) (Under here) p end d a)
  where
    go : (b : Bool) → leb (here + extent_words ws here) p ≡ b → (c : Bool) → ltb here p ≡ c → (t : Bool) → is_header (type_at ws here) ≡ t → (q : Bool) → eqb here p ≡ q →
        (depth ≤ here + extent_words ws here → locate_from n ws (here + extent_words ws here) depth above p ≡ spotted_with end d a → d ≤ p) →
        (depth + 1 ≤ here + size_at ws here → locate_from n ws (here + size_at ws here) (depth + 1) (Under here) p ≡ spotted_with end d a → d ≤ p) →
        d ≤ p
    go true b c c' t t' q q' over into = over (omega arith) (sym (locate_over n ws here depth above p (leb-true _ _ b)) ∙ e)
    go false b true c true t q q' over into =
        into (omega arith) (sym (locate_into n ws here depth above p (ltb-true _ _ c) (leb-false _ _ b) t) ∙ e)
    go false b true c false t q q' over into =
        absurd (given_not_refused (sym (locate_own n ws here depth above p (ltb-true _ _ c) (leb-false _ _ b) t) ∙ e))
    go false b false c t t' true q over into =
        let x = eqb-true here p q in
        let s = sym (locate_here n ws here depth above p x) ∙ e in
        let y : depth ≡ d = ap (λ (x : Spotted). x.depth) (given_is s) in
        omega arith
    go false b false c t t' false q over into =
        let x = ltb-false here p c in
        let y = eqb-false here p q in
        absurd (given_not_refused (sym (locate_past n ws here depth above p (omega arith)) ∙ e))

-- what is found is before the marker, and its depth is at most its place
pub locate_depth : (ws : List ℕ) (p marker end d : ℕ) (a : Above) → locate_of ws p marker ≡ spotted_with end d a → (d ≤ p) × (p < marker)
unfolding descent_to
locate_depth ws p marker end d a e = go (ltb p marker) refl (ltb p (length ws)) refl
  where
    go : (b : Bool) → ltb p marker ≡ b → (c : Bool) → ltb p (length ws) ≡ c → (d ≤ p) × (p < marker)
    go true b true c =
        let h = ltb-true _ _ b in
        (depth_from (suc p) ws 0 0 Top p end d a (omega arith) (sym (locate_before ws p marker h (ltb-true _ _ c)) ∙ e), h)
    go true b false c = absurd (given_not_refused (sym (locate_outside ws p marker (ltb-true _ _ b) (ltb-false _ _ c)) ∙ e))
    go false b c c' = absurd (given_not_refused (sym (locate_after ws p marker (ltb-false _ _ b)) ∙ e))
