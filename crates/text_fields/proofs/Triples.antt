-- Triples of bytes one after another: the first three of them, and the rest.
use Prim.Native.Nat.{ℕ, suc, ◌-◌, ◌≤◌, ◌<◌}
use mathlib.Core.Path.{◌≡◌, refl, sym, ap}
use mathlib.Core.Bool.{true, ◌&&◌}
use mathlib.Core.List.{List, [], ◌∷◌}
use native.Mathlib.Omega.{arith}
use lib.ListN.{length, get_or, take, drop}
use lib.Seq.{take_all}
use Rattle.texts.specs.Texts.{field_ok}
use Rattle.text_fields.specs.Faults.{triples_ok}

pub triple_first : (c : ℕ) (l : List ℕ) → 3 ≤ length l →
    triples_ok c l ≡ (field_ok c (get_or l 0 0) (get_or l 1 0) (get_or l 2 0) && triples_ok c (take (length l - 3) (drop 3 l)))
triple_first c [] h = absurd (omega arith)
triple_first c (x ∷ []) h = absurd (omega arith)
triple_first c (x ∷ y ∷ []) h = absurd (omega arith)
triple_first c (x ∷ y ∷ z ∷ l) h = ap (λ r. field_ok c x y z && triples_ok c r) (sym (take_all (length (x ∷ y ∷ z ∷ l) - 3) l (omega arith)))

pub short_right : (c : ℕ) (l : List ℕ) → length l < 3 → triples_ok c l ≡ true
short_right c [] h = refl
short_right c (x ∷ []) h = refl
short_right c (x ∷ y ∷ []) h = refl
short_right c (x ∷ y ∷ z ∷ l) h = absurd (omega arith)
