-- Signed longs whose words stand one after another are read as those numbers.
use Prim.Native.Nat.{ℕ, ◌+◌, ◌/◌, ◌%◌}
use mathlib.Core.Path.{◌≡◌, refl, ap, ◌∙◌}
use mathlib.Core.List.{List, [], ◌∷◌, map}
use native.Mathlib.Omega.{arith}
use lib.ListN.{length}
use lib.IntN.{ℤ}
use Rattle.words.specs.Words.{long_at, signed, unsigned}
use Rattle.words.proofs.Signed.{signed_unsigned}
use Rattle.grammar.proofs.Stands.{Stands, stands_word, stands_first, stands_right}
use Rattle.points_linkages.specs.Coordinates as numbers
use Rattle.fields.specs.Words.{longs}
use Rattle.round_trips.specs.RoundTrip.{Longs}

cons : {x y : ℤ} {xs ys : List ℤ} → x ≡ y → xs ≡ ys → x ∷ xs ≡ y ∷ ys
cons p q = rw (p, q) refl

pub numbers_stand : (zs : List ℤ) (ws : List ℕ) (q : ℕ) → Longs zs → Stands (longs (map unsigned zs)) q ws → numbers.longs (length zs) ws q ≡ zs
numbers_stand [] ws q l s = refl
numbers_stand (z ∷ zs) ws q l s =
    let high = stands_first s (omega arith) in
    let low = stands_word s 1 (omega arith) in
    let first : long_at ws q ≡ unsigned z = omega arith in
    let two = unsigned z / 65536 ∷ unsigned z % 65536 ∷ [] in
    cons (ap signed first ∙ signed_unsigned z l.0) (numbers_stand zs ws (q + 2) l.1 (stands_right two (longs (map unsigned zs)) s))
