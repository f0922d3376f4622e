-- Escaped characters: each is put in one of three ways, as one to four bytes, and those of a longer part come behind those of
-- a shorter one.
use Prim.Native.Nat.{ℕ, suc, ◌+◌, ◌*◌, ◌/◌, ◌%◌, ◌≤◌, ◌<◌}
use mathlib.Core.Path.{◌≡◌, refl, ap, ◌∙◌}
use mathlib.Core.Bool.{Bool, true, false, cond}
use mathlib.Core.List.{List, [], ◌∷◌, ◌++◌, append_assoc, append-nil}
use native.Mathlib.Omega.{arith}
use lib.Dec.{eqb}
use lib.ListN.{length, get_or, take, length-append}
use lib.Seq.{take-suc}
use borrow.Author.Tests.{eq-eqb, ne_eqb}
use Rattle.listing.specs.Texts.{hexadecimal, prints, escape, escaped}
use Rattle.listing.specs.Lines.{last_field}
use Rattle.listing.specs.Puts.{Puts}
use Rattle.listing.proofs.Laws.{PutsBy, puts_then, no_field, some_field}

---- one character

pub escape_backslash : (c : ℕ) → c ≡ 92 → escape c ≡ 92 ∷ 92 ∷ []
unfolding escape
escape_backslash c e = rw (eq-eqb c 92 e) refl

pub escape_printed : (c : ℕ) → (c ≡ 92 → ⊥) → prints c ≡ true → escape c ≡ c ∷ []
unfolding escape
escape_printed c n e = rw (ne_eqb c 92 n, e) refl

pub escape_other : (c : ℕ) → (c ≡ 92 → ⊥) → prints c ≡ false → escape c ≡ 92 ∷ 120 ∷ hexadecimal (c / 16) ∷ hexadecimal (c % 16) ∷ []
unfolding escape
escape_other c n e = rw (ne_eqb c 92 n, e) refl

-- one to four bytes
length_escape : (c : ℕ) → (1 ≤ length (escape c)) × (length (escape c) ≤ 4)
unfolding escape
length_escape c = go (eqb c 92) (prints c)
  where
    way : Bool → Bool → List ℕ
    way a b = cond a (92 ∷ 92 ∷ []) (cond b (c ∷ []) (92 ∷ 120 ∷ hexadecimal (c / 16) ∷ hexadecimal (c % 16) ∷ []))

    go : (a b : Bool) → (1 ≤ length (way a b)) × (length (way a b) ≤ 4)
    go true b = (omega arith, omega arith)
    go false true = (omega arith, omega arith)
    go false false = (omega arith, omega arith)

-- a byte that does not print: its two digits behind a backslash and x
pub other_put : {s t u v : List ℕ} {at m n r c d e : ℕ} → (c ≡ 92 → ⊥) → prints c ≡ false → d ≡ hexadecimal (c / 16) → e ≡ hexadecimal (c % 16) →
    Puts s at (92 ∷ 120 ∷ []) t m → Puts t m (d ∷ []) u n → Puts u n (e ∷ []) v r → Puts s at (escape c) v r
other_put {c = c} h f i j p q w = rw (escape_other c h f, ← i, ← j) (puts_then p (puts_then q w))

---- all characters of a text

escaped_append : (xs ys : List ℕ) → escaped (xs ++ ys) ≡ escaped xs ++ escaped ys
escaped_append [] ys = refl
escaped_append (x ∷ xs) ys = rw (escaped_append xs ys, append_assoc) refl

-- one more
pub escaped_more : (l : List ℕ) (k : ℕ) → k < length l → escaped (take (suc k) l) ≡ escaped (take k l) ++ escape (get_or l k 0)
escaped_more l k h =
    ap escaped (take-suc l k 0 h) ∙ escaped_append (take k l) (get_or l k 0 ∷ []) ∙ ap (λ x. escaped (take k l) ++ x) (append-nil (escape (get_or l k 0)))

pub length_escaped : (l : List ℕ) → (length l ≤ length (escaped l)) × (length (escaped l) ≤ 4 * length l)
length_escaped [] = (omega arith, omega arith)
length_escaped (c ∷ l) =
    let h = length_escape c in
    let i = length_escaped l in
    rw length-append (omega arith, omega arith)

-- none, and some after a space
pub no_text : (s l : List ℕ) (at : ℕ) → length l ≡ 0 → PutsBy s at (last_field (escaped l)) s at (at + 1 + 4 * length l)
no_text s [] at e = record { puts = no_field s at; upper_bound = omega arith }
no_text s (c ∷ l) at e = absurd (omega arith)

pub some_text : {s t u : List ℕ} {at m r : ℕ} (l : List ℕ) → (length l ≡ 0 → ⊥) → Puts s at (32 ∷ []) t m → Puts t m (escaped l) u r →
    PutsBy s at (last_field (escaped l)) u r (at + 1 + 4 * length l)
some_text l h p q =
    let n = length_escaped l in
    record { puts = some_field (λ z. h (omega arith)) p q; upper_bound = omega arith }
