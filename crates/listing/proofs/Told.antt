-- A text's line is one line, since every part of it prints; and it tells the text, since a number ends at the first space, a state has
-- four letters, and the characters can be read back.
use Prim.Native.Nat.{ℕ, suc, ◌+◌, ◌/◌, ◌%◌, ◌≤◌, ◌<◌, ◌^◌}
use mathlib.Core.Path.{◌≡◌, refl, sym, ap, ◌∙◌}
use mathlib.Core.Bool.{Bool, true, false, cond}
use mathlib.Core.List.{List, [], ◌∷◌, ◌++◌, append_assoc, append_cancel_right}
use native.Mathlib.Omega.{arith}
use lib.Dec.{eqb, ltb}
use lib.ListN.{get_or, drop}
use borrow.Author.Tests.{eqb-true, eqb-false, ltb-true, ltb-false, le-leb}
use Rattle.words.specs.Words.{Below}
use Rattle.listing.specs.Lines.{decimal, field, state, last_field}
use Rattle.listing.specs.Texts.{hexadecimal, prints, escape, escaped, text_line}
use Rattle.listing.specs.Told.{AllPrint, TextOneLine, TextTold}
use Rattle.listing.proofs.Decimal.{Digits, decimal_digits, same_decimal}
use Rattle.listing.proofs.Escapes.{escape_backslash, escape_printed, escape_other}
use Rattle.listing.proofs.OneToOne.{one_to_one}

---- every part prints

print_between : (c : ℕ) → 32 ≤ c → c ≤ 126 → prints c ≡ true
print_between c h l = rw (le-leb 32 c h, le-leb c 126 l) refl

print_then : (x y : List ℕ) → AllPrint x → AllPrint y → AllPrint (x ++ y)
print_then [] y p q = q
print_then (c ∷ x) y p q = (p.0, print_then x y p.1 q)

print_digits : (l : List ℕ) → Digits l → AllPrint l
print_digits [] d = tt
print_digits (c ∷ l) d = (print_between c (omega arith) (omega arith), print_digits l d.1)

print_field : (n : ℕ) → AllPrint (field n)
print_field n = print_then (decimal n) (32 ∷ []) (print_digits (decimal n) (decimal_digits n)) (refl, tt)

print_state : (t : Bool) → AllPrint (state t)
print_state true = (refl, (refl, (refl, (refl, tt))))
print_state false = (refl, (refl, (refl, (refl, tt))))

print_hexadecimal : (d : ℕ) → d < 16 → prints (hexadecimal d) ≡ true
print_hexadecimal d h = go (ltb d 10) refl
  where
    go : (t : Bool) → ltb d 10 ≡ t → prints (cond t (48 + d) (87 + d)) ≡ true
    go true e = let l = ltb-true d 10 e in print_between (48 + d) (omega arith) (omega arith)
    go false e = let l = ltb-false d 10 e in print_between (87 + d) (omega arith) (omega arith)

print_escape : (c : ℕ) → c < 256 → AllPrint (escape c)
print_escape c h = go (eqb c 92) (prints c) refl refl
  where
    go : (a b : Bool) → eqb c 92 ≡ a → prints c ≡ b → AllPrint (escape c)
    go true b e f = rw (escape_backslash c (eqb-true c 92 e)) (refl, (refl, tt))
    go false true e f = rw (escape_printed c (eqb-false c 92 e) f) (f, tt)
    go false false e f =
        rw (escape_other c (eqb-false c 92 e) f) (refl, (refl, (print_hexadecimal (c / 16) (omega arith), (print_hexadecimal (c % 16) (omega arith), tt))))

print_escaped : (l : List ℕ) → Below 256 l → AllPrint (escaped l)
print_escaped [] b = tt
print_escaped (c ∷ l) b = print_then (escape c) (escaped l) (print_escape c (b 0)) (print_escaped l (λ i. b (suc i)))

print_last : (l : List ℕ) → AllPrint l → AllPrint (last_field l)
print_last [] p = tt
print_last (c ∷ l) p = (refl, p)

pub text_one_line : TextOneLine
unfolding text_line
text_one_line p d t l b =
    let last = last_field (escaped l) in
    record {
      front = field p ++ (field d ++ (state t ++ last));
      ends = simp append_assoc;
      printed = print_then (field p) (field d ++ (state t ++ last)) (print_field p)
          (print_then (field d) (state t ++ last) (print_field d)
          (print_then (state t) last (print_state t) (print_last (escaped l) (print_escaped l b))));
    }

---- and tells what it has

-- digits end at the first space
split_space : (x y r s : List ℕ) → Digits x → Digits y → x ++ (32 ∷ r) ≡ y ++ (32 ∷ s) → (x ≡ y) × (r ≡ s)
split_space [] [] r s p q e = (refl, ap (drop 1) e)
split_space [] (c ∷ y) r s p q e = let z = ap (λ l. get_or l 0 0) e in absurd (omega arith)
split_space (c ∷ x) [] r s p q e = let z = ap (λ l. get_or l 0 0) e in absurd (omega arith)
split_space (c ∷ x) (d ∷ y) r s p q e =
    let i = split_space x y r s p.1 q.1 (ap (drop 1) e) in
    let z = ap (λ l. get_or l 0 0) e in
    (rw (i.0, z) refl, i.1)

same_field : (n m : ℕ) (r s : List ℕ) → n < 2 ^ 64 → m < 2 ^ 64 → field n ++ r ≡ field m ++ s → (n ≡ m) × (r ≡ s)
same_field n m r s h l e =
    let i = split_space (decimal n) (decimal m) r s (decimal_digits n) (decimal_digits m)
    (sym (append_assoc (decimal n) (32 ∷ []) r) ∙ e ∙ append_assoc (decimal m) (32 ∷ []) s) in
    (same_decimal n m h l i.0, i.1)

same_state : (t u : Bool) (r s : List ℕ) → state t ++ r ≡ state u ++ s → (t ≡ u) × (r ≡ s)
same_state true true r s e = (refl, ap (drop 4) e)
same_state true false r s e = let z = ap (λ l. get_or l 0 0) e in absurd (omega arith)
same_state false true r s e = let z = ap (λ l. get_or l 0 0) e in absurd (omega arith)
same_state false false r s e = (refl, ap (drop 4) e)

pub text_told : TextTold
unfolding text_line
text_told p q d e t u a b hp hq hd he ba bb same =
    let x = same_field p q _ _ hp hq same in
    let y = same_field d e _ _ hd he x.1 in
    let z = same_state t u _ _ y.1 in
    record {
      place = x.0;
      depth = y.0;
      deleted = z.0;
      characters = one_to_one a b ba bb (append_cancel_right (last_field (escaped a)) (last_field (escaped b)) (10 ∷ []) z.1);
    }
