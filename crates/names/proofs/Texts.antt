-- Lists of letters and of codes: a text, its codes with spaces up to six, and back without the spaces at their end.
use Prim.Native.Nat.{ℕ, zero, suc, ◌+◌, ◌-◌, ◌<◌, ◌≤◌}
use mathlib.Core.Path.{◌≡◌, refl, sym, ap, ◌∙◌}
use mathlib.Core.Bool.{Bool, true, false, cond, not, and-eq-true_iff}
use mathlib.Core.List.{List, [], ◌∷◌, ◌++◌, map}
use native.Mathlib.Omega.{arith}
use native.Mathlib.Nat.{not-suc-le-zero, le_of_suc-le-suc}
use lib.ListN.{length, get_or, replicate, length-map, get_or-eq_default}
use lib.Dec.{ltb, eqb}
use borrow.Author.Tests.{ltb-true, ltb-false, eqb-true, eqb-false, ne_eqb, not-true}
use Rattle.names.specs.declared.Codes.{Codes}
use Rattle.names.specs.Names.{code_of, letter_of, all_letters, ends_in_space, code_at, before, kept, text_in, text_answer}
use Rattle.names.proofs.Alphabet.{code_small, letter_code, code_letter, code_space, letter_space}

-- what is mapped stands where it stood
pub get_d_mapped : (f : ℕ → ℕ) (l : List ℕ) (i : ℕ) → i < length l → get_or (map f l) i 0 ≡ f (get_or l i 0)
get_d_mapped f [] i h = absurd (not-suc-le-zero h)
get_d_mapped f (x ∷ l) zero h = refl
get_d_mapped f (x ∷ l) (suc i) h = get_d_mapped f l i (le_of_suc-le-suc h)

-- six elements of a list of at most six, with zeros past its end
six : (l : List ℕ) → length l ≤ 6 →
    get_or l 0 0 ∷ get_or l 1 0 ∷ get_or l 2 0 ∷ get_or l 3 0 ∷ get_or l 4 0 ∷ get_or l 5 0 ∷ [] ≡ l ++ replicate (6 - length l) 0
six [] h = refl
six (a ∷ []) h = refl
six (a ∷ b ∷ []) h = refl
six (a ∷ b ∷ c ∷ []) h = refl
six (a ∷ b ∷ c ∷ d ∷ []) h = refl
six (a ∷ b ∷ c ∷ d ∷ e ∷ []) h = refl
six (a ∷ b ∷ c ∷ d ∷ e ∷ f ∷ []) h = refl
six (a ∷ b ∷ c ∷ d ∷ e ∷ f ∷ g ∷ l) h = absurd (omega arith)

-- a code below 40 that is not 29, and a list of such
abbrev pub IsCode : ℕ → Type 0
IsCode c = (c < 40) × (c ≡ 29 → ⊥)

abbrev pub AreCodes : List ℕ → Type 0
AreCodes [] = Unit
AreCodes (c ∷ l) = IsCode c × AreCodes l

-- what stands at a place of codes stands there without the spaces at their end
get_d_before : (c : ℕ) (l : List ℕ) (i : ℕ) → get_or (before c l) i 0 ≡ get_or (c ∷ l) i 0
get_d_before c (d ∷ l) i = refl
get_d_before c [] i = go (eqb c 0) refl i
  where
    go : (t : Bool) → eqb c 0 ≡ t → (i : ℕ) → get_or (cond t [] (c ∷ [])) i 0 ≡ get_or (c ∷ []) i 0
    go true e zero = sym (eqb-true _ _ e)
    go true e (suc i) = refl
    go false e i = refl

get_d_kept : (l : List ℕ) (i : ℕ) → get_or (kept l) i 0 ≡ get_or l i 0
get_d_kept [] i = refl
get_d_kept (c ∷ l) zero = get_d_before c (kept l) zero
get_d_kept (c ∷ l) (suc i) = get_d_before c (kept l) (suc i) ∙ get_d_kept l i

length_before : (c : ℕ) (l : List ℕ) → length (before c l) ≤ suc (length l)
length_before c (d ∷ l) = omega arith
length_before c [] = go (eqb c 0)
  where
    go : (t : Bool) → length (cond t [] (c ∷ [])) ≤ 1
    go true = omega arith
    go false = omega arith

pub length_kept : (l : List ℕ) → length (kept l) ≤ length l
length_kept [] = omega arith
length_kept (c ∷ l) = omega (arith, length_before c (kept l), length_kept l)

kept_spaces : (n : ℕ) → kept (replicate n 0) ≡ []
kept_spaces zero = refl
kept_spaces (suc n) = ap (before 0) (kept_spaces n)

-- spaces at the end are dropped
kept_padded : (l : List ℕ) (n : ℕ) → kept (l ++ replicate n 0) ≡ kept l
kept_padded [] n = kept_spaces n
kept_padded (c ∷ l) n = ap (before c) (kept_padded l n)

ends_cons : (b c : ℕ) (t : List ℕ) → ends_in_space (b ∷ c ∷ t) ≡ ends_in_space (c ∷ t)
ends_cons b c t =
    let n = length t in
    let e : suc (suc n) - 1 ≡ suc n = omega arith in
    let d : n ≡ suc n - 1 = omega arith in
    ap (λ k. eqb (get_or (b ∷ c ∷ t) k 0) 32) e ∙ ap (λ k. eqb (get_or (c ∷ t) k 0) 32) d

-- the first byte of a text of letters is a letter, and the rest are letters
module _ (b : ℕ) (t : List ℕ) (a : all_letters (b ∷ t) ≡ true) where
  first_letter : code_of b ≡ 29 → ⊥
  first_letter = eqb-false _ _ (not-true _ ((and-eq-true_iff _ (all_letters t)).0 a).0)

  rest_letters : all_letters t ≡ true
  rest_letters = ((and-eq-true_iff (not (eqb (code_of b) 29)) _).0 a).1

-- the codes of a text that ends in no space
pub kept_codes : (t : List ℕ) → all_letters t ≡ true → ends_in_space t ≡ false → kept (map code_of t) ≡ map code_of t
kept_codes [] a e = refl
kept_codes (b ∷ []) a e =
    ap (λ t. cond t [] (code_of b ∷ []))
    (ne_eqb _ _ (λ q. eqb-false _ _ e (code_space b (first_letter b [] a) q)))
kept_codes (b ∷ c ∷ t) a e =
    ap (before (code_of b)) (kept_codes (c ∷ t) (rest_letters b (c ∷ t) a) (sym (ends_cons b c t) ∙ e))

pub letters_codes : (t : List ℕ) → all_letters t ≡ true → map letter_of (map code_of t) ≡ t
letters_codes [] a = refl
letters_codes (b ∷ t) a = cc (letter_code b (first_letter b t a), letters_codes t (rest_letters b t a))

-- past a text's end stand spaces, so each of its codes is below 40, and none is 29 where its bytes are letters
code_at_small : (t : List ℕ) (i : ℕ) → code_at t i < 40
code_at_small [] i = omega arith
code_at_small (b ∷ t) zero = code_small b
code_at_small (b ∷ t) (suc i) = code_at_small t i

pub three_small : (t : List ℕ) (i : ℕ) → (code_at t i < 40) × (code_at t (i + 1) < 40) × (code_at t (i + 2) < 40)
three_small t i = (code_at_small t i, code_at_small t (i + 1), code_at_small t (i + 2))

pub codes_at : (t : List ℕ) → all_letters t ≡ true → (i : ℕ) → IsCode (code_at t i)
codes_at t a i = (code_at_small t i, no_29 t a i)
  where
    no_29 : (t : List ℕ) → all_letters t ≡ true → (i : ℕ) → code_at t i ≡ 29 → ⊥
    no_29 [] a i e = omega arith
    no_29 (b ∷ t) a zero e = first_letter b t a e
    no_29 (b ∷ t) a (suc i) e = no_29 t (rest_letters b t a) i e

are_before : (c : ℕ) (l : List ℕ) → IsCode c → AreCodes l → AreCodes (before c l)
are_before c (d ∷ l) p q = (p, q)
are_before c [] p q = go (eqb c 0)
  where
    go : (t : Bool) → AreCodes (cond t [] (c ∷ []))
    go true = tt
    go false = (p, tt)

pub are_kept : (l : List ℕ) → AreCodes l → AreCodes (kept l)
are_kept [] p = tt
are_kept (c ∷ l) p = are_before c (kept l) p.0 (are_kept l p.1)

codes_letters : (l : List ℕ) → AreCodes l → map code_of (map letter_of l) ≡ l
codes_letters [] p = refl
codes_letters (c ∷ l) p = cc (code_letter c p.0.0 p.0.1, codes_letters l p.1)

pub all_letters_lem : (l : List ℕ) → AreCodes l → all_letters (map letter_of l) ≡ true
all_letters_lem [] p = refl
all_letters_lem (c ∷ l) p = simp (code_letter c p.0.0 p.0.1, ne_eqb c 29 p.0.1) (all_letters_lem l p.1)

ends_before : (c : ℕ) (l : List ℕ) → IsCode c → ends_in_space (map letter_of l) ≡ false → ends_in_space (map letter_of (before c l)) ≡ false
ends_before c (d ∷ l) p e = ends_cons (letter_of c) (letter_of d) (map letter_of l) ∙ e
ends_before c [] p e = go (eqb c 0) refl
  where
    go : (t : Bool) → eqb c 0 ≡ t → ends_in_space (map letter_of (cond t [] (c ∷ []))) ≡ false
    go true q = refl
    go false q = ne_eqb _ _ (λ s. eqb-false _ _ q (letter_space c p.0 p.1 s))

pub ends_kept : (l : List ℕ) → AreCodes l → ends_in_space (map letter_of (kept l)) ≡ false
ends_kept [] p = refl
ends_kept (c ∷ l) p = ends_before c (kept l) p.0 (ends_kept l p.1)

-- the six codes of a list of at most six, without the spaces at their end
pub kept_six : (l : List ℕ) → length l ≤ 6 →
    kept (get_or l 0 0 ∷ get_or l 1 0 ∷ get_or l 2 0 ∷ get_or l 3 0 ∷ get_or l 4 0 ∷ get_or l 5 0 ∷ []) ≡ kept l
kept_six l h = ap kept (six l h) ∙ kept_padded l (6 - length l)

-- the codes of a text are those that it was made of
pub code_text : (l : List ℕ) → AreCodes l → (i : ℕ) → code_at (map letter_of (kept l)) i ≡ get_or l i 0
code_text l p i = ap (λ u. get_or u i 0) (codes_letters (kept l) (are_kept l p)) ∙ get_d_kept l i

-- a text of codes, place by place
text_shown : (l : List ℕ) (i n : ℕ) → n ≡ length (map letter_of (kept l)) → cond (ltb i n) (letter_of (get_or l i 0)) 0 ≡ get_or (map letter_of (kept l)) i 0
text_shown l i n e = go (ltb i n) refl
  where
    go : (t : Bool) → ltb i n ≡ t → cond t (letter_of (get_or l i 0)) 0 ≡ get_or (map letter_of (kept l)) i 0
    go true q = ap letter_of (sym (get_d_kept l i)) ∙ sym (get_d_mapped letter_of (kept l) i (omega (arith, ltb-true i n q, length-map (kept l) letter_of)))
    go false q = sym (get_or-eq_default (map letter_of (kept l)) 0 (omega (arith, ltb-false i n q)))

-- the answer that is made of six letters, one by one
pub text_answer_lem : (l m : Codes) (n p q r s t u : ℕ) → n ≡ length (text_in l m) →
    p ≡ cond (ltb 0 n) (letter_of l.a) 0 → q ≡ cond (ltb 1 n) (letter_of l.b) 0 → r ≡ cond (ltb 2 n) (letter_of l.c) 0 →
    s ≡ cond (ltb 3 n) (letter_of m.a) 0 → t ≡ cond (ltb 4 n) (letter_of m.b) 0 → u ≡ cond (ltb 5 n) (letter_of m.c) 0 →
    record { length = n; letters = p ∷ q ∷ r ∷ s ∷ t ∷ u ∷ [] } ≡ text_answer (text_in l m)
unfolding text_in text_answer
text_answer_lem l m n p q r s t u e ep eq er es et eu = λ i. record { length = e i; letters = is i }
  where
    codes : List ℕ
    codes = l.a ∷ l.b ∷ l.c ∷ m.a ∷ m.b ∷ m.c ∷ []

    at : (i : ℕ) → cond (ltb i n) (letter_of (get_or codes i 0)) 0 ≡ get_or (map letter_of (kept codes)) i 0
    at i = text_shown codes i n e

    is : p ∷ q ∷ r ∷ s ∷ t ∷ u ∷ [] ≡ map letter_of (kept codes) ++ replicate (6 - length (map letter_of (kept codes))) 0
    is = cc (at 0, at 1, at 2, at 3, at 4, at 5, six (map letter_of (kept codes)) (simp length-map (length_kept codes)))
