-- Texts and accepted word pairs match one to one (demand 2). The theorems:
--     unpack-pack     unpacking what a text packs to gives that text
--     pack-unpack     packing the text of two accepted words gives those words
--     one-to-one      a text packs to two words exactly where these unpack to the text
--     no-two-share    two texts that pack to the same words are the same text
--     pack-stored     what a text packs to is a stored name of two 16-bit words
-- The words of a text hold its codes with spaces up to six, and its text is these without the spaces at their end.
use Prim.Native.Nat.{ℕ, ◌<◌, ◌≤◌, ◌/◌, ◌%◌}
use mathlib.Core.Path.{◌≡◌, refl, sym, ap, ap₂, ◌∙◌}
use mathlib.Core.Logic.{◌↔◌}
use mathlib.Core.Bool.{Bool, true, false, cond, not, ◌&&◌, and-eq-true_iff}
use mathlib.Core.List.{List, [], ◌∷◌, map}
use native.Mathlib.Omega.{arith}
use lib.ListN.{length, get_or, take, length-map}
use lib.Seq.{take-append_seam}
use lib.Dec.{leb}
use borrow.Author.Tests.{leb-true, le-leb, not-true}
use Rattle.names.specs.Names.{code_of, letter_of, all_letters, ends_in_space, good_text, code_at, word_from, packed, name_ok, kept, text_in, text_of, text_answer, unpacked}
use Rattle.names.proofs.Texts.{IsCode, AreCodes, codes_at, kept_six, kept_codes, letters_codes, length_kept, are_kept, all_letters_lem, ends_kept, code_text}
use Rattle.names.proofs.Stored.{letters_word, word_ok_lem, word_small, word_codes, both_ok}
use Rattle.names.specs.Name.{packed_to, no_text_with}
use Rattle.refusals.specs.Refusals.{refused_with}
use Rattle.refusals.proofs.Laws.{given_is}
use Rattle.std.specs.Prelude.{replicate, Ok}
use Rattle.names.specs.declared.Name.{Name}

-- a good text, by its parts
record Good (t : List ℕ) : Type 0 where
  short : length t ≤ 6
  ends : ends_in_space t ≡ false
  letters : all_letters t ≡ true

good : (t : List ℕ) → good_text t ≡ true → Good t
good t e =
    let p = (and-eq-true_iff (leb (length t) 6) (not (ends_in_space t) && all_letters t)).0 e in
    let q = (and-eq-true_iff (not (ends_in_space t)) (all_letters t)).0 p.1 in
    record { short = leb-true _ _ p.0; ends = not-true _ q.0; letters = q.1 }

module _ (t : List ℕ) (g : Good t) where
  codes : (i : ℕ) → IsCode (code_at t i)
  codes = codes_at t g.letters

  words_ok : name_ok (word_from t 0) (word_from t 3) ≡ true
  unfolding name_ok word_from
  words_ok = simp (word_ok_lem _ _ _ (codes 0) (codes 1) (codes 2), word_ok_lem _ _ _ (codes 3) (codes 4) (codes 5))

  words_text : text_of (word_from t 0) (word_from t 3) ≡ t
  unfolding text_in word_from
  words_text =
      ap₂ text_in (letters_word _ _ _ (codes 1).0 (codes 2).0) (letters_word _ _ _ (codes 4).0 (codes 5).0) ∙
      ap (map letter_of) (kept_six (map code_of t) (simp length-map g.short) ∙ kept_codes t g.letters g.ends) ∙
      letters_codes t g.letters

-- a text that packs to two words is good, and they are its words
record PacksTo (t : List ℕ) (a b : ℕ) : Type 0 where
  text : Good t
  first : word_from t 0 ≡ a
  second : word_from t 3 ≡ b

packs_to : (t : List ℕ) (a b : ℕ) → packed t ≡ packed_to a b → PacksTo t a b
unfolding packed
packs_to t a b = go (good_text t) refl
  where
    go : (k : Bool) → good_text t ≡ k → cond k (packed_to (word_from t 0) (word_from t 3)) (refused_with 12 0) ≡ packed_to a b → PacksTo t a b
    go true g e =
        let words = given_is e in
        record { text = good t g; first = ap (λ (n : Name). n.first) words; second = ap (λ (n : Name). n.second) words }
    go false g e = absurd (cc)

text_back : (t : List ℕ) (a b : ℕ) → packed t ≡ packed_to a b → text_of a b ≡ t
text_back t a b e =
    let p = packs_to t a b e in
    sym (ap₂ text_of p.first p.second) ∙ words_text t p.text

-- two words that are a stored name, each of 16 bits
pub record Stored (a b : ℕ) : Type 0 where
  pub ok : name_ok a b ≡ true
  pub first : a < 65536
  pub second : b < 65536

pub pack_stored : (t : List ℕ) (a b : ℕ) → packed t ≡ packed_to a b → Stored a b
pack_stored t a b e =
    let p = packs_to t a b e in
    let ok : name_ok a b ≡ true = sym (ap₂ name_ok p.first p.second) ∙ words_ok t p.text in
    let q = both_ok a b ok in
    record { ok = ok; first = omega (arith, word_small a q.0); second = omega (arith, word_small b q.1) }

pub unpack_pack : (t : List ℕ) (a b : ℕ) → packed t ≡ packed_to a b → unpacked a b ≡ Ok (text_answer t)
unfolding unpacked
unpack_pack t a b e = simp ((pack_stored t a b e).ok, text_back t a b e)

pub no_two_share : (t u : List ℕ) (a b : ℕ) → packed t ≡ packed_to a b → packed u ≡ packed_to a b → t ≡ u
no_two_share t u a b p q = sym (text_back t a b p) ∙ text_back u a b q

-- the codes of two words
abbrev codes_in : ℕ → ℕ → List ℕ
codes_in a b = a / 1600 ∷ a / 40 % 40 ∷ a % 40 ∷ b / 1600 ∷ b / 40 % 40 ∷ b % 40 ∷ []

module _ (a b : ℕ) (ok : name_ok a b ≡ true) where
  are : AreCodes (codes_in a b)
  are =
      let both = both_ok a b ok in
      word_codes a both.0 (b / 1600 ∷ b / 40 % 40 ∷ b % 40 ∷ []) (word_codes b both.1 [] tt)

  text_good : good_text (map letter_of (kept (codes_in a b))) ≡ true
  text_good =
      let short : length (map letter_of (kept (codes_in a b))) ≤ 6 = simp length-map (length_kept (codes_in a b)) in
      simp (le-leb _ _ short, ends_kept (codes_in a b) are, all_letters_lem (kept (codes_in a b)) (are_kept (codes_in a b) are))

  code_back : (i : ℕ) → code_at (map letter_of (kept (codes_in a b))) i ≡ get_or (codes_in a b) i 0
  code_back = code_text (codes_in a b) are

  first_back : word_from (map letter_of (kept (codes_in a b))) 0 ≡ a
  unfolding word_from
  first_back = omega (arith, code_back 0, code_back 1, code_back 2)

  second_back : word_from (map letter_of (kept (codes_in a b))) 3 ≡ b
  unfolding word_from
  second_back = omega (arith, code_back 3, code_back 4, code_back 5)

  pub pack_unpack : packed (text_of a b) ≡ packed_to a b
  unfolding packed text_in
  pack_unpack = simp (text_good, first_back, second_back)

-- an answer holds one text
answer_text : (t u : List ℕ) → text_answer t ≡ text_answer u → t ≡ u
unfolding text_answer
answer_text t u e =
    sym (take-append_seam t _) ∙ ap₂ take (ap (λ r. r.length) e) (ap (λ r. r.letters) e) ∙ take-append_seam u _

-- only a stored name unpacks to a text
unpacks_ok : (t : List ℕ) (a b : ℕ) → unpacked a b ≡ Ok (text_answer t) → name_ok a b ≡ true
unfolding unpacked
unpacks_ok t a b = go (name_ok a b)
  where
    go : (k : Bool) → cond k (Ok (text_answer (text_of a b))) (no_text_with 12 0 (replicate 6 0)) ≡ Ok (text_answer t) → k ≡ true
    go true e = refl
    go false e = absurd (cc)

pub one_to_one : (t : List ℕ) (a b : ℕ) → packed t ≡ packed_to a b ↔ unpacked a b ≡ Ok (text_answer t)
one_to_one t a b = (unpack_pack t a b, back)
  where
    back : unpacked a b ≡ Ok (text_answer t) → packed t ≡ packed_to a b
    back e =
        let p = pack_unpack a b (unpacks_ok t a b e) in
        ap packed (answer_text _ _ (given_is (sym e ∙ unpack_pack _ a b p))) ∙ p
