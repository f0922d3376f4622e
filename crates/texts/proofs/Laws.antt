-- Laws of a text's bytes and fields: what is read byte by byte, and that fields are judged one after another.
use Prim.Native.Nat.{ℕ, zero, suc, ◌+◌, ◌-◌, ◌*◌, ◌/◌, ◌%◌, ◌≤◌, ◌<◌}
use mathlib.Core.Path.{◌≡◌, refl, sym, ap, ◌∙◌}
use mathlib.Core.List.{List, [], ◌∷◌}
use mathlib.Core.Bool.{Bool, true, false, cond, ◌&&◌, ◌||◌}
use native.Mathlib.Omega.{arith}
use native.Mathlib.Nat.{zero-add}
use lib.ListN.{length, get_or, take, drop, length-drop}
use lib.Seq.{get_or-drop, take_all}
use lib.Dec.{eqb, ltb}
use borrow.Author.Tests.{eqb-true, eqb-false, lt-ltb, le-ltb}
use Rattle.words.specs.Words.{words, bytes, Below, word_at}
use Rattle.words.proofs.Laws.{word_in, words_drop}
use Rattle.texts.specs.Texts.{byte_at, counts_word, characters_in, fields_in, text_part, counts_at, field_byte, field_ok, each_field_ok, fields_ok}

---- bytes

-- a byte of a word that is there, and one that is not
pub byte_in : (s : List ℕ) (k : ℕ) → Below 256 s → k / 2 < length s / 2 → get_or s k 0 ≡ byte_at (words s) 0 k
unfolding byte_at
byte_in s k b h = rw (zero-add (k / 2)) (go (eqb (k % 2) 0) refl)
  where
    go : (t : Bool) → eqb (k % 2) 0 ≡ t → get_or s k 0 ≡ cond t (word_at (words s) (k / 2) % 256) (word_at (words s) (k / 2) / 256 % 256)
    go true e =
        let p = eqb-true (k % 2) 0 e in
        let w = word_in s (k / 2) h in
        let x = b (2 * (k / 2)) in
        let y = b (2 * (k / 2) + 1) in
        let q : get_or s k 0 ≡ get_or s (2 * (k / 2)) 0 = ap (λ (i : ℕ). get_or s i 0) (omega arith) in
        omega arith
    go false e =
        let p = eqb-false (k % 2) 0 e in
        let w = word_in s (k / 2) h in
        let x = b (2 * (k / 2)) in
        let y = b (2 * (k / 2) + 1) in
        let q : get_or s k 0 ≡ get_or s (2 * (k / 2) + 1) 0 = ap (λ (i : ℕ). get_or s i 0) (omega arith) in
        let z : word_at (words s) (k / 2) / 256 ≡ get_or s (2 * (k / 2) + 1) 0 = omega arith in
        rw z (q ∙ omega arith)

pub byte_none : (ws : List ℕ) (at k : ℕ) → word_at ws (at + k / 2) ≡ 0 → byte_at ws at k ≡ 0
unfolding byte_at
byte_none ws at k e = go (eqb (k % 2) 0)
  where
    go : (t : Bool) → cond t (word_at ws (at + k / 2) % 256) (word_at ws (at + k / 2) / 256 % 256) ≡ 0
    go true = omega arith
    go false = omega arith

-- a byte depends on its word alone
pub byte_same : (ws vs : List ℕ) (at b k : ℕ) → word_at ws (at + k / 2) ≡ word_at vs (b + k / 2) → byte_at ws at k ≡ byte_at vs b k
unfolding byte_at
byte_same ws vs at b k e = rw e

-- the bytes of words, one by one
pub byte_of : (ws : List ℕ) (k : ℕ) → get_or (bytes ws) k 0 ≡ byte_at ws 0 k
unfolding byte_at
byte_of [] k = sym (byte_none [] 0 k refl)
byte_of (w ∷ ws) zero = refl
byte_of (w ∷ ws) (suc zero) = refl
byte_of (w ∷ ws) (suc (suc k)) =
    let half : suc (suc k) / 2 ≡ suc (k / 2) = omega arith in
    let odd : suc (suc k) % 2 ≡ k % 2 = omega arith in
    byte_of ws k ∙ rw (half, odd, zero-add (k / 2), zero-add (suc (k / 2)))

---- fields

pub below_two : (j : ℕ) → ltb j 2 ≡ (eqb j 0 || eqb j 1)
below_two j = go (eqb j 0) (eqb j 1) refl refl
  where
    go : (a b : Bool) → eqb j 0 ≡ a → eqb j 1 ≡ b → ltb j 2 ≡ (a || b)
    go true b e f = let z = eqb-true j 0 e in lt-ltb j 2 (omega arith)
    go false true e f = let z = eqb-true j 1 f in lt-ltb j 2 (omega arith)
    go false false e f = let y = eqb-false j 0 e in let z = eqb-false j 1 f in le-ltb j 2 (omega arith)

-- the fields from byte j on: the first, and those from j + 3 on
pub first_field : (n c : ℕ) (ws : List ℕ) (at j : ℕ) → (n ≡ 0 → ⊥) → each_field_ok n c ws at j ≡ (field_ok c (byte_at ws at j) (byte_at ws at (j + 1)) (byte_at ws at (j + 2)) && each_field_ok (n - 1) c ws at (j + 3))
unfolding each_field_ok
first_field zero c ws at j h = absurd (h refl)
first_field (suc n) c ws at j h = let e : suc n - 1 ≡ n = omega arith in rw e refl

-- the fields depend on their bytes alone
pub fields_same : (n c : ℕ) (ws vs : List ℕ) (at b j : ℕ) → ((i : ℕ) → j ≤ i → i < j + 3 * n → byte_at ws at i ≡ byte_at vs b i) → each_field_ok n c ws at j ≡ each_field_ok n c vs b j
unfolding each_field_ok
fields_same zero c ws vs at b j h = refl
fields_same (suc n) c ws vs at b j h =
    let first = h j (omega arith) (omega arith) in
    let second = h (j + 1) (omega arith) (omega arith) in
    let third = h (j + 2) (omega arith) (omega arith) in
    rw (first, second, third, fields_same n c ws vs at b (j + 3) (λ i f l. h i (omega arith) (omega arith)))

drop_word : (at : ℕ) (ws : List ℕ) (i : ℕ) → word_at (drop at ws) (0 + i) ≡ word_at ws (at + i)
drop_word at ws i = rw (zero-add i) (get_or-drop at ws i 0)

-- the fields in the bytes from a place on are those behind the place
pub fields_part : (n c : ℕ) (s : List ℕ) (at i j : ℕ) → i ≡ j → each_field_ok n c (words (take (length s - 2 * at) (drop (2 * at) s))) 0 i ≡ each_field_ok n c (words s) at j
fields_part n c s at i j e =
    let l = length-drop (2 * at) s in
    rw (e, take_all (length s - 2 * at) (drop (2 * at) s) (omega arith), words_drop at s)
    (fields_same n c (drop at (words s)) (words s) 0 at j (λ i _ _. byte_same (drop at (words s)) (words s) 0 at i (drop_word at (words s) (i / 2))))

-- no text is there: its first field would begin at character 0
pub fields_none : (n c : ℕ) (ws : List ℕ) (at j : ℕ) → (n ≡ 0 → ⊥) → byte_at ws at j ≡ 0 → each_field_ok n c ws at j ≡ false
fields_none n c ws at j h e = first_field n c ws at j h ∙ rw e

---- counts

-- the word of the counts is from 29 to 37
pub counts_late : (dim : ℕ) → 29 ≤ counts_word dim
counts_late dim = go (eqb dim 2)
  where
    go : (b : Bool) → 29 ≤ cond b 29 37
    go true = omega arith
    go false = omega arith

pub counts_early : (dim : ℕ) → counts_word dim ≤ 37
counts_early dim = go (eqb dim 2)
  where
    go : (b : Bool) → cond b 29 37 ≤ 37
    go true = omega arith
    go false = omega arith

-- the fixed part has 30 words at least, and the word of the counts among them
pub text_past : (dim counts : ℕ) → counts_word dim < text_part dim counts
unfolding text_part
text_past dim counts = omega arith

pub text_long : (dim counts : ℕ) → 30 ≤ text_part dim counts
unfolding text_part
text_long dim counts = omega (arith, counts_late dim)

-- the fields depend on the words from that of the counts to the fixed part's end alone
pub text_same : (dim : ℕ) (ws vs : List ℕ) (at b : ℕ) → ((i : ℕ) → counts_word dim ≤ i → i < text_part dim (counts_at dim vs b) → word_at ws (at + i) ≡ word_at vs (b + i)) → fields_ok dim ws at ≡ fields_ok dim vs b
unfolding fields_ok text_part
text_same dim ws vs at b h =
    let counts = counts_at dim vs b in
    rw (h (counts_word dim) (omega arith) (text_past dim counts))
    (fields_same (fields_in counts) (characters_in counts) ws vs at b (field_byte dim counts 0)
    (λ i f l. byte_same ws vs at b i (h (i / 2) (omega arith) (omega arith))))
