-- Words in the middle of others: what is read and stored there is read and stored in them alone.
use Prim.Native.Nat.{ℕ, zero, suc, ◌+◌, ◌<◌}
use native.Mathlib.Nat.{zero-add, suc-add, add-zero}
use native.Mathlib.Omega.{arith}
use mathlib.Core.Path.{◌≡◌, refl, sym, ap, ◌∙◌}
use mathlib.Core.Logic.{◌≢◌}
use mathlib.Core.Bool.{Bool, true, false}
use mathlib.Core.List.{List, [], ◌∷◌, ◌++◌}
use lib.ListN.{length, get_or, set, length-set, get_or-append, get_or-eq_default}
use lib.Seq.{take_at, drop_at, drop-append-add, get_or-append-add, set-append_left, set-get_or, set-set, set_comm, get_or-set_same, get_or-set_other, set_out}
use lib.Dec.{eqb, ltb}
use borrow.Author.Tests.{eqb-true, eqb-false, ltb-true, ltb-false}
use Rattle.words.specs.Words.{Below, word_at}
use Rattle.edits.specs.Edits.{splice, cut}

set_right : (pre x : List ℕ) (i v : ℕ) → set (pre ++ x) (length pre + i) v ≡ pre ++ set x i v
set_right [] x i v = ap (λ k. set x k v) (zero-add i)
set_right (y ∷ pre) x i v = rw (suc-add (length pre) i) (ap (λ l. y ∷ l) (set_right pre x i v))

module _ (pre own post : List ℕ) (q : ℕ) (e : length pre ≡ q) where
  pub read_in : (i : ℕ) → i < length own → word_at (pre ++ (own ++ post)) (q + i) ≡ word_at own i
  read_in i h = rw (← e, get_or-append-add pre (own ++ post) i 0) (get_or-append own post 0 i h)

  pub read_first : 0 < length own → word_at (pre ++ (own ++ post)) q ≡ word_at own 0
  read_first h = ap (word_at (pre ++ (own ++ post))) (sym (add-zero q)) ∙ read_in 0 h

  pub set_in : (i v : ℕ) → i < length own → set (pre ++ (own ++ post)) (q + i) v ≡ pre ++ (set own i v ++ post)
  set_in i v h = rw (← e) (set_right pre (own ++ post) i v ∙ ap (λ l. pre ++ l) (set-append_left own post i v h))

  pub set_first : (v : ℕ) → 0 < length own → set (pre ++ (own ++ post)) q v ≡ pre ++ (set own 0 v ++ post)
  set_first v h = ap (λ k. set (pre ++ (own ++ post)) k v) (sym (add-zero q)) ∙ set_in 0 v h

pub splice_at : (a x y : List ℕ) (p : ℕ) → length a ≡ p → splice p x (a ++ y) ≡ a ++ (x ++ y)
unfolding splice
splice_at a x y p e = rw (take_at a y p e, drop_at a y p e) refl

pub cut_at : (a x y : List ℕ) (p n : ℕ) → length a ≡ p → length x ≡ n → cut p n (a ++ (x ++ y)) ≡ a ++ y
unfolding cut
cut_at a x y p n e f =
    rw (take_at a (x ++ y) p e) (ap (λ l. a ++ l) (rw (← e) (drop-append-add a (x ++ y) n) ∙ drop_at x y n f))

-- two words one after another stored, and the old ones stored back
abbrev pub set2 : List ℕ → ℕ → ℕ → ℕ → List ℕ
set2 xs i a b = set (set xs i a) (i + 1) b

pub length_set2 : (xs : List ℕ) (i a b : ℕ) → length (set2 xs i a b) ≡ length xs
length_set2 xs i a b = length-set (set xs i a) (i + 1) b ∙ length-set xs i a

pub set2_other : (xs : List ℕ) (i a b j : ℕ) → j ≢ i → j ≢ i + 1 → word_at (set2 xs i a b) j ≡ word_at xs j
set2_other xs i a b j p q = get_or-set_other (set xs i a) (i + 1) j b 0 q ∙ get_or-set_other xs i j a 0 p

pub set2_first : (xs : List ℕ) (i a b : ℕ) → i < length xs → word_at (set2 xs i a b) i ≡ a
set2_first xs i a b h = get_or-set_other (set xs i a) (i + 1) i b 0 (omega arith) ∙ get_or-set_same xs i a 0 h

pub set2_second : (xs : List ℕ) (i a b : ℕ) → i + 1 < length xs → word_at (set2 xs i a b) (i + 1) ≡ b
set2_second xs i a b h = get_or-set_same (set xs i a) (i + 1) b 0 (rw (length-set xs i a) h)

pub set2_back : (xs : List ℕ) (i a b : ℕ) → set2 (set2 xs i a b) i (word_at xs i) (word_at xs (i + 1)) ≡ xs
set2_back xs i a b =
    ap (λ l. set l (i + 1) (word_at xs (i + 1))) (set_comm (set xs i a) (i + 1) i b (word_at xs i) (omega arith))
    ∙ set-set (set (set xs i a) i (word_at xs i)) (i + 1) b (word_at xs (i + 1))
    ∙ ap (λ l. set l (i + 1) (word_at xs (i + 1))) (set-set xs i a (word_at xs i) ∙ set-get_or xs i 0)
    ∙ set-get_or xs (i + 1) 0

pub set2_in : (pre own post : List ℕ) (q i a b : ℕ) → length pre ≡ q → i + 1 < length own →
    set2 (pre ++ (own ++ post)) (q + i) a b ≡ pre ++ (set2 own i a b ++ post)
set2_in pre own post q i a b e h =
    let s : q + i + 1 ≡ q + (i + 1) = omega arith in
    rw (set_in pre own post q e i a (omega arith), s) (set_in pre (set own i a) post q e (i + 1) b (rw (length-set own i a) h))

---- every word below a bound

pub below_left : {n : ℕ} (xs ys : List ℕ) → Below n (xs ++ ys) → Below n xs
below_left {n} [] ys b i = let h = b (length ys) in let z = get_or-eq_default ys 0 {n = length ys} (omega arith) in omega arith
below_left (x ∷ xs) ys b zero = b 0
below_left (x ∷ xs) ys b (suc i) = below_left xs ys (λ k. b (suc k)) i

pub below_right : {n : ℕ} (xs ys : List ℕ) → Below n (xs ++ ys) → Below n ys
below_right xs ys b i = let e = get_or-append-add xs ys i 0 in let h = b (length xs + i) in omega arith

pub below_set : {n : ℕ} (xs : List ℕ) (i v : ℕ) → Below n xs → v < n → Below n (set xs i v)
below_set {n} xs i v b h j = go (eqb j i) (ltb i (length xs)) refl refl
  where
    go : (s t : Bool) → eqb j i ≡ s → ltb i (length xs) ≡ t → get_or (set xs i v) j 0 < n
    go true true p q = let e = eqb-true j i p in let f = get_or-set_same xs i v 0 (ltb-true i (length xs) q) in rw e (omega arith)
    go true false p q = rw (set_out xs i v (ltb-false i (length xs) q)) (b j)
    go false t p q = let e = get_or-set_other xs i j v 0 (eqb-false j i p) in let f = b j in omega arith
