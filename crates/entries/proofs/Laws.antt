-- Laws of entries: their number, an entry by its words, a store, parts of the bytes, and bytes that are nothing but entries.
use Prim.Native.Nat.{ℕ, zero, suc, ◌+◌, ◌-◌, ◌*◌, ◌/◌, ◌%◌, ◌^◌, ◌≤◌, ◌<◌}
use mathlib.Core.Path.{◌≡◌, refl, sym, ap, ap₂, ◌∙◌}
use mathlib.Core.Bool.{true, and-eq-true_iff}
use mathlib.Core.List.{List, [], ◌∷◌, ◌++◌}
use native.Mathlib.Omega.{arith}
use native.Mathlib.Decide.{dec_le}
use lib.ListN.{length, get_or, take, drop, set, replicate, length-take, get_or-eq_default, length-append, length-replicate}
use lib.Seq.{set_out, get_or-take, length-take-le}
use lib.Dec.{eqb, leb}
use borrow.Author.Tests.{lt-ltb, le-ltb, leb-true}
use Rattle.words.specs.Words.{words, bytes, Below, put_word}
use Rattle.words.proofs.Laws.{words_bytes, length_words, length_bytes, words_below, bytes_words, words_take, words_drop, words_append, words_put, length_put, word_in, put_in as put_word_in}
use Rattle.entries.specs.Entries.{entry_of, gathered, spread, entries, image, shown, entries_ok, put_entry, Stored}

four : (n : ℕ) → 4 * suc n ≡ suc (suc (suc (suc (4 * n))))
four n = omega arith

four_more : (n k : ℕ) → 4 * suc n + k ≡ suc (suc (suc (suc (4 * n + k))))
four_more n k = omega arith

---- lengths

length_gathered : (ws : List ℕ) → length (gathered ws) ≡ length ws / 4
length_gathered [] = refl
length_gathered (a ∷ []) = refl
length_gathered (a ∷ b ∷ []) = refl
length_gathered (a ∷ b ∷ c ∷ []) = refl
length_gathered (a ∷ b ∷ c ∷ d ∷ ws) = let e = length_gathered ws in omega arith

pub length_entries : (s : List ℕ) → length (entries s) ≡ length s / 8
unfolding entries
length_entries s = let a = length_gathered (words s) in let b = length_words s in omega arith

length_spread : (es : List ℕ) → length (spread es) ≡ 4 * length es
length_spread [] = refl
length_spread (e ∷ es) = let h = length_spread es in omega arith

pub length_image : (es : List ℕ) → length (image es) ≡ 8 * length es
unfolding image
length_image es = let a = length_spread es in let b = length_bytes (spread es) in omega arith

---- an entry by its words

gathered_in : (ws : List ℕ) (i : ℕ) → i < length ws / 4 → get_or (gathered ws) i 0 ≡ entry_of (get_or ws (4 * i) 0) (get_or ws (4 * i + 1) 0) (get_or ws (4 * i + 2) 0) (get_or ws (4 * i + 3) 0)
gathered_in [] i h = absurd (omega arith)
gathered_in (a ∷ []) i h = absurd (omega arith)
gathered_in (a ∷ b ∷ []) i h = absurd (omega arith)
gathered_in (a ∷ b ∷ c ∷ []) i h = absurd (omega arith)
gathered_in (a ∷ b ∷ c ∷ d ∷ ws) zero h = refl
gathered_in (a ∷ b ∷ c ∷ d ∷ ws) (suc i) h = rw (four_more i 1, four_more i 2, four_more i 3, four i) (gathered_in ws i (omega arith))

pub entry_in : (s : List ℕ) (i : ℕ) → i < length s / 8 → get_or (entries s) i 0 ≡ entry_of (get_or (words s) (4 * i) 0) (get_or (words s) (4 * i + 1) 0) (get_or (words s) (4 * i + 2) 0) (get_or (words s) (4 * i + 3) 0)
unfolding entries
entry_in s i h = let b = length_words s in gathered_in (words s) i (omega arith)

pub entry_out : (s : List ℕ) (i : ℕ) → length s / 8 ≤ i → get_or (entries s) i 0 ≡ 0
entry_out s i h = let e = length_entries s in get_or-eq_default (entries s) 0 (omega arith)

gathered_below : (ws : List ℕ) → Below 65536 ws → Below (2 ^ 64) (gathered ws)
gathered_below [] b i = omega arith
gathered_below (x ∷ []) b i = omega arith
gathered_below (x ∷ y ∷ []) b i = omega arith
gathered_below (x ∷ y ∷ z ∷ []) b i = omega arith
gathered_below (x ∷ y ∷ z ∷ w ∷ r) b zero = let p = b 0 in let q = b 1 in let t = b 2 in let u = b 3 in omega arith
gathered_below (x ∷ y ∷ z ∷ w ∷ r) b (suc i) = gathered_below r (λ k. b (suc (suc (suc (suc k))))) i

pub entries_below : (s : List ℕ) → Below 256 s → Below (2 ^ 64) (entries s)
unfolding entries
entries_below s b = gathered_below (words s) (words_below s b)

---- a store

gathered_set : (ws : List ℕ) (i a b c d : ℕ) → i < length ws / 4 → gathered (set (set (set (set ws (4 * i) a) (4 * i + 1) b) (4 * i + 2) c) (4 * i + 3) d) ≡ set (gathered ws) i (entry_of a b c d)
gathered_set [] i a b c d h = absurd (omega arith)
gathered_set (x ∷ []) i a b c d h = absurd (omega arith)
gathered_set (x ∷ y ∷ []) i a b c d h = absurd (omega arith)
gathered_set (x ∷ y ∷ z ∷ []) i a b c d h = absurd (omega arith)
gathered_set (x ∷ y ∷ z ∷ w ∷ r) zero a b c d h = refl
gathered_set (x ∷ y ∷ z ∷ w ∷ r) (suc i) a b c d h = rw (four_more i 1, four_more i 2, four_more i 3, four i) (ap (λ l. entry_of x y z w ∷ l) (gathered_set r i a b c d (omega arith)))

digits : (e : ℕ) → e < 2 ^ 64 → entry_of (e / 281474976710656) (e / 4294967296 % 65536) (e / 65536 % 65536) (e % 65536) ≡ e
digits e h = omega arith

pub put_in : (s : List ℕ) (i e : ℕ) → i < length s / 8 → put_entry s i e ≡ put_word (put_word (put_word (put_word s (4 * i) (e / 281474976710656)) (4 * i + 1) (e / 4294967296 % 65536)) (4 * i + 2) (e / 65536 % 65536)) (4 * i + 3) (e % 65536)
unfolding put_entry
put_in s i e h = rw (lt-ltb i (length s / 8) h) refl

pub put_out : (s : List ℕ) (i e : ℕ) → length s / 8 ≤ i → put_entry s i e ≡ s
unfolding put_entry
put_out s i e h = rw (le-ltb i (length s / 8) h) refl

pub entries_put_in : (s : List ℕ) (i e : ℕ) → e < 2 ^ 64 → i < length s / 8 → entries (put_entry s i e) ≡ set (entries s) i e
unfolding entries
entries_put_in s i e f h =
    let l = length_words s in
    ap gathered
    (ap words (put_in s i e h)
    ∙ words_put _ (4 * i + 3) (e % 65536) (omega arith)
    ∙ ap (λ w. set w (4 * i + 3) (e % 65536))
    (words_put _ (4 * i + 2) (e / 65536 % 65536) (omega arith)
    ∙ ap (λ w. set w (4 * i + 2) (e / 65536 % 65536))
    (words_put _ (4 * i + 1) (e / 4294967296 % 65536) (omega arith)
    ∙ ap (λ w. set w (4 * i + 1) (e / 4294967296 % 65536)) (words_put s (4 * i) (e / 281474976710656) (omega arith)))))
    ∙ gathered_set (words s) i _ _ _ _ (omega arith)
    ∙ ap (set (gathered (words s)) i) (digits e f)

pub entries_put_out : (s : List ℕ) (i e : ℕ) → length s / 8 ≤ i → entries (put_entry s i e) ≡ set (entries s) i e
entries_put_out s i e h = let l = length_entries s in ap entries (put_out s i e h) ∙ sym (set_out (entries s) i e (omega arith))

---- parts of the bytes that begin or end between two entries

gathered_take : (n : ℕ) (ws : List ℕ) → gathered (take (4 * n) ws) ≡ take n (gathered ws)
gathered_take zero ws = refl
gathered_take (suc n) [] = rw (four n) refl
gathered_take (suc n) (x ∷ []) = rw (four n) refl
gathered_take (suc n) (x ∷ y ∷ []) = rw (four n) refl
gathered_take (suc n) (x ∷ y ∷ z ∷ []) = rw (four n) refl
gathered_take (suc n) (x ∷ y ∷ z ∷ w ∷ r) = rw (four n) (ap (λ l. entry_of x y z w ∷ l) (gathered_take n r))

gathered_drop : (n : ℕ) (ws : List ℕ) → gathered (drop (4 * n) ws) ≡ drop n (gathered ws)
gathered_drop zero ws = refl
gathered_drop (suc n) [] = rw (four n) refl
gathered_drop (suc n) (x ∷ []) = rw (four n) refl
gathered_drop (suc n) (x ∷ y ∷ []) = rw (four n) refl
gathered_drop (suc n) (x ∷ y ∷ z ∷ []) = rw (four n) refl
gathered_drop (suc n) (x ∷ y ∷ z ∷ w ∷ r) = rw (four n) (gathered_drop n r)

gathered_append : (n : ℕ) (ws vs : List ℕ) → length ws ≡ 4 * n → gathered (ws ++ vs) ≡ gathered ws ++ gathered vs
gathered_append n [] vs e = refl
gathered_append n (x ∷ []) vs e = absurd (omega arith)
gathered_append n (x ∷ y ∷ []) vs e = absurd (omega arith)
gathered_append n (x ∷ y ∷ z ∷ []) vs e = absurd (omega arith)
gathered_append n (x ∷ y ∷ z ∷ w ∷ r) vs e = ap (λ l. entry_of x y z w ∷ l) (gathered_append (n - 1) r vs (omega arith))

eight : (n : ℕ) → 8 * n ≡ 2 * (4 * n)
eight n = omega arith

pub entries_take : (n : ℕ) (s : List ℕ) → entries (take (8 * n) s) ≡ take n (entries s)
unfolding entries
entries_take n s = rw (eight n) (ap gathered (words_take (4 * n) s) ∙ gathered_take n (words s))

pub entries_drop : (n : ℕ) (s : List ℕ) → entries (drop (8 * n) s) ≡ drop n (entries s)
unfolding entries
entries_drop n s = rw (eight n) (ap gathered (words_drop (4 * n) s) ∙ gathered_drop n (words s))

pub entries_append : (n : ℕ) (s t : List ℕ) → length s ≡ 8 * n → entries (s ++ t) ≡ entries s ++ entries t
unfolding entries
entries_append n s t e =
    let l = length_words s in
    ap gathered (words_append (4 * n) s t (omega arith)) ∙ gathered_append n (words s) (words t) (omega arith)

---- bytes that are nothing but entries

spread_gathered : (n : ℕ) (ws : List ℕ) → length ws ≡ 4 * n → Below 65536 ws → spread (gathered ws) ≡ ws
spread_gathered n [] e b = refl
spread_gathered n (x ∷ []) e b = absurd (omega arith)
spread_gathered n (x ∷ y ∷ []) e b = absurd (omega arith)
spread_gathered n (x ∷ y ∷ z ∷ []) e b = absurd (omega arith)
spread_gathered n (x ∷ y ∷ z ∷ w ∷ r) e b =
    let p = b 0 in
    let q = b 1 in
    let t = b 2 in
    let u = b 3 in
    let k = entry_of x y z w in
    let k0 : k / 281474976710656 % 65536 ≡ x = omega arith in
    let k1 : k / 4294967296 % 65536 ≡ y = omega arith in
    let k2 : k / 65536 % 65536 ≡ z = omega arith in
    let k3 : k % 65536 ≡ w = omega arith in
    rw (k0, k1, k2, k3, spread_gathered (n - 1) r (omega arith) (λ i. b (suc (suc (suc (suc i)))))) refl

-- whole entries: the bytes are those of the entries
pub image_entries : (n : ℕ) (s : List ℕ) → length s ≡ 8 * n → Below 256 s → image (entries s) ≡ s
unfolding entries image
image_entries n s e b =
    let l = length_words s in
    ap bytes (spread_gathered n (words s) (omega arith) (words_below s b)) ∙ bytes_words s (4 * n) (omega arith) b

below_take : (n k : ℕ) (s : List ℕ) → 0 < n → Below n s → Below n (take k s)
below_take n k s h b i = go (dec_le k i)
  where
    go : Dec (k ≤ i) → get_or (take k s) i 0 < n
    go (yes g) = let l = length-take k s in let e = get_or-eq_default (take k s) 0 {n = i} (omega arith) in omega arith
    go (no g) = let e = get_or-take k s i 0 (omega arith) in let c = b i in omega arith

pub image_front : (m : ℕ) (s : List ℕ) → 8 * m ≤ length s → Below 256 s → take (8 * m) s ≡ image (take m (entries s))
image_front m s h b =
    sym (image_entries m (take (8 * m) s) (length-take-le (8 * m) s h) (below_take 256 (8 * m) s (omega arith) b)) ∙ ap image (entries_take m s)

-- a buffer whose first m entries are es, made zero behind them
pub shown_front : (m : ℕ) (s es : List ℕ) → 8 * m ≤ length s → Below 256 s → take m (entries s) ≡ es
    → take (8 * m) s ++ replicate (length s - 8 * m) 0 ≡ shown (length s) es
unfolding shown
shown_front m s es h b e =
    let l = length_entries s in
    let n : length es ≡ m = ap length (sym e) ∙ length-take-le m (entries s) (omega arith) in
    rw (n, ← e) (ap (λ z. z ++ replicate (length s - 8 * m) 0) (image_front m s h b))

-- and the entries of their bytes are they
gathered_spread : (es : List ℕ) → Below (2 ^ 64) es → gathered (spread es) ≡ es
gathered_spread [] b = refl
gathered_spread (e ∷ es) b =
    let h = b 0 in
    let s : e / 281474976710656 < 65536 = omega arith in
    let q : e / 281474976710656 % 65536 ≡ e / 281474976710656 = omega arith in
    let d = digits e h in
    ap₂ ◌∷◌ (omega arith) (gathered_spread es (λ i. b (suc i)))

spread_below : (es : List ℕ) → Below 65536 (spread es)
spread_below [] i = omega arith
spread_below (e ∷ es) zero = omega arith
spread_below (e ∷ es) (suc zero) = omega arith
spread_below (e ∷ es) (suc (suc zero)) = omega arith
spread_below (e ∷ es) (suc (suc (suc zero))) = omega arith
spread_below (e ∷ es) (suc (suc (suc (suc i)))) = spread_below es i

pub entries_image : (es : List ℕ) → Below (2 ^ 64) es → entries (image es) ≡ es
unfolding entries image
entries_image es b = ap gathered (words_bytes (spread es) (spread_below es)) ∙ gathered_spread es b

pub length_shown : (n : ℕ) (es : List ℕ) → 8 * length es ≤ n → length (shown n es) ≡ n
unfolding shown
length_shown n es h = let l = length_image es in simp (length-append, length-replicate) (omega arith)

---- an entry and a store by bytes

word_at : (s : List ℕ) (q p r : ℕ) → q < length s / 2 → 2 * q ≡ p → 2 * q + 1 ≡ r → get_or (words s) q 0 ≡ get_or s p 0 + 256 * get_or s r 0
word_at s q p r h e f = word_in s q h ∙ ap₂ (λ a b. get_or s a 0 + 256 * get_or s b 0) e f

pub entry_bytes : (s : List ℕ) (i : ℕ) → i < length s / 8
    → get_or (entries s) i 0 ≡ entry_of (get_or s (8 * i) 0 + 256 * get_or s (8 * i + 1) 0) (get_or s (8 * i + 2) 0 + 256 * get_or s (8 * i + 3) 0)
    (get_or s (8 * i + 4) 0 + 256 * get_or s (8 * i + 5) 0) (get_or s (8 * i + 6) 0 + 256 * get_or s (8 * i + 7) 0)
entry_bytes s i h =
    let a = word_at s (4 * i) (8 * i) (8 * i + 1) (omega arith) (omega arith) (omega arith) in
    let b = word_at s (4 * i + 1) (8 * i + 2) (8 * i + 3) (omega arith) (omega arith) (omega arith) in
    let c = word_at s (4 * i + 2) (8 * i + 4) (8 * i + 5) (omega arith) (omega arith) (omega arith) in
    let d = word_at s (4 * i + 3) (8 * i + 6) (8 * i + 7) (omega arith) (omega arith) (omega arith) in
    entry_in s i h ∙ rw (a, b, c, d) refl

put_at : (s : List ℕ) (q p r w : ℕ) → q < length s / 2 → 2 * q ≡ p → 2 * q + 1 ≡ r → set (set s p (w % 256)) r (w / 256 % 256) ≡ put_word s q w
put_at s q p r w h e f = ap₂ (λ a b. set (set s a (w % 256)) b (w / 256 % 256)) (sym e) (sym f) ∙ sym (put_word_in s q w h)

pub stored_bytes : (s : List ℕ) (i e : ℕ) → i < length s / 8 → e < 2 ^ 64
    → Stored s i e
    (set (set (set (set (set (set (set (set s (8 * i) (e / 281474976710656 % 256)) (8 * i + 1) (e / 281474976710656 / 256 % 256))
    (8 * i + 2) (e / 4294967296 % 65536 % 256)) (8 * i + 3) (e / 4294967296 % 65536 / 256 % 256))
    (8 * i + 4) (e / 65536 % 65536 % 256)) (8 * i + 5) (e / 65536 % 65536 / 256 % 256))
    (8 * i + 6) (e % 65536 % 256)) (8 * i + 7) (e % 65536 / 256 % 256))
stored_bytes s i e h f =
    let a = e / 281474976710656 in
    let b = e / 4294967296 % 65536 in
    let c = e / 65536 % 65536 in
    let s₁ = put_word s (4 * i) a in
    let l₁ = length_put s (4 * i) a in
    let s₂ = put_word s₁ (4 * i + 1) b in
    let l₂ = length_put s₁ (4 * i + 1) b in
    let s₃ = put_word s₂ (4 * i + 2) c in
    let l₃ = length_put s₂ (4 * i + 2) c in
    let q =
    ap (λ t. set (set (set (set (set (set t (8 * i + 2) (b % 256)) (8 * i + 3) (b / 256 % 256)) (8 * i + 4) (c % 256)) (8 * i + 5) (c / 256 % 256)) (8 * i + 6) (e % 65536 % 256)) (8 * i + 7) (e % 65536 / 256 % 256))
    (put_at s (4 * i) (8 * i) (8 * i + 1) a (omega arith) (omega arith) (omega arith))
    ∙ ap (λ t. set (set (set (set t (8 * i + 4) (c % 256)) (8 * i + 5) (c / 256 % 256)) (8 * i + 6) (e % 65536 % 256)) (8 * i + 7) (e % 65536 / 256 % 256))
    (put_at s₁ (4 * i + 1) (8 * i + 2) (8 * i + 3) b (omega arith) (omega arith) (omega arith))
    ∙ ap (λ t. set (set t (8 * i + 6) (e % 65536 % 256)) (8 * i + 7) (e % 65536 / 256 % 256))
    (put_at s₂ (4 * i + 2) (8 * i + 4) (8 * i + 5) c (omega arith) (omega arith) (omega arith))
    ∙ put_at s₃ (4 * i + 3) (8 * i + 6) (8 * i + 7) (e % 65536) (omega arith) (omega arith) (omega arith)
    ∙ sym (put_in s i e h) in
    record { is = q; holds = ap entries q ∙ entries_put_in s i e f h }

pub stored_out : (s : List ℕ) (i e : ℕ) → length s / 8 ≤ i → Stored s i e s
stored_out s i e h =
    let b = sym (put_out s i e h) in
    record { is = b; holds = ap entries b ∙ entries_put_out s i e h }

---- a used length

pub ok_within : (size used : ℕ) → entries_ok size used ≡ true → used ≤ size
ok_within size used e = leb-true used size ((and-eq-true_iff (eqb (used % 8) 0) (leb used size)).0 e).1
