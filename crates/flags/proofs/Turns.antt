-- A turn of the loops over elements: what is counted, read or put from the next one on, with this one before it, is that from this one on.
use Prim.Native.Nat.{ℕ, zero, suc, ◌+◌, ◌-◌, ◌*◌, ◌/◌, ◌%◌, ◌^◌, ◌≤◌, ◌<◌}
use mathlib.Core.Path.{◌≡◌, refl, sym, ap, ◌∙◌}
use mathlib.Core.Bool.{Bool, true, false}
use mathlib.Core.List.{List}
use native.Mathlib.Omega.{arith}
use native.Mathlib.Nat.{mul-add, mul_assoc, mul-suc, pow-succ', div-eq_of_lt, div-add-mod, mod-lt}
use lib.ListN.{length}
use Rattle.std.proofs.lemmas.Nat.{pow_pos}
use lib.Dec.{eqb, ltb}
use borrow.Author.Tests.{eq-eqb, ne_eqb, ltb-true, ltb-false, lt-ltb, le-ltb, le-leb, lt-leb}
use Rattle.words.specs.Words.{words, word_at}
use Rattle.words.proofs.Laws.{length_words}
use Rattle.kinds.specs.FirstWord.{bit, deleted_of}
use Rattle.headers.specs.Header.{size_at}
use Rattle.edits.specs.Bits.{digits, binary, flag_size, flags_ok}
use Rattle.edits.specs.Edits.{flags_at}
use Rattle.flags.specs.Extents.{places_by, behind_by, places_in, flag_put, flags_put, flags_read}
use Rattle.flags.proofs.Stores.{bit_is, length_flag, same_behind, places_same, behind_same, flags_same}

---- counting

-- there are m places from a place on, by every bound that is enough
abbrev pub Counts : List ℕ → ℕ → ℕ → ℕ → Type 0
Counts ws end at m = (k : ℕ) → end - at < k → length (places_by k ws at end) ≡ m

pub count_end : (ws : List ℕ) (end at : ℕ) → end ≤ at → Counts ws end at 0
unfolding places_by
count_end ws end at h zero l = refl
count_end ws end at h (suc k) l = rw (le-ltb at end h) refl

pub count_turn : (ws : List ℕ) (end at m : ℕ) → at < end → Counts ws end (at + size_at ws at) m → Counts ws end at (suc m)
unfolding places_by
count_turn ws end at m h c zero l = absurd (omega arith)
count_turn ws end at m h c (suc k) l = rw (lt-ltb at end h) (ap suc (c k (omega arith)))

pub count_in : (s : List ℕ) (at end m : ℕ) → end ≤ length s / 2 → Counts (words s) end at m → m ≡ length (places_in (words s) at end)
unfolding places_in
count_in s at end m h c =
    let l = length_words s in
    rw (le-leb end (length (words s)) (omega arith)) (sym (c (suc (end - at)) (omega arith)))

pub count_none : (s : List ℕ) (at end : ℕ) → length s / 2 < end → 0 ≡ length (places_in (words s) at end)
unfolding places_in
count_none s at end h = let l = length_words s in rw (lt-leb end (length (words s)) (omega arith)) refl

---- sixteen elements: their flags read and others put

-- what holds before a turn: `left` flags are still to be put, the lowest bits of `rest`, from `here` on, in the bytes s
pub record Exchanges (s₀ : List ℕ) (at end new : ℕ) (s : List ℕ) (here rest bits weight left : ℕ) : Type 0 where
  pub long : length s ≡ length s₀
  pub few : left ≤ 16
  pub power : weight * 2 ^ left ≡ 65536
  pub small : bits < weight
  pub read : bits + weight * digits (flags_at (places_by left (words s) here end) (words s)) ≡ digits (flags_at (places_by 16 (words s₀) at end) (words s₀))
  pub behind : behind_by left (words s) here end ≡ behind_by 16 (words s₀) at end
  pub put : flags_put (places_by left (words s) here end) (binary left rest) s ≡ flags_put (places_by 16 (words s₀) at end) (binary 16 new) s₀

-- the weights of a flag and of those behind it
weighed : (bits weight f n : ℕ) → bits + weight * f + weight * 2 * n ≡ bits + weight * (f + 2 * n)
weighed bits weight f n =
    let a = mul-add weight f (2 * n) in
    let b = mul_assoc weight 2 n in
    omega arith

less : (b : Bool) (bits weight : ℕ) → bits < weight → bits + weight * bit b < weight * 2
less true bits weight h = omega arith
less false bits weight h = omega arith

-- a weight fits
pub weight_small : (weight n : ℕ) → weight * n ≡ 65536 → weight ≤ 65536
weight_small weight zero e = absurd (omega arith)
weight_small weight (suc n) e = let h = mul-suc weight n in omega arith

pub product_small : (weight w n : ℕ) → weight * n ≡ 65536 → w < 65536 → weight * (w / 32768) ≤ 65536
product_small weight w n e b =
    let h = weight_small weight n e in
    rw (bit_is w b) (go (eqb (deleted_of w) 1) h)
  where
    go : (f : Bool) → weight ≤ 65536 → weight * bit f ≤ 65536
    go true h = omega arith
    go false h = omega arith

pub exchange_begin : (s : List ℕ) (at end new : ℕ) → Exchanges s at end new s at new 0 1 16
exchange_begin s at end new =
    record { long = refl; few = omega arith; power = refl; small = omega arith; read = omega arith; behind = refl; put = refl }

-- the loop is over: the flags and the place behind them are read, and the flags are put
pub record Exchanged (s₀ : List ℕ) (at end new : ℕ) (s : List ℕ) (here bits : ℕ) : Type 0 where
  pub flags : record { next = here; bits = bits } ≡ flags_read 16 (words s₀) at end
  pub bytes : s ≡ flags_put (places_by 16 (words s₀) at end) (binary 16 new) s₀

module _ (s₀ : List ℕ) (at end new : ℕ) (s : List ℕ) (here rest bits weight : ℕ) where
  exchanged : behind_by 16 (words s₀) at end ≡ here → digits (flags_at (places_by 16 (words s₀) at end) (words s₀)) ≡ bits + weight * 0 →
      flags_put (places_by 16 (words s₀) at end) (binary 16 new) s₀ ≡ s → Exchanged s₀ at end new s here bits
  exchanged n r p =
      let q : digits (flags_at (places_by 16 (words s₀) at end) (words s₀)) ≡ bits = omega arith in
      record { flags = rw (n, q) refl; bytes = sym p }

  pub exchange_stop : (left : ℕ) → Exchanges s₀ at end new s here rest bits weight left → end ≤ here → Exchanged s₀ at end new s here bits
  unfolding places_by behind_by
  exchange_stop zero m h = exchanged (sym m.behind) (sym m.read) (sym m.put)
  exchange_stop (suc left) m h =
      let t = le-ltb here end h in
      exchanged (sym (rw t at m.behind)) (sym (rw t at m.read)) (sym (rw t at m.put))

  pub exchange_end : Exchanges s₀ at end new s here rest bits weight 0 → Exchanged s₀ at end new s here bits
  unfolding places_by behind_by
  exchange_end m = exchanged (sym m.behind) (sym m.read) (sym m.put)

  pub exchange_turn : (w left : ℕ) → w ≡ word_at (words s) here → w < 65536 → here < end → Exchanges s₀ at end new s here rest bits weight (suc left) →
      Exchanges s₀ at end new (flag_put (eqb (rest % 2) 1) here s) (here + size_at (words s) here) (rest / 2) (bits + weight * (w / 32768)) (weight * 2) left
  unfolding places_by behind_by
  exchange_turn w left e b h m =
      let d = eqb (rest % 2) 1 in
      let t = lt-ltb here end h in
      let next = here + size_at (words s) here in
      let same = same_behind d here next s (omega arith) in
      let f = bit_is w b in
      let p = pow-succ' 2 left in
      let q = mul_assoc weight 2 (2 ^ left) in
      let n = digits (flags_at (places_by left (words s) next end) (words s)) in
      record {
        long = length_flag d here s ∙ m.long;
        few = let l = m.few in omega arith;
        power = q ∙ ap (λ x. weight * x) (sym p) ∙ m.power;
        small = rw f (less (eqb (deleted_of w) 1) bits weight m.small);
        read =
            ap (λ l. bits + weight * (w / 32768) + weight * 2 * digits l) (flags_same left next end (words (flag_put d here s)) (words s) same)
            ∙ weighed bits weight (w / 32768) n
            ∙ ap (λ x. bits + weight * (x + 2 * n)) (f ∙ ap (λ v. bit (eqb (deleted_of v) 1)) e)
            ∙ rw t at m.read;
        behind = behind_same left next end (words (flag_put d here s)) (words s) same ∙ rw t at m.behind;
        put = ap (λ qs. flags_put qs (binary left (rest / 2)) (flag_put d here s)) (places_same left next end (words (flag_put d here s)) (words s) same) ∙ rw t at m.put;
      }

---- binary digits

-- a digit less
-- a shift by k leaves nothing of a number with at most k digits, and of no other
pub shifted_out : (w k : ℕ) → eqb (w / 2 ^ k) 0 ≡ ltb w (2 ^ k)
shifted_out w k = go (ltb w (2 ^ k)) refl
  where
    go : (t : Bool) → ltb w (2 ^ k) ≡ t → eqb (w / 2 ^ k) 0 ≡ t
    go true e = eq-eqb (w / 2 ^ k) 0 (div-eq_of_lt (ltb-true w (2 ^ k) e))
    go false e = ne_eqb (w / 2 ^ k) 0 (λ z. let q = div-add-mod w (2 ^ k) in let m = mod-lt w (pow_pos k) in omega (arith, ltb-false w (2 ^ k) e, rw z at q))

---- a payload's size, then its spare bits

module _ (s : List ℕ) (n : ℕ) where
  pub ok_size : (k : ℕ) → k ≡ flag_size n → (length s / 2 ≡ k → ⊥) → false ≡ flags_ok n (words s)
  unfolding flags_ok
  ok_size k q h =
      let l = length_words s in
      rw (ne_eqb (length (words s)) (flag_size n) (λ e. h (omega arith))) refl

  pub ok_spare : length s / 2 ≡ flag_size n → (w : ℕ) (b : Bool) → w ≡ word_at (words s) (n / 16) → b ≡ ltb w (2 ^ (n % 16)) → b ≡ flags_ok n (words s)
  unfolding flags_ok
  ok_spare h w b e f =
      let l = length_words s in
      rw (eq-eqb (length (words s)) (flag_size n) (omega arith)) (f ∙ ap (λ v. ltb v (2 ^ (n % 16))) e)
