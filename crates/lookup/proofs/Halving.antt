-- The halving rule: how often it looks, and where it ends over entries in order.
use Prim.Native.Nat.{ℕ, zero, suc, ◌+◌, ◌-◌, ◌/◌, ◌^◌, ◌≤◌, ◌<◌}
use mathlib.Core.Path.{◌≡◌, refl}
use mathlib.Core.Logic.{⊎_elim}
use mathlib.Core.List.{List}
use native.Mathlib.Omega.{arith}
use native.Mathlib.Nat.{pow-suc}
use lib.ListN.{length, get_or}
use borrow.Author.Tests.{lt-ltb, le-ltb}
use Rattle.entries.specs.Entries.{name_of}
use Rattle.sorting.specs.Order.{Sorted}
use Rattle.sorting.proofs.Laws.{le_or_lt}
use Rattle.lookup.specs.LookUp.{halving, halved}

module _ (es : List ℕ) (name : ℕ) where
  -- the three ways of a turn
  turn_past : (n low high looks : ℕ) → low < high → name_of (get_or es ((low + high) / 2) 0) < name
      → halving (suc n) es name low high looks ≡ halving n es name ((low + high) / 2 + 1) high (looks + 1)
  turn_past n low high looks h g = rw (lt-ltb low high h, lt-ltb (name_of (get_or es ((low + high) / 2) 0)) name g) refl

  turn_to : (n low high looks : ℕ) → low < high → name ≤ name_of (get_or es ((low + high) / 2) 0)
      → halving (suc n) es name low high looks ≡ halving n es name low ((low + high) / 2) (looks + 1)
  turn_to n low high looks h g = rw (lt-ltb low high h, le-ltb (name_of (get_or es ((low + high) / 2) 0)) name g) refl

  turn_none : (n low high looks : ℕ) → high ≤ low → halving n es name low high looks ≡ record { low = low; looks = looks }
  turn_none zero low high looks h = refl
  turn_none (suc n) low high looks h = rw (le-ltb low high h) refl

  -- fewer than 2 ^ d entries need at most d looks
  looks_bound : (n low high looks d : ℕ) → high - low < 2 ^ d → (halving n es name low high looks).looks ≤ looks + d
  looks_bound zero low high looks d h = omega arith
  looks_bound (suc n) low high looks zero h = rw (turn_none (suc n) low high looks (omega arith)) (omega arith)
  looks_bound (suc n) low high looks (suc d) h =
      let p = pow-suc 2 d in
      ⊎_elim
      (λ g. rw (turn_none (suc n) low high looks g) (omega arith))
      (λ g. ⊎_elim
      (λ f. rw (turn_to n low high looks g f) (let r = looks_bound n low ((low + high) / 2) (looks + 1) d (omega arith) in omega arith))
      (λ f. rw (turn_past n low high looks g f) (let r = looks_bound n ((low + high) / 2 + 1) high (looks + 1) d (omega arith) in omega arith))
      (le_or_lt name (name_of (get_or es ((low + high) / 2) 0))))
      (le_or_lt high low)

  -- the entries before `low` have smaller names, those from it on have not
  pub record Parted (low : ℕ) : Type 0 where
    pub top : low ≤ length es
    pub before : (i : ℕ) → i < low → name_of (get_or es i 0) < name
    pub behind : (i : ℕ) → low ≤ i → i < length es → name ≤ name_of (get_or es i 0)

  module _ (s : Sorted es) where
    name_order : (i j : ℕ) → i ≤ j → j < length es → name_of (get_or es i 0) ≤ name_of (get_or es j 0)
    name_order i j h g = let e = s i j h g in omega arith

    ends_parted : (n low high looks : ℕ) → high - low ≤ n → low ≤ high → high ≤ length es
        → ((i : ℕ) → i < low → name_of (get_or es i 0) < name) → ((i : ℕ) → high ≤ i → i < length es → name ≤ name_of (get_or es i 0))
        → Parted (halving n es name low high looks).low
    ends_parted zero low high looks f g t b c = record { top = omega arith; before = b; behind = λ i h k. c i (omega arith) k }
    ends_parted (suc n) low high looks f g t b c =
        ⊎_elim
        (λ h. rw (turn_none (suc n) low high looks h) (record { top = omega arith; before = b; behind = λ i u k. c i (omega arith) k }))
        (λ h. ⊎_elim
        (λ m. rw (turn_to n low high looks h m)
        (ends_parted n low ((low + high) / 2) (looks + 1) (omega arith) (omega arith) (omega arith) b
        (λ i u k. let w = name_order ((low + high) / 2) i u k in omega arith)))
        (λ m. rw (turn_past n low high looks h m)
        (ends_parted n ((low + high) / 2 + 1) high (looks + 1) (omega arith) (omega arith) t
        (λ i u. let w = name_order i ((low + high) / 2) (omega arith) (omega arith) in omega arith) c))
        (le_or_lt name (name_of (get_or es ((low + high) / 2) 0))))
        (le_or_lt high low)

pub halved_bound : (es : List ℕ) (name d : ℕ) → length es < 2 ^ d → (halved es name).looks ≤ d
unfolding halved
halved_bound es name d h = let r = looks_bound es name (length es) 0 (length es) 0 d (omega arith) in omega arith

pub halved_parted : (es : List ℕ) (name : ℕ) → Sorted es → Parted es name (halved es name).low
unfolding halved
halved_parted es name s =
    ends_parted es name s (length es) 0 (length es) 0 (omega arith) (omega arith) (omega arith) (λ i h. absurd (omega arith)) (λ i h g. absurd (omega arith))
