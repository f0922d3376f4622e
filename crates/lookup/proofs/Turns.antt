-- The loop of the halving rule: what is left to do from its state is what is left of the whole, with any bound on the turns
-- that is enough.
use Prim.Native.Nat.{ℕ, zero, suc, ◌+◌, ◌-◌, ◌/◌, ◌%◌, ◌≤◌, ◌<◌}
use mathlib.Core.Path.{◌≡◌, refl, ap}
use mathlib.Core.Bool.{true, false}
use mathlib.Core.List.{List}
use native.Mathlib.Omega.{arith}
use lib.ListN.{length, get_or, take}
use borrow.Author.Tests.{lt-ltb, le-ltb, eq-eqb, ne_eqb}
use Rattle.names.specs.Names.{packed}
use Rattle.entries.specs.Entries.{entries, entries_ok, name_of}
use Rattle.lookup.specs.declared.Halved.{Halved}
use Rattle.lookup.specs.LookUp.{halving, halved, Ended, missing, name_number, look_up, look_up_of}
use Rattle.finder.specs.Found.{found_with, unlooked}
use Rattle.names.specs.Name.{packed_to}
use Rattle.refusals.specs.Refusals.{refusal_of}
use Rattle.refusals.specs.declared.Refusal.{Refusal}
use Rattle.std.specs.Prelude.{Err}

module _ (es : List ℕ) (name : ℕ) where
  pub IsHalved : ℕ → ℕ → ℕ → Halved → Type 0
  IsHalved low high looks r = (k : ℕ) → high - low ≤ k → r ≡ halving k es name low high looks

  pub record Going (low high looks : ℕ) : Type 0 where
    pub gap : low ≤ high
    pub top : high ≤ length es
    pub few : looks + high ≤ low + length es
    pub passed : (r : Halved) → IsHalved low high looks r → IsHalved 0 (length es) 0 r

  pub start : (n : ℕ) → length es ≡ n → Going 0 n 0
  start n e =
      record {
        gap = omega arith;
        top = omega arith;
        few = omega arith;
        passed = λ r h. rw e h;
      }

  module _ {low high looks : ℕ} (g : Going low high looks) where
    turn_past : (r : Halved) (k : ℕ) → high - low ≤ k → low < high → name_of (get_or es ((low + high) / 2) 0) < name
        → IsHalved ((low + high) / 2 + 1) high (looks + 1) r → r ≡ halving k es name low high looks
    unfolding IsHalved
    turn_past r zero f h n i = absurd (omega arith)
    turn_past r (suc k) f h n i = rw (lt-ltb low high h, lt-ltb (name_of (get_or es ((low + high) / 2) 0)) name n) (i k (omega arith))

    turn_to : (r : Halved) (k : ℕ) → high - low ≤ k → low < high → name ≤ name_of (get_or es ((low + high) / 2) 0)
        → IsHalved low ((low + high) / 2) (looks + 1) r → r ≡ halving k es name low high looks
    unfolding IsHalved
    turn_to r zero f h n i = absurd (omega arith)
    turn_to r (suc k) f h n i = rw (lt-ltb low high h, le-ltb (name_of (get_or es ((low + high) / 2) 0)) name n) (i k (omega arith))

    pub past : {x : ℕ} → low < high → x ≡ get_or es ((low + high) / 2) 0 → x / 4294967296 < name → Going ((low + high) / 2 + 1) high (looks + 1)
    unfolding IsHalved
    past {x} h e n =
        record {
          gap = omega arith;
          top = g.top;
          few = let w = g.few in omega arith;
          passed = λ r i. g.passed r (λ k f. turn_past r k f h (let q = ap name_of e in omega arith) i);
        }

    pub to : {x : ℕ} → low < high → x ≡ get_or es ((low + high) / 2) 0 → name ≤ x / 4294967296 → Going low ((low + high) / 2) (looks + 1)
    unfolding IsHalved
    to {x} h e n =
        record {
          gap = omega arith;
          top = let w = g.top in omega arith;
          few = let w = g.few in omega arith;
          passed = λ r i. g.passed r (λ k f. turn_to r k f h (let q = ap name_of e in omega arith) i);
        }

    stop : (k : ℕ) → high ≤ low → record { low = low; looks = looks } ≡ halving k es name low high looks
    stop zero h = refl
    stop (suc k) h = rw (le-ltb low high h) refl

    pub end : high ≤ low → Ended es name (record { low = low; looks = looks })
    unfolding IsHalved halved
    end h =
        record {
          is = g.passed (record { low = low; looks = looks }) (λ k f. stop k h) (length es) (omega arith);
          few = let w = g.few in let v = g.gap in omega arith;
        }

---- the last look

pub last_found : {es : List ℕ} {name e : ℕ} {h : Halved} → Ended es name h → h.low < length es → e ≡ get_or es h.low 0
    → e / 4294967296 ≡ name → found_with (e % 4294967296) (h.looks + 1) ≡ look_up es name
unfolding look_up
last_found {es} {name} {e} {h} q l r n =
    rw (← q.is, lt-ltb h.low (length es) l, ← r, eq-eqb (e / 4294967296) name n) refl

pub last_other : {es : List ℕ} {name e : ℕ} {h : Halved} → Ended es name h → h.low < length es → e ≡ get_or es h.low 0
    → (e / 4294967296 ≡ name → ⊥) → missing (h.looks + 1) ≡ look_up es name
unfolding look_up
last_other {es} {name} {e} {h} q l r n =
    rw (← q.is, lt-ltb h.low (length es) l, ← r, ne_eqb (e / 4294967296) name n) refl

pub last_none : {es : List ℕ} {name : ℕ} {h : Halved} → Ended es name h → length es ≤ h.low → missing h.looks ≡ look_up es name
unfolding look_up
last_none {es} {name} {h} q l = rw (← q.is, le-ltb h.low (length es) l) refl

---- the call

pub call_bad : (s : List ℕ) (used : ℕ) (t : List ℕ) → entries_ok (length s) used ≡ false → Err (unlooked (refusal_of 1 0)) ≡ look_up_of s used t
unfolding look_up_of
call_bad s used t h = rw h refl

pub call_text : (s : List ℕ) (used : ℕ) (t : List ℕ) (refusal : Refusal) → entries_ok (length s) used ≡ true → packed t ≡ Err refusal → Err (unlooked refusal) ≡ look_up_of s used t
unfolding look_up_of
call_text s used t refusal h e = rw (h, e) refl

pub call_in : (s : List ℕ) (used : ℕ) (t : List ℕ) (a b : ℕ) → entries_ok (length s) used ≡ true → packed t ≡ packed_to a b →
    look_up (entries (take used s)) (name_number a b) ≡ look_up_of s used t
unfolding look_up_of
call_in s used t a b h e = rw (h, e) refl
