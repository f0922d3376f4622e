-- What a function that writes an element leaves, by its own checks and by what the writer answers. Every refusal of the writer is
-- small: its number and its place can be taken apart again.
use Prim.Native.Nat.{ℕ, ◌%◌, ◌≤◌, ◌<◌}
use mathlib.Core.Path.{◌≡◌, refl, sym, ap, subst}
use mathlib.Core.Bool.{Bool, true, false, cond, ◌&&◌}
use mathlib.Core.List.{List}
use native.Mathlib.Omega.{arith}
use lib.ListN.{length}
use lib.Dec.{eqb, leb}
use lib.IntN.{ℤ}
use borrow.Author.Tests.{eqb-true, eqb-false, le-leb, lt-leb}
use Rattle.std.specs.Prelude.{Err, None, Ok, Result, Some}
use Rattle.fields.specs.declared.Fields.{Fields}
use Rattle.writer.specs.Writing.{written_by, WritesBy}
use Rattle.answers.specs.Answers.{refuse, Replied, SmallReply}
use Rattle.answers.proofs.Laws.{too_short, answered}
use Rattle.refusals.specs.Refusals.{refused_with}
use Rattle.refusals.specs.declared.Refusal.{Refusal}
use Rattle.write_answers.specs.Writing.{natural_at, fields_given, fields_of, given_in, write_reply, cut_reply, WroteBy}

-- header fields are sixteen numbers
pub given_sixteen : (f : List ℤ) → fields_given f ≡ true → length f ≡ 16
unfolding fields_given
given_sixteen f = go (eqb (length f) 16) refl
  where
    go : (b : Bool) → eqb (length f) 16 ≡ b → (b && (leb (natural_at f 2) 1 && leb (natural_at f 3) 1)) ≡ true → length f ≡ 16
    go true e h = eqb-true (length f) 16 e
    go false e h = let z : ◌≡◌ {A = ℕ} 0 1 = cc in absurd (omega arith)

-- what a slice is, by what is found of it
pub given_is : (f : List ℤ) (g : Fields) → given_in f ≡ Some g → (fields_given f ≡ true) × (g ≡ fields_of f)
given_is f g e = go (fields_given f) refl e
  where
    go : (b : Bool) → fields_given f ≡ b → cond b (Some (fields_of f)) None ≡ Some g → (fields_given f ≡ true) × (g ≡ fields_of f)
    go true q e = (q, cc)
    go false q e = let z : ◌≡◌ {A = ℕ} 0 1 = cc in absurd (omega arith)

pub given_not : (f : List ℤ) → given_in f ≡ None → fields_given f ≡ false
given_not f e = go (fields_given f) refl e
  where
    go : (b : Bool) → fields_given f ≡ b → cond b (Some (fields_of f)) None ≡ None → fields_given f ≡ false
    go true q e = let z : ◌≡◌ {A = ℕ} 0 1 = cc in absurd (omega arith)
    go false q e = q

---- small refusals

-- the number of a fault is one of the table's
abbrev pub Table : ℕ → Type 0
Table k = (k ≡ 0 → ⊥) → k ≤ 22

pub by_table : (k size : ℕ) → Table k → SmallReply (write_reply (written_by k size))
by_table k size h = go (eqb k 0) refl
  where
    go : (b : Bool) → eqb k 0 ≡ b → SmallReply (write_reply (cond b (Ok size) (refused_with k 0)))
    go true e = tt
    go false e = let x = eqb-false k 0 e in let l = h x in (omega arith, l, omega arith)

-- so it loses nothing by the cut
small_cut : (r : Result ℕ Refusal) → SmallReply (write_reply r) → cut_reply r ≡ write_reply r
small_cut (Ok words) h = refl
small_cut (Err refusal) h =
    let number : refusal.number % 256 ≡ refusal.number = omega arith in
    let place : refusal.place % 72057594037927936 ≡ refusal.place = omega arith in
    rw (number, place) refl

---- the function

module _ (fault size : ℕ) (ws buffer out : List ℕ) where
  -- no room for the answer
  pub not_answered : length out < 1 → WroteBy fault size ws buffer out 1 buffer out
  not_answered h = record { answer = too_short 1 _ out h; bytes = simp (lt-leb 1 (length out) h) }

  -- the function's own refusal
  pub not_given : fault ≡ 1 → 1 ≤ length out → WroteBy fault size ws buffer out 1 buffer out
  not_given e h = record {
    answer = answered 1 _ (refuse 1 0) out (ap (λ k. write_reply (written_by k size)) e) h;
    bytes = simp (le-leb 1 (length out) h, e);
  }

  -- the writer's own answer
  pub written : (own : ℕ) (r : Result ℕ Refusal) (n : ℕ) (last t : List ℕ) → fault ≡ own → Table own → 1 ≤ length out → WritesBy own size ws buffer r last → Replied 1 (cut_reply r) out n t →
      WroteBy fault size ws buffer out n last t
  written own r n last t e k h w a =
      let s : SmallReply (write_reply r) = subst (λ x. SmallReply (write_reply x)) (sym w.answer) (by_table own size k) in
      record {
        answer = rw (small_cut r s, w.answer, ← e) at a;
        bytes = simp (le-leb 1 (length out) h, e) w.bytes;
      }
