-- Check by check: what the tests before a return say of the checks decides the fault there, and no fault gives the bounds of
-- every sum and, with the type, the answer.
use Prim.Native.Nat.{ℕ, ◌-◌, ◌+◌, ◌≤◌, ◌<◌}
use mathlib.Core.List.{List, [], ◌∷◌, ◌++◌}
use mathlib.Core.Path.{◌≡◌, refl, sym, ap, ◌∙◌}
use native.Mathlib.Omega.{arith}
use lib.Dec.{leb}
use borrow.Author.Tests.{le-leb, lt-leb}
use Rattle.words.specs.Words.{words, word_at}
use Rattle.headers.specs.Header.{type_at, size_at}
use Rattle.kinds.specs.Kinds.{is_header, may_stand}
use Rattle.elements.specs.Attributes.{linkages_ok}
use Rattle.headers.specs.Flags.{reserved_ok, place_ok}
use Rattle.elements.specs.Rules.{fixed_ok, text_fields_ok, curve_floats_ok, content_checks, checks, fault_of}
use Rattle.headers.specs.Checks.{Check, check, first_fault}
use Rattle.headers.proofs.Checks.{pass, stop, tail, first, fault_here, fault_later}
use Rattle.elements.proofs.Laws.{simple_same, element_within, header_within, read_bad, read_plain, read_complex}
use Rattle.elements.proofs.head_at.Goals as goal
use Rattle.elements.proofs.head_at.Goals.{After-header_fault-wrong, After-is_header, After-simple_fault-wrong, After-type_of-t}

---- the call's checks: those of the flags, and those after them

module _ (dim depth under : ℕ) (s : List ℕ) (at bound : ℕ) where
  abbrev flags : List Check
  flags =
      check (reserved_ok (word_at (words s) at)) 4
      ∷ check (place_ok depth (word_at (words s) at)) 5
      ∷ check (leb depth 8) 10
      ∷ []

  abbrev rest : List Check
  rest =
      check (may_stand dim under (type_at (words s) at)) 6
      ∷ content_checks dim (words s) at (bound - at)

  -- those of the rest that come before the size
  abbrev before_size : List Check
  before_size =
      check (may_stand dim under (type_at (words s) at)) 6
      ∷ check (fixed_ok dim (words s) at) 7
      ∷ check (text_fields_ok dim (words s) at) 20
      ∷ []

  abbrev number : ℕ
  number = fault_of dim depth under (words s) at bound

  -- no two words stand before the bound
  no_room : bound - at < 2 → 3 ≡ number
  unfolding fault_of
  no_room l = first (checks dim depth under (words s) at bound) (stop (lt-leb 2 (bound - at) l))

  -- two do, and the size is past the bound
  too_long : (w : ℕ) → 2 ≤ bound → at ≤ bound - 2 → w ≡ word_at (words s) (at + 1) → bound - at < w + 2 → 3 ≡ number
  unfolding fault_of
  too_long w l m e h =
      first (checks dim depth under (words s) at bound)
      (pass (le-leb 2 (bound - at) (omega arith)) (stop (simp (sym e, lt-leb _ _ h))))

  -- the size is not: the checks after the two of number 3 decide
  decide : (w : ℕ) → 2 ≤ bound → at ≤ bound - 2 → w ≡ word_at (words s) (at + 1) → w + 2 ≤ bound - at → {n : ℕ} → n ≡ first_fault (flags ++ rest) → n ≡ number
  unfolding fault_of
  decide w l m e h f =
      first (checks dim depth under (words s) at bound)
      (pass (le-leb 2 (bound - at) (omega arith)) (pass (simp (sym e, le-leb _ _ h)) (tail _ f)))

-- where the flags have no fault, the rest decides
settle : (c : After-type_of-t) {n : ℕ} → n ≡ first_fault (rest c.args.dim c.args.depth c.args.under c.args.s.now c.args.at c.args.bound) → n ≡ number c.args.dim c.args.depth c.args.under c.args.s.now c.args.at c.args.bound
settle c e =
    let a = c.args in
    decide a.dim a.depth a.under a.s.now a.at a.bound _ c.if-bound-lt2.false c.if-bound-at.false c.word-size.ensures.is c.if-room-size.false
    (fault_later
    (flags a.dim a.depth a.under a.s.now a.at a.bound) (rest a.dim a.depth a.under a.s.now a.at a.bound) _ refl
    (sym c.if-flagged-ne0.false ∙ (rw c.word-w.ensures.is at c.flag_fault-flagged.ensures)) e)

-- the type and the size that were read
typed : (c : After-type_of-t) → c.type_of-t.result ≡ type_at (words c.args.s.now) c.args.at
typed c = rw c.word-w.ensures.is at c.type_of-t.ensures

sized : (c : After-type_of-t) → c.word-size.result + 2 ≡ size_at (words c.args.s.now) c.args.at
sized c = ap (λ (n : ℕ). n + 2) c.word-size.ensures.is

-- what is_header answers, of the element
kind : (c : After-is_header) → c.is_header.result ≡ is_header (type_at (words c.args.s.now) c.args.at)
kind c =
    let typed = rw c.word-w.ensures.is at c.type_of-t.ensures in
    rw typed at c.is_header.ensures

-- what header_fault and simple_fault answer
headed : (c : After-header_fault-wrong) → c.header_fault-wrong.result ≡ first_fault (rest c.args.dim c.args.depth c.args.under c.args.s.now c.args.at c.args.bound)
headed c =
    let typed = rw c.word-w.ensures.is at c.type_of-t.ensures in
    rw typed at c.header_fault-wrong.ensures

simple : (c : After-simple_fault-wrong) → c.is_header.result ≡ is_header (type_at (words c.args.s.now) c.args.at) → c.simple_fault-wrong.result ≡ first_fault (rest c.args.dim c.args.depth c.args.under c.args.s.now c.args.at c.args.bound)
simple c k =
    let a = c.args in
    let ws = words a.s.now in
    let typed = rw c.word-w.ensures.is at c.type_of-t.ensures in
    let sized : c.word-size.result + 2 ≡ size_at ws a.at = ap (λ (n : ℕ). n + 2) c.word-size.ensures.is in
    (rw (typed, sized) at c.simple_fault-wrong.ensures)
    ∙ simple_same ws a.at (a.bound - a.at) (before_size a.dim a.depth a.under a.s.now a.at a.bound) (linkages_ok a.dim ws a.at) (curve_floats_ok a.dim ws a.at) (sym k ∙ c.if-is_header.false)

pub returns-then-bound-lt2 : goal.returns-then-bound-lt2
returns-then-bound-lt2 c =
    let a = c.args in
    read_bad a.dim a.depth a.under a.s.now a.at a.bound _ (no_room a.dim a.depth a.under a.s.now a.at a.bound (omega arith)) (λ e. omega arith)

pub returns-then-bound-at : goal.returns-then-bound-at
returns-then-bound-at c =
    let a = c.args in
    read_bad a.dim a.depth a.under a.s.now a.at a.bound _ (no_room a.dim a.depth a.under a.s.now a.at a.bound (omega (arith, c.if-bound-at.true))) (λ e. omega arith)

pub returns-then-room-size : goal.returns-then-room-size
returns-then-room-size c =
    let a = c.args in
    read_bad a.dim a.depth a.under a.s.now a.at a.bound _
    (too_long a.dim a.depth a.under a.s.now a.at a.bound _ c.if-bound-lt2.false c.if-bound-at.false c.word-size.ensures.is c.if-room-size.true)
    (λ e. omega arith)

pub returns-then-flagged-ne0 : goal.returns-then-flagged-ne0
returns-then-flagged-ne0 c =
    let a = c.args in
    read_bad a.dim a.depth a.under a.s.now a.at a.bound _
    (decide a.dim a.depth a.under a.s.now a.at a.bound _ c.if-bound-lt2.false c.if-bound-at.false c.word-size.ensures.is c.if-room-size.false
    (fault_here
    (flags a.dim a.depth a.under a.s.now a.at a.bound) (rest a.dim a.depth a.under a.s.now a.at a.bound) _
    (rw c.word-w.ensures.is at c.flag_fault-flagged.ensures) c.if-flagged-ne0.true))
    c.if-flagged-ne0.true

pub header_fault-wrong-requires : goal.header_fault-wrong-requires
header_fault-wrong-requires c = record {
  t_value = (typed (goal.at.header_fault-wrong-requires c).After-type_of-t, sized (goal.at.header_fault-wrong-requires c).After-type_of-t);
  t_value_2 = (sym c.is_header.ensures ∙ c.if-is_header.true, omega arith);
}

pub returns-then-wrong-ne0 : goal.returns-then-wrong-ne0
returns-then-wrong-ne0 c =
    let a = c.args in
    read_bad a.dim a.depth a.under a.s.now a.at a.bound _
    (settle (goal.at.returns-then-wrong-ne0 c).After-type_of-t (headed (goal.at.returns-then-wrong-ne0 c).After-header_fault-wrong))
    c.if-wrong-ne0.true

pub overflow_add-at-then-is_header : goal.overflow_add-at-then-is_header
overflow_add-at-then-is_header c =
    let a = c.args in
    let p = goal.at.overflow_add-at-then-is_header c in
    let z = sym (settle p.After-type_of-t (headed p.After-header_fault-wrong)) ∙ c.if-wrong-ne0.false in
    omega (
      arith,
      element_within a.dim a.depth a.under (words a.s.now) a.at a.bound z,
      header_within a.dim a.depth a.under (words a.s.now) a.at a.bound z (sym (kind p.After-is_header) ∙ c.if-is_header.true),
    )

pub overflow_add-end-then-is_header : goal.overflow_add-end-then-is_header
overflow_add-end-then-is_header c =
    let a = c.args in
    let p = goal.at.overflow_add-end-then-is_header c in
    let z = sym (settle p.After-type_of-t (headed p.After-header_fault-wrong)) ∙ c.if-wrong-ne0.false in
    omega (
      arith,
      c.word-total.ensures.is,
      header_within a.dim a.depth a.under (words a.s.now) a.at a.bound z (sym (kind p.After-is_header) ∙ c.if-is_header.true),
    )

pub returns-then-is_header : goal.returns-then-is_header
returns-then-is_header c =
    let a = c.args in
    let p = goal.at.returns-then-is_header c in
    let z = sym (settle p.After-type_of-t (headed p.After-header_fault-wrong)) ∙ c.if-wrong-ne0.false in
    rw (c.word-size.ensures.is, c.word-total.ensures.is)
    (read_complex a.dim a.depth a.under a.s.now a.at a.bound z (sym (kind p.After-is_header) ∙ c.if-is_header.true))

pub simple_fault-wrong-requires : goal.simple_fault-wrong-requires
simple_fault-wrong-requires c = record {
  t_value = (typed (goal.at.simple_fault-wrong-requires c).After-type_of-t, sized (goal.at.simple_fault-wrong-requires c).After-type_of-t);
  t_value_2 = (sym c.is_header.ensures ∙ c.if-is_header.false, omega arith);
}

pub returns-then-wrong-ne0-2 : goal.returns-then-wrong-ne0-2
returns-then-wrong-ne0-2 c =
    let a = c.args in
    let p = goal.at.returns-then-wrong-ne0-2 c in
    read_bad a.dim a.depth a.under a.s.now a.at a.bound _
    (settle p.After-type_of-t (simple p.After-simple_fault-wrong (kind p.After-is_header)))
    c.if-wrong-ne0-2.true

pub returns : goal.returns
returns c =
    let a = c.args in
    let p = goal.at.returns c in
    rw c.word-size.ensures.is
    (read_plain a.dim a.depth a.under a.s.now a.at a.bound
    (sym (settle p.After-type_of-t (sym c.if-wrong-ne0-2.false ∙ simple p.After-simple_fault-wrong (kind p.After-is_header)))) (sym (kind p.After-is_header) ∙ c.if-is_header.false))
