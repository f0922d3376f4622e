-- Type 3, and the types with points. Where N is wrong, the answer is above a word and 2.
use Prim.Native.Nat.{ℕ, ◌+◌}
use mathlib.Core.Bool.{Bool, true, false, ◌&&◌, false≢true}
use mathlib.Core.List.{List}
use mathlib.Core.Path.{◌≡◌, sym, ap, ◌∙◌}
use native.Mathlib.Omega.{arith}
use lib.Dec.{leb}
use borrow.Author.Tests.{ne_eqb, le-leb, lt-leb}
use Rattle.words.specs.Words.{words, Below}
use Rattle.words.proofs.Laws.{lent_below, words_below}
use Rattle.kinds.specs.Kinds.{is_pointed, fixed_part}
use Rattle.kinds.proofs.Types.{plain_pointed, pointed_part, pointed_sized}
use Rattle.headers.specs.Header.{type_at, size_at, sizing_at}
use Rattle.elements.specs.Rules.{sized_ok, points_ok, fixed_ok}
use Rattle.elements.proofs.Laws.{plain_fixed, fixed_sized}
use Rattle.elements.proofs.plain_part.Goals as goal
use Rattle.elements.proofs.plain_part.Goals.{After-word-n, Else-t-eq3}

-- N is there and right, where the type has points
abbrev points : ℕ → List ℕ → ℕ → Bool
points dim ws at = sized_ok dim ws at && points_ok ws at

-- what the call is to answer
abbrev Post : ℕ → ℕ → ℕ → List ℕ → ℕ → ℕ → Type 0
Post dim t size ws at r =
    (leb r size ≡ fixed_ok dim ws at) × (fixed_ok dim ws at ≡ true → r ≡ fixed_part dim t (sizing_at dim ws at))

right : (dim t size : ℕ) (ws : List ℕ) (at r : ℕ) → t ≡ type_at ws at → size ≡ size_at ws at → r ≡ fixed_part dim t (sizing_at dim ws at) → points dim ws at ≡ true → Post dim t size ws at r
right dim t size ws at r e z i p = (sym (plain_fixed dim ws at t size e z r i p), λ _. i)

wrong : (dim t size : ℕ) (s : List ℕ) (at : ℕ) → Below 256 s → size ≡ size_at (words s) at → points dim (words s) at ≡ false → Post dim t size (words s) at 65540
wrong dim t size s at b z p =
    let small = words_below s b (at + 1) in
    let f = fixed_sized dim (words s) at false p in
    (lt-leb 65540 size (omega arith) ∙ sym f, λ e. absurd (false≢true (sym f ∙ e)))

-- what is left after type 3 has points, and word 18 sizes it
pointed : (c : Else-t-eq3) → is_pointed c.args.t ≡ true
pointed c =
    let r = c.requires.t_value_2 in
    plain_pointed c.args.t r.0 r.1.0 (ne_eqb _ _ c.if-t-eq3.false) r.1.1.0 r.1.1.1.0

-- the size, and N that was read, decide
sized : (c : Else-t-eq3) → is_pointed c.args.t ≡ true → sized_ok c.args.dim (words c.args.s.now) c.args.at ≡ leb 19 c.args.size
sized c p =
    let z = pointed_sized c.args.dim c.args.t p in
    simp (sym c.requires.t_value.0, sym c.requires.t_value.1, z.0, z.1)

counted : (c : After-word-n) → is_pointed c.args.t ≡ true → sized_ok c.args.dim (words c.args.s.now) c.args.at ≡ leb 19 c.args.size → points c.args.dim (words c.args.s.now) c.args.at ≡ (leb 2 c.word-n.result && leb c.word-n.result 101)
counted c p z =
    rw (z, le-leb 19 c.args.size c.if-size-lt19.false, sym c.requires.t_value.0, p, sym c.word-n.ensures.is)

-- N is the word that sizes the fixed part
sizing : (c : After-word-n) → is_pointed c.args.t ≡ true → sizing_at c.args.dim (words c.args.s.now) c.args.at ≡ c.word-n.result
sizing c p = rw (sym c.requires.t_value.0, (pointed_sized c.args.dim c.args.t p).1) (sym c.word-n.ensures.is)

pub returns-then-t-eq3 : goal.returns-then-t-eq3
unfolding fixed_part
returns-then-t-eq3 c =
    let a = c.args in
    right a.dim a.t a.size (words a.s.now) a.at _ c.requires.t_value.0 c.requires.t_value.1 (rw c.if-t-eq3.true c.pick.ensures) (rw (sym c.requires.t_value.0, c.if-t-eq3.true))

pub returns-then-size-lt19 : goal.returns-then-size-lt19
returns-then-size-lt19 c =
    let g = goal.at.returns-then-size-lt19 c in
    wrong c.args.dim c.args.t c.args.size c.args.s.now c.args.at (lent_below c.args.s.now c.type_inv.s) c.requires.t_value.1
    (rw (sized g.Else-t-eq3 (pointed g.Else-t-eq3), lt-leb 19 c.args.size c.if-size-lt19.true))

pub returns-then-n-lt2 : goal.returns-then-n-lt2
returns-then-n-lt2 c =
    let g = goal.at.returns-then-n-lt2 c in
    let p = pointed g.Else-t-eq3 in
    wrong c.args.dim c.args.t c.args.size c.args.s.now c.args.at (lent_below c.args.s.now c.type_inv.s) c.requires.t_value.1
    (counted g.After-word-n p (sized g.Else-t-eq3 p) ∙ simp (lt-leb 2 c.word-n.result (omega arith)))

pub returns-then-n-gt101 : goal.returns-then-n-gt101
returns-then-n-gt101 c =
    let g = goal.at.returns-then-n-gt101 c in
    let p = pointed g.Else-t-eq3 in
    wrong c.args.dim c.args.t c.args.size c.args.s.now c.args.at (lent_below c.args.s.now c.type_inv.s) c.requires.t_value.1
    (counted g.After-word-n p (sized g.Else-t-eq3 p) ∙ simp (le-leb 2 c.word-n.result (omega arith), lt-leb c.word-n.result 101 (omega arith)))

pub returns : goal.returns
returns c =
    let a = c.args in
    let g = goal.at.returns c in
    let p = pointed g.Else-t-eq3 in
    right a.dim a.t a.size (words a.s.now) a.at _ c.requires.t_value.0 c.requires.t_value.1
    (c.pick-2.ensures ∙ sym (pointed_part a.dim a.t c.word-n.result p) ∙ ap (fixed_part a.dim a.t) (sym (sizing g.After-word-n p)))
    (counted g.After-word-n p (sized g.Else-t-eq3 p) ∙ simp (le-leb 2 c.word-n.result (omega arith), le-leb c.word-n.result 101 (omega arith)))
