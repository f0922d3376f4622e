-- All fields are right where those from number k on are; one field is judged at each turn (`first_field`).
use Prim.Native.Nat.{◌+◌, ◌-◌, ◌*◌}
use mathlib.Core.Bool.{Bool, true, false, ◌&&◌}
use mathlib.Core.Path.{◌≡◌, refl, sym, ap, ◌∙◌}
use native.Mathlib.Omega.{arith}
use borrow.Author.Tests.{leb-true}
use Rattle.words.specs.Words.{words}
use Rattle.texts.specs.Texts.{each_field_ok}
use Rattle.texts.proofs.Laws.{first_field}
use Rattle.texts.proofs.each_field_ok.Goals as goal
use Rattle.texts.proofs.each_field_ok.Goals.{After-field_ok}

-- all fields of the call, and those behind the field here
abbrev all : After-field_ok → Bool
all c = let a = c.args in each_field_ok a.n a.c (words a.s.now) 0 a.j

abbrev others : After-field_ok → Bool
others c = each_field_ok (c.args.n - (c.loop-k.k + 1)) c.args.c (words c.args.s.now) 0 (c.args.j + 3 * (c.loop-k.k + 1))

-- all fields are right where the field here and those behind it are
judged : (c : After-field_ok) (b : Bool) → c.field_ok.result ≡ b → all c ≡ (b && others c)
judged c b e =
    let m : c.args.n - c.loop-k.k - 1 ≡ c.args.n - (c.loop-k.k + 1) = omega arith in
    let i : c.args.j + 3 * c.loop-k.k + 3 ≡ c.args.j + 3 * (c.loop-k.k + 1) = omega arith in
    c.loop-k.invariant.rest
    ∙ first_field _ c.args.c (words c.args.s.now) 0 _ (λ z. omega arith)
    ∙ rw (m, i) (ap (λ (t : Bool). t && others c)
    (sym (rw (c.known_byte-first.ensures, c.known_byte-size.ensures, c.known_byte-justification.ensures) at c.field_ok.ensures) ∙ e))

pub loop-k-init : goal.loop-k-init
loop-k-init c =
    let m : c.args.n - 0 ≡ c.args.n = omega arith in
    let i : c.args.j + 0 ≡ c.args.j = omega arith in
    record { rest = rw (m, i) refl; there = leb-true _ _ }

pub known_byte-first-requires : goal.known_byte-first-requires
known_byte-first-requires c = λ e. let all = c.loop-k.invariant.there e in omega arith

pub known_byte-size-requires : goal.known_byte-size-requires
known_byte-size-requires c = λ e. let all = c.loop-k.invariant.there e in omega arith

pub known_byte-justification-requires : goal.known_byte-justification-requires
known_byte-justification-requires c = λ e. let all = c.loop-k.invariant.there e in omega arith

pub returns-then-not-field_ok : goal.returns-then-not-field_ok
returns-then-not-field_ok c = sym (judged (goal.at.returns-then-not-field_ok c).After-field_ok false (c.if-not-field_ok.true))

pub loop-k-preserved : goal.loop-k-preserved
loop-k-preserved c = record { rest = judged (goal.at.loop-k-preserved c).After-field_ok true (c.if-not-field_ok.false); there = c.loop-k.invariant.there }

pub returns : goal.returns
unfolding each_field_ok
returns c = let z : c.args.n - c.loop-k.k ≡ 0 = omega arith in sym (c.loop-k.invariant.rest ∙ rw z)
