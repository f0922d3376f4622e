-- Check by check.
use Prim.Native.Nat.{ℕ}
use mathlib.Core.Bool.{Bool, true, false, not}
use mathlib.Core.List.{List, [], ◌∷◌}
use mathlib.Core.Path.{◌≡◌, refl, sym, ap, ◌∙◌}
use lib.Dec.{eqb, leb}
use borrow.Author.Tests.{ne_eqb}
use Rattle.kinds.specs.Kinds.{is_unread}
use Rattle.headers.specs.Checks.{Check, check, first_fault}
use Rattle.headers.proofs.Checks.{pass, stop, tail, first}
use Rattle.elements.proofs.raw_fault.Goals as goal

-- the checks of the call
abbrev of : ℕ → ℕ → ℕ → List Check
of under t size = check (not (eqb under 7)) 6 ∷ check (not (is_unread t)) 6 ∷ check (leb size 65535) 8 ∷ []

pub returns-then-under-eq7 : goal.returns-then-under-eq7
returns-then-under-eq7 c = first (of c.args.under c.args.t c.args.size) (stop (simp c.if-under-eq7.true))

pub returns-then-is_unread : goal.returns-then-is_unread
returns-then-is_unread c =
    first (of c.args.under c.args.t c.args.size)
    (pass (simp (ne_eqb _ _ c.if-under-eq7.false)) (stop (ap not (sym c.is_unread.ensures ∙ c.if-is_unread.true))))

-- past the first two, by the third
by : (under t size : ℕ) (b : Bool) → (under ≡ 7 → ⊥) → is_unread t ≡ false → leb size 65535 ≡ b → first_fault (check b 8 ∷ []) ≡ first_fault (of under t size)
by under t size b h u e =
    first (of under t size)
    (pass (simp (ne_eqb _ _ h)) (pass (ap not u) (tail (check (leb size 65535) 8 ∷ []) (rw e refl))))

pub returns-then-not-size_ok : goal.returns-then-not-size_ok
returns-then-not-size_ok c =
    by c.args.under c.args.t c.args.size false c.if-under-eq7.false (sym c.is_unread.ensures ∙ c.if-is_unread.false)
    (sym c.size_ok.ensures ∙ c.if-not-size_ok.true)

pub returns : goal.returns
returns c =
    by c.args.under c.args.t c.args.size true c.if-under-eq7.false (sym c.is_unread.ensures ∙ c.if-is_unread.false)
    (sym c.size_ok.ensures ∙ c.if-not-size_ok.false)
