-- One step of the walk: whether an element opens a list, and the depth of what follows it, where one list after another
-- is closed, from the inmost out, while each ends there.
use Prim.Native.Nat.{ℕ, zero, suc, ◌-◌, ◌≤◌, ◌<◌}
use mathlib.Core.Path.{◌≡◌, refl, ap, ◌∙◌}
use mathlib.Core.Bool.{Bool, true, false, cond, ◌&&◌, and-eq-true_iff}
use mathlib.Core.List.{List}
use native.Mathlib.Omega.{arith}
use lib.ListN.{length, get_or}
use lib.Dec.{ltb}
use borrow.Author.Tests.{ltb-true, lt-ltb, le-ltb, eq-eqb, ne_eqb}
use Rattle.words.specs.Words.{words}
use Rattle.words.proofs.Laws.{word_out}
use Rattle.headers.specs.Header.{type_at, size_at, extent_at}
use Rattle.kinds.specs.Kinds.{is_header}
use Rattle.walking.specs.declared.Walk.{Walk}
use Rattle.walking.specs.Walk.{closed_to, opens, step_in, step_over, next_of}

---- whether an element opens a list

module _ (ws : List ℕ) (at depth : ℕ) where
  pub opens_deep : 8 ≤ depth → false ≡ opens ws at depth
  unfolding opens
  opens_deep l = rw (le-ltb depth 8 l) refl

  pub opens_by : (b : Bool) → depth < 8 → is_header (type_at ws at) ≡ b → (b && ltb (size_at ws at) (extent_at ws at)) ≡ opens ws at depth
  unfolding opens
  opens_by b l e = rw (lt-ltb depth 8 l, e) refl

  pub opens_shallow : opens ws at depth ≡ true → depth < 8
  unfolding opens
  opens_shallow e = ltb-true depth 8 ((and-eq-true_iff (ltb depth 8) (is_header (type_at ws at) && ltb (size_at ws at) (extent_at ws at))).0 e).0

-- nothing opens one where no word stands
pub opens_out : (s : List ℕ) (at depth : ℕ) → length s ≤ at → false ≡ opens (words s) at depth
unfolding opens
opens_out s at depth h = rw (word_out s at (omega arith)) (go (ltb depth 8))
  where
    go : (a : Bool) → false ≡ (a && false)
    go true = refl
    go false = refl

---- the step

pub next_by : (ws : List ℕ) (w : Walk) (b : Bool) → w.place < length ws → opens ws w.place w.depth ≡ b → cond b (step_in ws w) (step_over ws w) ≡ next_of ws w
unfolding next_of
next_by ws w b l e = rw (lt-ltb w.place (length ws) l, e) refl

-- where no element can be, the walk stays
pub next_past : (ws : List ℕ) (w : Walk) → length ws ≤ w.place → w ≡ next_of ws w
unfolding next_of
next_past ws w l = rw (le-ltb w.place (length ws) l) refl

---- the depth of what follows

-- no list is around the top
pub closed_top : (d : ℕ) (ends : List ℕ) (next : ℕ) → d ≤ 0 → closed_to d ends next ≡ 0
closed_top zero ends next l = refl
closed_top (suc d) ends next l = absurd (omega arith)

-- a list that ends elsewhere stays open
pub closed_here : (d : ℕ) (ends : List ℕ) (next : ℕ) → (get_or ends d 0 ≡ next → ⊥) → closed_to d ends next ≡ d
closed_here zero ends next h = refl
closed_here (suc d) ends next h = rw (ne_eqb (get_or ends (suc d) 0) next h) refl

-- a list that ends there is closed
pub closed_out : (d : ℕ) (ends : List ℕ) (next : ℕ) → get_or ends (suc d) 0 ≡ next → closed_to (suc d) ends next ≡ closed_to d ends next
closed_out d ends next e = rw (eq-eqb (get_or ends (suc d) 0) next e) refl

pub closed_less : (d : ℕ) (ends : List ℕ) (next : ℕ) → 0 < d → get_or ends d 0 ≡ next → closed_to d ends next ≡ closed_to (d - 1) ends next
closed_less zero ends next l e = absurd (omega arith)
closed_less (suc d) ends next l e = let z : d ≡ suc d - 1 = omega arith in closed_out d ends next e ∙ ap (λ k. closed_to k ends next) z

-- two lists of ends say the same of the depths up to d
abbrev pub Same : ℕ → List ℕ → List ℕ → Type 0
Same d a b = (j : ℕ) → j ≤ d → get_or a j 0 ≡ get_or b j 0
