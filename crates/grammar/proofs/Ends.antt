-- Where a list of elements ends, and that no element begins with the marker's word.
use Prim.Native.Nat.{ℕ, zero, suc, ◌+◌, ◌≤◌, ◌<◌}
use mathlib.Core.Path.{◌≡◌, refl, sym, ◌∙◌, subst}
use mathlib.Core.Bool.{Bool, true, false, cond, ◌&&◌, false≢true}
use mathlib.Core.List.{List}
use native.Mathlib.Omega.{arith}
use lib.ListN.{length}
use lib.Dec.{eqb, ltb, eqb-suc-zero}
use borrow.Author.Tests.{ltb-true, ltb-false, lt-ltb, le-ltb, eqb-true, eqb-false, ne_eqb}
use Rattle.words.specs.Words.{word_at}
use Rattle.headers.specs.Flags.{reserved_ok}
use Rattle.files.specs.Ends.{stop_of}
use Rattle.grammar.specs.FirstFault.{Due}
use Rattle.files.specs.declared.Stop.{Stop}
use Rattle.files.specs.declared.Stop.TheVariants.{More, Done, Lacking}
use Rattle.grammar.proofs.Tests.{OwnTests}
use Rattle.grammar.proofs.Stands.{Stands, stands_first}
use Rattle.grammar.proofs.Rules.{own_two}

-- at the top at the word 65535, before the bound; under a header at the bound
abbrev pub Ends : ℕ → List ℕ → ℕ → ℕ → Type 0
Ends zero ws at bound = (at < bound) × (word_at ws at ≡ 65535)
Ends (suc depth) ws at bound = at ≡ bound

pub ends_by : (depth : ℕ) (ws : List ℕ) (at bound : ℕ) → Ends depth ws at bound → at ≤ bound
ends_by zero ws at bound e = omega arith
ends_by (suc depth) ws at bound e = omega arith

pub ends_stop : (depth : ℕ) (ws : List ℕ) (at bound : ℕ) → Ends depth ws at bound → stop_of depth ws at bound ≡ Done
unfolding stop_of
ends_stop zero ws at bound e = rw (lt-ltb at bound e.0, e.1) refl
ends_stop (suc depth) ws at bound e = rw (le-ltb at bound (omega arith), eqb-suc-zero depth) refl

-- what stands where a list of elements may end: an element, the list's end, or nothing where something is due
abbrev pub Stopped : ℕ → List ℕ → ℕ → ℕ → Stop → Type 0
Stopped depth ws at bound More = Due depth ws at bound
Stopped depth ws at bound Done = at ≤ bound → Ends depth ws at bound
Stopped depth ws at bound Lacking = at ≤ bound → (depth ≡ 0) × (bound ≡ at)

module _ (ws : List ℕ) (at bound : ℕ) where
  stopped_by : (depth : ℕ) (a : Bool) → ltb at bound ≡ a → (m : Bool) → eqb (word_at ws at) 65535 ≡ m →
      Stopped depth ws at bound (cond a (cond (eqb depth 0 && m) Done More) (cond (eqb depth 0) Lacking Done))
  stopped_by zero true e true f = λ l. (ltb-true at bound e, eqb-true _ 65535 f)
  stopped_by zero true e false f = (ltb-true at bound e, eqb-false _ 65535 f)
  stopped_by zero false e m f = λ l. let g = ltb-false at bound e in (refl, omega arith)
  stopped_by (suc depth) true e m f = rw (eqb-suc-zero depth) (ltb-true at bound e)
  stopped_by (suc depth) false e m f = rw (eqb-suc-zero depth) (λ l. let g = ltb-false at bound e in omega arith)

pub stopped : (depth : ℕ) (ws : List ℕ) (at bound : ℕ) (s : Stop) → stop_of depth ws at bound ≡ s → Stopped depth ws at bound s
unfolding stop_of
stopped depth ws at bound s e = subst (Stopped depth ws at bound) e (stopped_by ws at bound depth (ltb at bound) refl (eqb (word_at ws at) 65535) refl)

pub stop_ends : (depth : ℕ) (ws : List ℕ) (at bound : ℕ) → stop_of depth ws at bound ≡ Done → at ≤ bound → Ends depth ws at bound
stop_ends depth ws at bound e l = stopped depth ws at bound Done e l

-- and where an element is due, one is read
pub due_more : (depth : ℕ) (ws : List ℕ) (at bound : ℕ) → Due depth ws at bound → stop_of depth ws at bound ≡ More
unfolding stop_of
due_more zero ws at bound d = rw (lt-ltb at bound d.0, ne_eqb (word_at ws at) 65535 d.1) refl
due_more (suc depth) ws at bound d = rw (lt-ltb at bound d, eqb-suc-zero depth) refl

-- at the end of the words of a file something is due
pub end_lacking : (ws : List ℕ) (at : ℕ) → stop_of 0 ws at at ≡ Lacking
unfolding stop_of
end_lacking ws at = rw (le-ltb at at (omega arith)) refl

-- no element begins with the marker's word: bit 6 of 65535 is set, and its type, 127, is not 9
pub own_not_marker : {dim depth under inside n : ℕ} {own : List ℕ} → OwnTests dim depth under own inside n → word_at own 0 ≡ 65535 → ⊥
unfolding reserved_ok
own_not_marker o e = false≢true (rw e at o.reserved)

-- where an element stands, its list does not end
pub own_more : {dim depth under inside n : ℕ} {own ws : List ℕ} {at : ℕ} → OwnTests dim depth under own inside n → Stands own at ws → (bound : ℕ) → at + length own ≤ bound →
    stop_of depth ws at bound ≡ More
unfolding stop_of
own_more {depth = depth} {own = own} {ws = ws} {at = at} o s bound l =
    let z = own_two o in
    let m = ne_eqb (word_at ws at) 65535 (λ e. own_not_marker o (sym (stands_first s (omega arith)) ∙ e)) in
    rw (lt-ltb at bound (omega arith), m) (go (eqb depth 0))
  where
    go : (b : Bool) → cond (b && false) Done More ≡ More
    go true = refl
    go false = refl
