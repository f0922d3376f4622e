-- Check by check. The counts that are read size the fixed part, and its size bounds the places that are read after it.
use Prim.Native.Nat.{ℕ, ◌≤◌}
use mathlib.Core.Bool.{true}
use mathlib.Core.List.{List, []}
use mathlib.Core.Path.{◌≡◌, refl, sym, ap, ◌∙◌}
use native.Mathlib.Omega.{arith}
use lib.Dec.{leb}
use borrow.Author.Tests.{le-leb, lt-leb}
use Rattle.words.specs.Words.{words}
use Rattle.texts.specs.Texts.{counts_at, text_part, fields_ok}
use Rattle.texts.proofs.Laws.{text_past}
use Rattle.headers.specs.Header.{type_at, size_at}
use Rattle.headers.proofs.Checks.{pass, stop, tail, first}
use Rattle.elements.specs.Attributes.{linkages_ok}
use Rattle.elements.specs.Rules.{fixed_ok, text_fields_ok}
use Rattle.elements.specs.Simple.{simple_checks}
use Rattle.elements.proofs.Laws.{linked_size, linkages_linked, floats_none, text_part_is, text_fixed, text_fields}
use Rattle.elements.proofs.text_fault.Goals as goal
use Rattle.elements.proofs.text_fault.Goals.{After-attributes_ok, After-counted_fields_ok, After-text_part-fixed}

-- the fixed part by the text's counts
abbrev part : ℕ → List ℕ → ℕ → ℕ
part dim ws at = text_part dim (counts_at dim ws at)

-- its check
fixed : (dim : ℕ) (ws : List ℕ) (at size : ℕ) → 17 ≡ type_at ws at → size ≡ size_at ws at → fixed_ok dim ws at ≡ leb (part dim ws at) size
fixed dim ws at size e z = rw z (text_fixed dim ws at e)

-- the counts that were read size it
sized : (c : After-text_part-fixed) → c.text_part-fixed.result ≡ part c.args.dim (words c.args.s.now) c.args.at
sized c =
    let counts = rw c.counts_word-place.ensures at c.word-counts.ensures.is in
    c.text_part-fixed.ensures ∙ ap (text_part c.args.dim) counts

-- the size is right
long : (dim : ℕ) (ws : List ℕ) (at size f : ℕ) → 17 ≡ type_at ws at → size ≡ size_at ws at → f ≡ part dim ws at → f ≤ size → fixed_ok dim ws at ≡ true
long dim ws at size f e z p l = fixed dim ws at size e z ∙ rw (sym p) (le-leb _ _ l)

-- what counted_fields_ok answers is check 20
fielded : (c : After-counted_fields_ok) → c.counted_fields_ok.result ≡ text_fields_ok c.args.dim (words c.args.s.now) c.args.at
unfolding fields_ok
fielded c =
    let counts = rw c.counts_word-place.ensures at c.word-counts.ensures.is in
    (rw counts at c.counted_fields_ok.ensures)
    ∙ sym (text_fields c.args.dim (words c.args.s.now) c.args.at c.requires.0)

-- what attributes_ok answers is check 11
linked : (c : After-attributes_ok) → c.text_part-fixed.result ≡ part c.args.dim (words c.args.s.now) c.args.at → c.attributes_ok.result ≡ linkages_ok c.args.dim (words c.args.s.now) c.args.at
linked c p =
    let ws = words c.args.s.now in
    c.attributes_ok.ensures c.args.dim (p ∙ sym (text_part_is c.args.dim ws c.args.at c.requires.0))
    ∙ sym (linkages_linked c.args.dim ws c.args.at (rw (sym c.requires.0) refl))

pub returns-then-size-place : goal.returns-then-size-place
returns-then-size-place c =
    let a = c.args in
    let ws = words a.s.now in
    let e = c.counts_word-place.ensures in
    let past = text_past a.dim (counts_at a.dim ws a.at) in
    first (simple_checks a.dim ws a.at a.size) (stop (fixed a.dim ws a.at a.size c.requires.0 c.requires.1.0 ∙ lt-leb (part a.dim ws a.at) a.size (omega arith)))

pub returns-then-size-fixed : goal.returns-then-size-fixed
returns-then-size-fixed c =
    let a = c.args in
    let ws = words a.s.now in
    let p = sized (goal.at.returns-then-size-fixed c).After-text_part-fixed in
    first (simple_checks a.dim ws a.at a.size) (stop (fixed a.dim ws a.at a.size c.requires.0 c.requires.1.0 ∙ rw (sym p) (lt-leb _ _ c.if-size-fixed.true)))

pub returns-then-not-counted_fields_ok : goal.returns-then-not-counted_fields_ok
returns-then-not-counted_fields_ok c =
    let a = c.args in
    let ws = words a.s.now in
    let g = goal.at.returns-then-not-counted_fields_ok c in
    first (simple_checks a.dim ws a.at a.size)
    (pass (long a.dim ws a.at a.size _ c.requires.0 c.requires.1.0 (sized g.After-text_part-fixed) c.if-size-fixed.false)
    (stop (sym (fielded g.After-counted_fields_ok) ∙ c.if-not-counted_fields_ok.true)))

pub returns-then-not-size_ok : goal.returns-then-not-size_ok
returns-then-not-size_ok c =
    let a = c.args in
    let ws = words a.s.now in
    let g = goal.at.returns-then-not-size_ok c in
    first (simple_checks a.dim ws a.at a.size)
    (pass (long a.dim ws a.at a.size _ c.requires.0 c.requires.1.0 (sized g.After-text_part-fixed) c.if-size-fixed.false)
    (pass (sym (fielded g.After-counted_fields_ok) ∙ c.if-not-counted_fields_ok.false)
    (stop (sym c.size_ok.ensures ∙ c.if-not-size_ok.true))))

pub attributes_ok-requires : goal.attributes_ok-requires
attributes_ok-requires c =
    let a = c.args in
    let ws = words a.s.now in
    let p = sized (goal.at.attributes_ok-requires c).After-text_part-fixed in
    let n = linked_size a.dim ws a.at 17 c.requires.0 (long a.dim ws a.at a.size _ c.requires.0 c.requires.1.0 p c.if-size-fixed.false) refl in
    let z = c.requires.1.0 in
    record { size_value = z; le_size = (omega arith, c.requires.1.1) }

pub returns-then-not-attributes_ok : goal.returns-then-not-attributes_ok
returns-then-not-attributes_ok c =
    let a = c.args in
    let ws = words a.s.now in
    let g = goal.at.returns-then-not-attributes_ok c in
    let p = sized g.After-text_part-fixed in
    first (simple_checks a.dim ws a.at a.size)
    (pass (long a.dim ws a.at a.size _ c.requires.0 c.requires.1.0 p c.if-size-fixed.false)
    (pass (sym (fielded g.After-counted_fields_ok) ∙ c.if-not-counted_fields_ok.false)
    (pass (sym c.size_ok.ensures ∙ c.if-not-size_ok.false)
    (stop (sym (linked g.After-attributes_ok p) ∙ c.if-not-attributes_ok.true)))))

-- a text has no floats of its own
pub returns : goal.returns
returns c =
    let a = c.args in
    let ws = words a.s.now in
    let g = goal.at.returns c in
    let p = sized g.After-text_part-fixed in
    first (simple_checks a.dim ws a.at a.size)
    (pass (long a.dim ws a.at a.size _ c.requires.0 c.requires.1.0 p c.if-size-fixed.false)
    (pass (sym (fielded g.After-counted_fields_ok) ∙ c.if-not-counted_fields_ok.false)
    (pass (sym c.size_ok.ensures ∙ c.if-not-size_ok.false)
    (pass (sym (linked g.After-attributes_ok p) ∙ c.if-not-attributes_ok.false)
    (pass (floats_none a.dim ws a.at (rw (sym c.requires.0) refl)) (tail [] refl))))))
