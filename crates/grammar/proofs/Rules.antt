-- The rules of one element at a place are the tests of its own words: no fault is that every test passes, and
-- each test at the place is that of the words.
use Prim.Native.Nat.{ℕ, ◌+◌, ◌-◌, ◌≤◌}
use mathlib.Core.Path.{◌≡◌, refl, sym, ap, ◌∙◌, subst}
use mathlib.Core.Bool.{Bool, true, false, cond, not, ◌&&◌, ◌||◌, false≢true, and-eq-true_iff}
use mathlib.Core.List.{List}
use native.Mathlib.Omega.{arith}
use lib.ListN.{length}
use lib.Dec.{eqb, leb}
use borrow.Author.Tests.{leb-true, le-leb, eqb-true}
use Rattle.headers.specs.Header.{type_at, size_at, extent_at}
use Rattle.kinds.specs.Kinds.{is_header}
use Rattle.elements.specs.Rules.{fixed_ok, extent_ok, fault_of, head_of, count_ok}
use Rattle.elements.specs.declared.Head.{Head}
use Rattle.elements.specs.declared.Head.TheVariants.{Bad, Plain, Complex}
use Rattle.grammar.proofs.Tests.{OwnTests, Extent}
use Rattle.grammar.proofs.Stands.{Stands, stands_word}
use Rattle.elements.proofs.Laws.{Checked, no_fault}
use Rattle.grammar.proofs.Types.{plain_uncounted}
use Rattle.grammar.proofs.Local.{first_local, type_local, size_local, fixed_local, fields_local, floats_local, extent_local, count_local, name_local, linkages_local}

---- what an element is read as

module _ (dim depth under : ℕ) (ws : List ℕ) (at bound : ℕ) where
  -- an answer that is no refusal: all tests passed
  abbrev Read : Head → Type 0
  Read (Bad n) = Unit {0}
  Read (Plain next) = Checked dim depth under ws at bound × (is_header (type_at ws at) ≡ false) × (at + size_at ws at ≡ next)
  Read (Complex inner end) =
      Checked dim depth under ws at bound × (is_header (type_at ws at) ≡ true) × (at + size_at ws at ≡ inner) × (at + extent_at ws at ≡ end)

  read_by : (b : Bool) → eqb (fault_of dim depth under ws at bound) 0 ≡ b → (h : Bool) → is_header (type_at ws at) ≡ h →
      Read (cond b (cond h (Complex (at + size_at ws at) (at + extent_at ws at)) (Plain (at + size_at ws at))) (Bad (fault_of dim depth under ws at bound)))
  read_by true e true f = (no_fault dim depth under ws at bound (eqb-true _ 0 e), f, refl, refl)
  read_by true e false f = (no_fault dim depth under ws at bound (eqb-true _ 0 e), f, refl)
  read_by false e h f = tt

  head_read : Read (head_of dim depth under ws at bound)
  unfolding head_of
  head_read = read_by (eqb (fault_of dim depth under ws at bound) 0) refl (is_header (type_at ws at)) refl

  pub plain_read : (next : ℕ) → head_of dim depth under ws at bound ≡ Plain next →
      Checked dim depth under ws at bound × (is_header (type_at ws at) ≡ false) × (at + size_at ws at ≡ next)
  plain_read next e = subst Read e head_read

  pub complex_read : (inner end : ℕ) → head_of dim depth under ws at bound ≡ Complex inner end →
      Checked dim depth under ws at bound × (is_header (type_at ws at) ≡ true) × (at + size_at ws at ≡ inner) × (at + extent_at ws at ≡ end)
  complex_read inner end e = subst Read e head_read

---- the test of the extent, in numbers

-- a header's extent ends neither before the header does, nor past its room, nor above 65,535 words
abbrev pub EndsBy : Bool → ℕ → ℕ → ℕ → Type 0
EndsBy true size extent room = (size ≤ extent) × (extent ≤ room) × (extent ≤ 65535)
EndsBy false size extent room = Unit {0}

extent_by : (h : Bool) (size extent room : ℕ) → (not h || (leb size extent && (leb extent room && leb extent 65535))) ≡ true → EndsBy h size extent room
extent_by false size extent room e = tt
extent_by true size extent room e =
    let p = (and-eq-true_iff (leb size extent) (leb extent room && leb extent 65535)).0 e in
    let q = (and-eq-true_iff (leb extent room) (leb extent 65535)).0 p.1 in
    (leb-true size extent p.0, leb-true extent room q.0, leb-true extent 65535 q.1)

by_extent : (h : Bool) (size extent room : ℕ) → EndsBy h size extent room → (not h || (leb size extent && (leb extent room && leb extent 65535))) ≡ true
by_extent false size extent room e = refl
by_extent true size extent room e = rw (le-leb size extent e.0, le-leb extent room e.1, le-leb extent 65535 e.2) refl

module _ (ws : List ℕ) (at room : ℕ) where
  pub extent_is : extent_ok ws at room ≡ true → (size_at ws at ≤ 65535) × EndsBy (is_header (type_at ws at)) (size_at ws at) (extent_at ws at) room
  unfolding extent_ok
  extent_is e =
      let p = (and-eq-true_iff (leb (size_at ws at) 65535) _).0 e in
      (leb-true (size_at ws at) 65535 p.0, extent_by (is_header (type_at ws at)) (size_at ws at) (extent_at ws at) room p.1)

  pub is_extent : size_at ws at ≤ 65535 → EndsBy (is_header (type_at ws at)) (size_at ws at) (extent_at ws at) room → extent_ok ws at room ≡ true
  unfolding extent_ok
  is_extent l e = rw (le-leb (size_at ws at) 65535 l) (by_extent (is_header (type_at ws at)) (size_at ws at) (extent_at ws at) room e)

-- a type without a count is never wrong in it
count_free : (ws : List ℕ) (at n : ℕ) → is_header (type_at ws at) ≡ false → count_ok ws at n ≡ true
unfolding count_ok
count_free ws at n h = rw (plain_uncounted (type_at ws at) h) refl

---- from the grammar to the place

-- an element has its first two words
pub own_two : {dim depth under inside n : ℕ} {own : List ℕ} → OwnTests dim depth under own inside n → 2 ≤ length own
own_two o = let z = o.size in omega arith

module _ {dim depth under inside n : ℕ} {own ws : List ℕ} {at : ℕ} (o : OwnTests dim depth under own inside n) (s : Stands own at ws) where
  pub own_type : type_at ws at ≡ type_at own 0
  own_type = type_local own ws at s o.size

  pub own_size : size_at ws at ≡ length own
  own_size = size_local own ws at s o.size

  pub own_extent : is_header (type_at own 0) ≡ true → extent_at ws at ≡ length own + inside
  own_extent h = extent_local own ws at s o.size dim o.fixed h ∙ go (is_header (type_at own 0)) h o.extent
    where
      go : (b : Bool) → b ≡ true → Extent b own inside n → extent_at own 0 ≡ length own + inside
      go true e x = x.0
      go false e x = absurd (false≢true e)

  pub own_count : count_ok ws at n ≡ true
  own_count = count_local own ws at s o.size dim o.fixed n ∙ o.count

  ends_of : (room : ℕ) → length own + inside ≤ room → (b : Bool) → is_header (type_at own 0) ≡ b → Extent b own inside n → EndsBy b (length own) (extent_at ws at) room
  ends_of room l true h x = let e = own_extent h in (omega arith, omega arith, omega arith)
  ends_of room l false h x = tt

  pub own_checked : (bound : ℕ) → at + (length own + inside) ≤ bound → Checked dim depth under ws at bound
  own_checked bound l =
      let z = own_size in
      let m = o.small in
      let two = o.size in
      let w = first_local own ws at s o.size in
      record {
        two = le-leb 2 (bound - at) (omega arith);
        size = le-leb (size_at ws at) (bound - at) (omega arith);
        reserved = rw w o.reserved;
        place = rw w o.place;
        deep = le-leb depth 8 o.deep;
        kind = rw own_type o.kind;
        fixed = fixed_local own ws at s o.size dim ∙ o.fixed;
        fields = fields_local own ws at s o.size dim o.fixed ∙ o.fields;
        extent = is_extent ws at (bound - at) (omega arith) (rw (own_type, own_size) (ends_of (bound - at) (omega arith) (is_header (type_at own 0)) refl o.extent));
        linkages = linkages_local own ws at s o.size dim o.fixed ∙ o.linkages;
        floats = floats_local own ws at s o.size dim o.fixed ∙ o.floats;
        name = name_local own ws at s o.size dim o.fixed ∙ o.name;
      }

---- from the place to the grammar

-- a header that passes its tests ends by its bound
pub checked_extent : {dim depth under : ℕ} {ws : List ℕ} {at bound : ℕ} → Checked dim depth under ws at bound → is_header (type_at ws at) ≡ true →
    EndsBy true (size_at ws at) (extent_at ws at) (bound - at)
checked_extent {ws = ws} {at = at} {bound = bound} c h =
    subst (λ b. EndsBy b (size_at ws at) (extent_at ws at) (bound - at)) h (extent_is ws at (bound - at) c.extent).1

module _ {dim depth under : ℕ} {ws : List ℕ} {at bound : ℕ} (c : Checked dim depth under ws at bound) (own : List ℕ) (s : Stands own at ws) (l : size_at ws at ≡ length own) where
  own_sized : size_at own 0 ≡ length own
  own_sized = ap (λ w. w + 2) (sym (stands_word s 1 (omega arith))) ∙ l

  pub checked_type : type_at ws at ≡ type_at own 0
  checked_type = type_local own ws at s own_sized

  checked_fixed : fixed_ok dim own 0 ≡ true
  checked_fixed = sym (fixed_local own ws at s own_sized dim) ∙ c.fixed

  pub checked_own : (inside n : ℕ) → Extent (is_header (type_at own 0)) own inside n → count_ok ws at n ≡ true → OwnTests dim depth under own inside n
  checked_own inside n x k =
      let w = first_local own ws at s own_sized in
      let z = (extent_is ws at (bound - at) c.extent).0 in
      record {
        size = own_sized;
        reserved = rw w at c.reserved;
        place = rw w at c.place;
        deep = leb-true depth 8 c.deep;
        kind = rw checked_type at c.kind;
        fixed = checked_fixed;
        fields = sym (fields_local own ws at s own_sized dim checked_fixed) ∙ c.fields;
        small = omega arith;
        extent = x;
        linkages = sym (linkages_local own ws at s own_sized dim checked_fixed) ∙ c.linkages;
        floats = sym (floats_local own ws at s own_sized dim checked_fixed) ∙ c.floats;
        name = sym (name_local own ws at s own_sized dim checked_fixed) ∙ c.name;
        count = sym (count_local own ws at s own_sized dim checked_fixed n) ∙ k;
      }

  -- an element that is no header has nothing under it
  pub plain_own : is_header (type_at ws at) ≡ false → OwnTests dim depth under own 0 0
  plain_own h =
      checked_own 0 0 (subst (λ b. Extent b own 0 0) (sym h ∙ ap is_header checked_type) (refl, refl)) (count_free ws at 0 h)

  -- a header's own words, where its extent has them and those inside
  pub header_own : is_header (type_at ws at) ≡ true → (inside n : ℕ) → extent_at ws at ≡ length own + inside → count_ok ws at n ≡ true → OwnTests dim depth under own inside n
  header_own h inside n e k =
      let x = checked_extent c h in
      let y = ap is_header (sym checked_type) ∙ h in
      checked_own inside n
      (subst (λ b. Extent b own inside n) (sym y) (sym (extent_local own ws at s own_sized dim checked_fixed y) ∙ e, omega (arith, x.2)))
      k
