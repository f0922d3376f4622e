-- The rules of one element's own words as the tests that judging makes of them: what the proofs about places, edits and the
-- writer work with. They are the grammar's rules, by proofs/Meaning.
use Prim.Native.Nat.{ℕ, ◌+◌, ◌≤◌}
use mathlib.Core.Path.{◌≡◌}
use mathlib.Core.Bool.{Bool, true, false}
use mathlib.Core.List.{List}
use lib.ListN.{length}
use Rattle.words.specs.Words.{word_at}
use Rattle.kinds.specs.Kinds.{is_header, may_stand}
use Rattle.headers.specs.Header.{type_at, size_at, extent_at}
use Rattle.headers.specs.Flags.{reserved_ok, place_ok}
use Rattle.elements.specs.Attributes.{linkages_ok}
use Rattle.elements.specs.Rules.{fixed_ok, text_fields_ok, curve_floats_ok, stored_name_ok, count_ok}

-- the extent of a header, and of any other element
abbrev pub Extent : Bool → List ℕ → ℕ → ℕ → Type 0
Extent true own inside n = (extent_at own 0 ≡ length own + inside) × (length own + inside ≤ 65535)
Extent false own inside n = (inside ≡ 0) × (n ≡ 0)

pub record OwnTests (dim depth under : ℕ) (own : List ℕ) (inside n : ℕ) : Type 0 where
  pub size : size_at own 0 ≡ length own
  pub reserved : reserved_ok (word_at own 0) ≡ true
  pub place : place_ok depth (word_at own 0) ≡ true
  pub deep : depth ≤ 8
  pub kind : may_stand dim under (type_at own 0) ≡ true
  pub fixed : fixed_ok dim own 0 ≡ true
  pub fields : text_fields_ok dim own 0 ≡ true
  pub small : length own ≤ 65535
  pub extent : Extent (is_header (type_at own 0)) own inside n
  pub linkages : linkages_ok dim own 0 ≡ true
  pub floats : curve_floats_ok dim own 0 ≡ true
  pub name : stored_name_ok own 0 ≡ true
  pub count : count_ok own 0 n ≡ true
