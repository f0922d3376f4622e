-- An accepted file's used words as a tree, and what is shown of one edit: it keeps the file accepted, its record's
-- reversal is allowed, and the reversal gives the words back.
use Prim.Native.Nat.{ℕ, ◌<◌, ◌≤◌}
use mathlib.Core.Path.{◌≡◌}
use mathlib.Core.Bool.{true}
use mathlib.Core.List.{List, [], ◌∷◌, ◌++◌}
use mathlib.Core.Option.{Option, none, some}
use lib.ListN.{length}
use Rattle.words.specs.Words.{Below}
use Rattle.grammar.proofs.Forest.{Forest, flat, Wf}
use Rattle.edits.specs.Edits.{Edit, mark, rename, insert, remove, restore, apply}
use Rattle.edits.specs.Allowed.{fine, edit_fault}
use Rattle.edits.specs.Records.{Rec, flag, renamed, inserted, removed, record_of, reversal, reversible}

pub record Accepted (dim : ℕ) (ws : List ℕ) : Type 0 where
  pub tree : Forest
  pub wf : Wf dim 0 0 tree
  pub words : ws ≡ flat tree ++ (65535 ∷ [])
  pub below : Below 65536 ws

-- what an edit carries are words
abbrev pub Carried : Edit → Type 0
Carried (mark p deleted) = Unit {0}
Carried (rename p a b) = (a < 65536) × (b < 65536)
Carried (insert h p x) = Below 65536 x
Carried (remove p) = Unit {0}
Carried (restore p x) = Unit {0}

-- a record's places and words fit its layout
abbrev pub SmallHeader : Option ℕ → Type 0
SmallHeader none = Unit {0}
SmallHeader (some h) = h < 4294967295

abbrev pub Small : Rec → Type 0
Small (flag p x) = (p < 4294967296) × ((length x < 65536) × (Below 65536 x × (1 ≤ length x)))
Small (renamed p a b) = (p < 4294967296) × ((a < 65536) × (b < 65536))
Small (inserted h p) = SmallHeader h × (p < 4294967296)
Small (removed h p x) = SmallHeader h × ((p < 4294967296) × ((length x < 65536) × Below 65536 x))

pub record Sound (dim : ℕ) (ws : List ℕ) (e : Edit) : Type 0 where
  pub kept : Accepted dim (apply dim ws e)
  pub back : reversible dim (apply dim ws e) (record_of dim ws e) ≡ true
  pub same : apply dim (apply dim ws e) (reversal (apply dim ws e) (record_of dim ws e)) ≡ ws
  pub small : Small (record_of dim ws e)

-- the law that the theorem over lists of calls rests on
abbrev pub Law : ℕ → Type 0
Law dim = (ws : List ℕ) (e : Edit) → Accepted dim ws → length ws ≤ 524288 → edit_fault dim ws e ≡ fine → Carried e → Sound dim ws e
