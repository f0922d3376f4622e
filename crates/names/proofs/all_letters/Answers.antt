-- All bytes pass the test of one byte.
use Prim.Native.Nat.{ℕ}
use mathlib.Core.Path.{◌≡◌, refl, ap, ◌∙◌}
use mathlib.Core.Bool.{Bool, not, ◌&&◌}
use mathlib.Core.List.{List, [], ◌∷◌}
use borrow.Author.Rules.{rules}
use Rattle.std.proofs.Common.{tests, eqb}
use Rattle.std.specs.List.{list_all}
use Rattle.std.proofs.lemmas.Iterator.{YieldsList-from_slice}
use Rattle.std.proofs.lemmas.Iterator.Search.{all_from_yields_List}
use Rattle.names.specs.Names.{code_of, all_letters}
use Rattle.names.proofs.all_letters.Goals as goal

is_letter : ℕ → Bool
is_letter b = not (eqb (code_of b) 29)

each_letter : (t : List ℕ) → list_all is_letter t ≡ all_letters t
unfolding is_letter
each_letter [] = refl
each_letter (b ∷ t) = ap (λ (r : Bool). is_letter b && r) (each_letter t)

pub returns : goal.returns
unfolding is_letter
returns c =
    all_from_yields_List is_letter _ _ _ c.all.ensures.ran (YieldsList-from_slice c.args.text.now cc) (λ x b q k. search (rules, tests)) ∙ each_letter c.args.text.now
