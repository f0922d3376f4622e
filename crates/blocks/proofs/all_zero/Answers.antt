-- All bytes pass the test of one byte.
use Rattle.std.proofs.Common.{◌≡◌, ℕ, Bool, ◌&&◌, List, [], ◌∷◌, refl, ap, ◌∙◌, eqb, rules, tests}
use Rattle.std.specs.List.{list_all}
use Rattle.std.proofs.lemmas.Iterator.{YieldsList-from_slice}
use Rattle.std.proofs.lemmas.Iterator.Search.{all_from_yields_List}
use Rattle.blocks.specs.Blocks.{zeros}
use Rattle.blocks.proofs.all_zero.Goals as goal

each_zero : (l : List ℕ) → list_all (λ x. eqb x 0) l ≡ zeros l
each_zero [] = refl
each_zero (x ∷ l) = ap (λ (r : Bool). eqb x 0 && r) (each_zero l)

pub returns : goal.returns
returns c =
    let b = c.args.b.now in
    all_from_yields_List (λ x. eqb x 0) _ _ c.all.result c.all.ensures.ran (YieldsList-from_slice b cc) (λ x r q k. search (rules, tests)) ∙ each_zero b
