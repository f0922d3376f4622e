-- What two words unpack to is a text of at most six letters, so it can be lent as the name of an element.
use Prim.Native.Nat.{ℕ, ◌≤◌}
use mathlib.Core.Path.{◌≡◌, refl}
use mathlib.Core.Bool.{Bool, true, false, cond}
use mathlib.Core.List.{List, [], ◌∷◌}
use native.Mathlib.Omega.{arith}
use lib.ListN.{length, replicate, length-map}
use Rattle.std.specs.Prelude.{Result, Ok}
use Rattle.names.specs.Names.{letters_of, text_in, text_of, text_answer, word_ok, name_ok, unpacked}
use Rattle.names.specs.declared.Unpacked.{Unpacked}
use Rattle.names.specs.declared.NoText.{NoText}
use Rattle.names.specs.Name.{no_text_with}
use Rattle.names.proofs.Texts.{length_kept}
use Rattle.lines.specs.Element.{text_length, unpacked_text, name_text, Named}

text_short : (a b : ℕ) → length (text_of a b) ≤ 6
unfolding text_in
text_short a b =
    let x = letters_of a in
    let y = letters_of b in
    simp length-map (length_kept (x.a ∷ x.b ∷ x.c ∷ y.a ∷ y.b ∷ y.c ∷ []))

-- at most six letters
pub at_most_six : (a b : ℕ) → text_length (unpacked a b) ≤ 6
unfolding unpacked text_answer
at_most_six a b = go (name_ok a b)
  where
    go : (t : Bool) → text_length (cond t (Ok (text_answer (text_of a b))) (no_text_with 12 0 (replicate 6 0))) ≤ 6
    go true = text_short a b
    go false = omega arith

-- what two words unpack to, where it is the element's name
pub named : (ws : List ℕ) (at a b : ℕ) (name : Result Unpacked NoText) → name ≡ unpacked a b → unpacked_text (unpacked a b) ≡ name_text ws at → Named ws at name
named ws at a b name e n = rw e (record { is = n; short = at_most_six a b })

-- words that are no name
pub no_name : unpacked_text (unpacked 65535 0) ≡ []
unfolding unpacked name_ok word_ok
no_name = refl
