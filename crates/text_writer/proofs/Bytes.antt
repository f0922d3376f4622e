-- The bytes behind the counts, copied one part behind the other: characters, fields, and the odd byte where there is one.
use Prim.Native.Nat.{ℕ, ◌+◌, ◌%◌, ◌≤◌, ◌<◌}
use mathlib.Core.Path.{◌≡◌, refl, sym, ap, ◌∙◌}
use mathlib.Core.List.{List, [], ◌∷◌, ◌++◌, append_assoc, append-nil}
use native.Mathlib.Omega.{arith}
use lib.ListN.{length, set, length-append}
use borrow.Author.Tests.{eq-eqb, ne_eqb}
use Rattle.words.specs.Words.{over}
use Rattle.words.proofs.Over.{length_over, over_snoc, over_over}
use Rattle.copies.specs.Copies.{copied}
use Rattle.copies.proofs.Copies.{copied_fits}
use Rattle.text_fields.specs.declared.Text.{Text}
use Rattle.text_fields.specs.Words.{odd_bytes, text_bytes}

module _ (d : List ℕ) (at : ℕ) (t : Text) (characters triples : List ℕ) (h : at + length (text_bytes t characters triples) ≤ length d) where
  lengths : length (text_bytes t characters triples) ≡ length characters + (length triples + length (odd_bytes t (length characters + length triples)))
  lengths =
      length-append characters (triples ++ odd_bytes t (length characters + length triples))
      ∙ ap (λ n. length characters + n) (length-append triples (odd_bytes t (length characters + length triples)))

  pub bytes_room : at + length characters + length triples ≤ length d
  bytes_room = let l = lengths in omega arith

  pub both_copied : copied (copied d at characters) (at + length characters) triples ≡ over d at (characters ++ triples)
  both_copied =
      let r = bytes_room in
      let k = length_over d at characters (omega arith) in
      ap (λ x. copied x (at + length characters) triples) (copied_fits d at characters (omega arith))
      ∙ copied_fits (over d at characters) (at + length characters) triples (omega arith)
      ∙ over_over d at characters (at + length characters) triples refl (omega arith)

  module _ (e : (length characters + length triples) % 2 ≡ 1) where
    one : odd_bytes t (length characters + length triples) ≡ t.odd ∷ []
    one = rw (eq-eqb _ 1 e) refl

    pub odd_room : at + length characters + length triples < length d
    odd_room = let l = lengths in let o = ap length one in omega arith

    pub odd_set : set (over d at (characters ++ triples)) (at + length characters + length triples) t.odd ≡ over d at (text_bytes t characters triples)
    odd_set =
        let r = odd_room in
        let l = length-append characters triples in
        over_snoc d at (characters ++ triples) (at + length characters + length triples) t.odd (omega arith) (omega arith)
        ∙ ap (over d at) (append_assoc characters triples (t.odd ∷ []) ∙ ap (λ x. characters ++ (triples ++ x)) (sym one))

  pub odd_none : ((length characters + length triples) % 2 ≡ 1 → ⊥) → over d at (characters ++ triples) ≡ over d at (text_bytes t characters triples)
  odd_none e =
      let none : odd_bytes t (length characters + length triples) ≡ [] = rw (ne_eqb _ 1 e) refl in
      ap (over d at) (ap (λ x. characters ++ x) (sym (append-nil triples) ∙ ap (λ x. triples ++ x) (sym none)))
