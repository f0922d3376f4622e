-- The numbers of a text that is read stand at the front of the slice.
use Prim.Native.Nat.{ℕ, ◌+◌, ◌*◌, ◌≤◌}
use mathlib.Core.Path.{◌≡◌, refl, sym, ap, ◌∙◌, subst}
use mathlib.Core.List.{List}
use native.Mathlib.Omega.{arith}
use lib.IntN.{ℤ}
use lib.ListN.{length}
use lib.Seq.{sets}
use borrow.Author.Tests.{le-leb}
use Rattle.std.specs.Prelude.{Ok}
use Rattle.texts.specs.Texts.{counts_word, first_character}
use Rattle.text_views.specs.declared.Text.{Text}
use Rattle.text_views.specs.TextViews.{text_of}
use Rattle.text_numbers.specs.Numbers.{text_numbers, put_text}
use Rattle.answers.specs.Answers.{done, Replied}
use Rattle.answers.proofs.Laws.{answered}
use Rattle.dgn_text.specs.TextReplies.{text_reply}

pub text_done : (dim : ℕ) (s : List ℕ) (at n : ℕ) (text : Text) (out t : List ℤ) → text_of dim s at ≡ Ok text → n ≡ counts_word dim → 15 ≤ length out →
    t ≡ put_text out 0 (2 * (at + n + 1)) text → Replied 15 (text_reply dim at (text_of dim s at)) out 0 t
unfolding put_text
text_done dim s at n text out t q e h put =
    let start : 2 * (at + n + 1) ≡ 2 * at + first_character dim = omega arith in
    let numbers = text_numbers (2 * at + first_character dim) text in
    let is : t ≡ sets out 0 numbers = put ∙ rw (le-leb 15 (length out) h, start) refl in
    subst (Replied 15 (text_reply dim at (text_of dim s at)) out 0) (sym is)
    (answered 15 (text_reply dim at (text_of dim s at)) (done numbers) out (ap (text_reply dim at) q) h)
