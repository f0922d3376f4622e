-- What the code reads is what the definitions say: a text's byte is the file's byte behind its place, and a field's
-- justification keeps its value in a local.
use Prim.Native.Nat.{ℕ, ◌+◌, ◌*◌, ◌/◌, ◌%◌, ◌≤◌, ◌<◌}
use mathlib.Core.Path.{◌≡◌, refl, sym, ap, ◌∙◌}
use mathlib.Core.Logic.{◌≢◌}
use mathlib.Core.Bool.{Bool, true, false, cond}
use mathlib.Core.List.{List}
use native.Mathlib.Omega.{arith}
use lib.IntN.{ℤ, pos, negsuc}
use lib.ListN.{length}
use lib.Dec.{eqb}
use borrow.Author.Tests.{eq-eqb, ne_eqb, lt-ltb, le-ltb}
use mir.Syntax.{w64}
use mir.Val.{to_z, of_z}
use mir.ValLaws.{to_z-of_z}
use Rattle.std.specs.Prelude.{None, Some}
use Rattle.words.specs.Words.{words, word_at}
use Rattle.texts.specs.Texts.{byte_at, counts_word, counts_at, text_bytes, first_character, field_byte, fields_in}
use Rattle.headers.specs.Header.{type_at}
use Rattle.places.proofs.OfType.{type_inside}
use Rattle.refusals.specs.Refusals.{refused_with}
use Rattle.text_views.specs.TextViews.{is_text, odd_at, characters_at, field_justification, field_at, field_in}
use Rattle.text_views.specs.Characters.{characters_with}
use Rattle.text_views.specs.Field.{field_with}

-- where no word stands there is no text
pub text_inside : (s : List ℕ) (at t : ℕ) → t ≡ type_at (words s) at → t ≡ 17 → at < length s / 2
text_inside s at t e h = type_inside is_text refl s at (ap is_text (sym e ∙ h))

---- bytes

-- byte j of the text at a place is byte 2 * at + j of the file
pub byte_behind : (ws : List ℕ) (at j k : ℕ) → k ≡ 2 * at + j → byte_at ws 0 k ≡ byte_at ws at j
unfolding byte_at
byte_behind ws at j k e =
    let h : 0 + k / 2 ≡ at + j / 2 = omega arith in
    let p : k % 2 ≡ j % 2 = omega arith in
    rw (h, p) refl

pub byte_below : (ws : List ℕ) (at j b : ℕ) → b ≡ byte_at ws at j → b < 256
unfolding byte_at
byte_below ws at j b e = rw e (go (eqb (j % 2) 0))
  where
    go : (t : Bool) → cond t (word_at ws (at + j / 2) % 256) (word_at ws (at + j / 2) / 256 % 256) < 256
    go true = omega arith
    go false = omega arith

module _ (dim : ℕ) (ws : List ℕ) (at counts : ℕ) (is : counts ≡ counts_at dim ws at) where
  pub odd_none : text_bytes counts % 2 ≡ 0 → None ≡ odd_at dim ws at
  unfolding odd_at
  odd_none e = rw (← is, eq-eqb (text_bytes counts % 2) 0 e) refl

  pub odd_there : text_bytes counts % 2 ≢ 0 → (b i : ℕ) → i ≡ 2 * at + (first_character dim + text_bytes counts) → b ≡ byte_at ws 0 i → Some b ≡ odd_at dim ws at
  unfolding odd_at
  odd_there h b i e q = rw (← is, ne_eqb (text_bytes counts % 2) 0 h) (ap Some (q ∙ byte_behind ws at (first_character dim + text_bytes counts) i e))

---- characters

pub characters_there : (dim : ℕ) (ws : List ℕ) (at n w : ℕ) → type_at ws at ≡ 17 → n ≡ counts_word dim → w ≡ word_at ws (at + n) →
    characters_with (2 * (at + n + 1)) (w % 256) ≡ characters_at dim ws at
unfolding characters_at
characters_there dim ws at n w text e is =
    let z : 2 * (at + n + 1) ≡ 2 * at + 2 * (n + 1) = omega arith in
    rw (eq-eqb (type_at ws at) 17 text, ← e, ← is, z) refl

---- fields

pub justification_kept : (b : ℕ) → b < 256 → (r : ℤ) → r ≡ field_justification b → to_z w64 (of_z w64 r) ≡ field_justification b
justification_kept b h r e = ap (λ z. to_z w64 (of_z w64 z)) e ∙ go (eqb b 255)
  where
    go : (t : Bool) → to_z w64 (of_z w64 (cond t (negsuc 0) (pos b))) ≡ cond t (negsuc 0) (pos b)
    go true = refl
    go false = to_z-of_z w64 (pos b) (record { sfits = omega arith })

module _ (dim : ℕ) (ws : List ℕ) (at counts k : ℕ) (text : type_at ws at ≡ 17) (is : counts ≡ counts_at dim ws at) where
  pub field_none : fields_in counts ≤ k → refused_with 13 0 ≡ field_in dim ws at k
  unfolding field_in
  field_none h = rw (eq-eqb (type_at ws at) 17 text, ← is, le-ltb k (fields_in counts) h) refl

  pub field_there : k < fields_in counts → (j b c d : ℕ) (r : ℤ) → j ≡ 2 * at + field_byte dim counts k →
      b ≡ byte_at ws 0 j → c ≡ byte_at ws 0 (j + 1) → d ≡ byte_at ws 0 (j + 2) → r ≡ field_justification d → field_with b c (to_z w64 (of_z w64 r)) ≡ field_in dim ws at k
  unfolding field_in field_at
  field_there h j b c d r e eb ec ed er =
      let i : ℕ = field_byte dim counts k in
      let fb : b ≡ byte_at ws at i = eb ∙ byte_behind ws at i j e in
      let fc : c ≡ byte_at ws at (i + 1) = ec ∙ byte_behind ws at (i + 1) (j + 1) (omega arith) in
      let fd : d ≡ byte_at ws at (i + 2) = ed ∙ byte_behind ws at (i + 2) (j + 2) (omega arith) in
      let small = byte_below ws at (i + 2) d fd in
      let kept = justification_kept d (omega arith) r er ∙ ap field_justification fd in
      rw (eq-eqb (type_at ws at) 17 text, ← is, lt-ltb k (fields_in counts) h, kept, fb, fc) refl
