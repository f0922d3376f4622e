-- The characters end by the text's own words, and elements in file order have no words in common.
use Prim.Native.Nat.{ℕ, ◌+◌, ◌*◌, ◌<◌, ◌≤◌}
use mathlib.Core.Path.{◌≡◌, refl, sym, ap, ◌∙◌, subst}
use mathlib.Core.Logic.{◌≢◌, ◌⊎◌, inl, inr}
use mathlib.Core.Bool.{Bool, true, false, cond}
use mathlib.Core.List.{List, Memᴰ}
use native.Mathlib.Numerals.{lt_of_le_of_ne}
use native.Mathlib.Omega.{arith}
use lib.ListN.{drop, length-take, length-drop}
use lib.Seq.{get_or-take, get_or-drop}
use lib.Dec.{eqb, ltb}
use borrow.Author.Tests.{ltb-true, ltb-false}
use Rattle.words.specs.Words.{words}
use Rattle.texts.specs.Texts.{first_character}
use Rattle.headers.specs.Header.{size_at}
use Rattle.files.specs.Spots.{Spot, spots_of}
use Rattle.views.specs.Starts.{Starts}
use Rattle.views.proofs.Starts.{spot_starts}
use Rattle.order.proofs.Order.{order_apart, file_order}
use Rattle.text_views.specs.TextViews.{character_bytes}
use Rattle.text_views.proofs.Inside.{Held, characters_held}
use Rattle.text_parts.specs.Own.{Apart, CharactersOwn, TextsApart}

first_60 : (dim : ℕ) → first_character dim ≡ cond (eqb dim 2) 60 76
first_60 dim = go (eqb dim 2)
  where
    go : (b : Bool) → 2 * (cond b 29 37 + 1) ≡ cond b 60 76
    go true = refl
    go false = refl

---- the text and the other elements

module _ (dim : ℕ) (s : List ℕ) (at start count : ℕ) (held : Held dim s at start count) where
  -- the text as one of the file's elements
  text : Starts (spots_of dim (words s)) at
  text = spot_starts (spots_of dim (words s)) at held.found.spot held.found.is

  pub text_alone : (y : Spot) → Memᴰ y (spots_of dim (words s)) → y.place ≢ at → Apart (words s) at y.place
  text_alone y m h = subst (λ p. Apart (words s) p y.place) text.2 (go (ltb text.0.place y.place) refl)
    where
      order : (x z : Spot) → Memᴰ x (spots_of dim (words s)) → Memᴰ z (spots_of dim (words s)) → x.place < z.place → x.place + size_at (words s) x.place ≤ z.place
      order = order_apart (words s) 0 held.found.marker (spots_of dim (words s)) (file_order dim s held.found.elements held.found.deepest held.found.marker held.found.judged)

      go : (b : Bool) → ltb text.0.place y.place ≡ b → Apart (words s) text.0.place y.place
      go true q = inl (order text.0 y text.1 m (ltb-true text.0.place y.place q))
      go false q = inr (order y text.0 m text.1 (lt_of_le_of_ne (ltb-false text.0.place y.place q) (λ z. h (z ∙ text.2))))

---- its characters

pub characters_own : CharactersOwn
unfolding character_bytes
characters_own dim s at start count q =
    let held = characters_held dim s at start count q in
    let w = held.within in
    let i = held.inside in
    let d = length-drop start s in
    record {
      starts = held.starts ∙ ap (λ n. 2 * at + n) (first_60 dim);
      counted = held.counted;
      many = rw q (length-take count (drop start s) ∙ omega arith);
      each = λ j h. rw q (get_or-take count (drop start s) j 0 h ∙ get_or-drop start s j 0);
      within = held.within;
      inside = held.inside;
      alone = text_alone dim s at start count held;
    }

pub texts_apart : TextsApart
texts_apart dim s p q a m b n f g h =
    let x = characters_held dim s p a m f in
    let y = characters_held dim s q b n g in
    let other = text dim s q b n y in
    let e = other.2 in
    go x y (subst (Apart (words s) p) e (text_alone dim s p a m x other.0 other.1 (λ z. h (sym z ∙ e))))
  where
    go : Held dim s p a m → Held dim s q b n → Apart (words s) p q → (a + m ≤ b) ⊎ (b + n ≤ a)
    go x y (inl l) = let w = x.within in let t = y.starts in inl (omega arith)
    go x y (inr l) = let w = y.within in let t = x.starts in inr (omega arith)
