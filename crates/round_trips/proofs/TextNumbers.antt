-- The numbers of a text are parts of its words from word 18 on: what is read of them is what was handed in, just where the words
-- made of it stand there.
use Prim.Native.Nat.{ℕ, ◌+◌, ◌*◌, ◌/◌, ◌%◌, ◌≤◌}
use mathlib.Core.Path.{◌≡◌, sym, ap, ◌∙◌, subst}
use mathlib.Core.Bool.{true}
use mathlib.Core.List.{List, [], ◌∷◌, ◌++◌, map}
use native.Mathlib.Omega.{arith}
use lib.ListN.{length}
use lib.IntN.{ℤ}
use Rattle.words.specs.Words.{Below, word_at, long_at, signed, unsigned}
use Rattle.words.proofs.Signed.{signed_unsigned, unsigned_signed}
use Rattle.limits.specs.Limits.{dim_ok}
use Rattle.limits.proofs.Dimensions.{by_dims}
use Rattle.grammar.proofs.Stands.{Stands, stands_first, stands_right}
use Rattle.turns.specs.Turns.{turn_at}
use Rattle.text_views.specs.TextViews.{origin_at}
use Rattle.turns.specs.declared.Turn.TheVariants as turns
use Rattle.text_views.specs.declared.Origin.TheVariants as origins
use Rattle.fields.specs.Words.{longs}
use Rattle.text_fields.specs.Words.{turn_longs, origin_of, number_words}
use Rattle.text_fields.specs.declared.Text.{Text}
use Rattle.round_trips.specs.Parts.{turn_read, origin_read}
use Rattle.round_trips.specs.RoundTrip.{Longs}
use Rattle.round_trips.proofs.Spans.{stands_cons, stands_at, LongsAt, long_small, longs_read, longs_stand}

-- the longs behind word 18
abbrev pub number_longs : ℕ → Text → List ℕ
number_longs dim t = t.length ∷ t.height ∷ (turn_longs dim t ++ map unsigned (origin_of dim t))

pub record Numbered (dim : ℕ) (ws : List ℕ) (at : ℕ) (t : Text) : Type 0 where
  pub font : word_at ws (at + 18) % 256 ≡ t.font
  pub justification : word_at ws (at + 18) / 256 ≡ t.justification
  pub longs : LongsAt ws (at + 19) (number_longs dim t)

---- as words

module _ (dim : ℕ) (ws : List ℕ) (at : ℕ) (t : Text) where
  pub words_numbered : t.font ≤ 255 → t.justification ≤ 255 → Stands (number_words dim t) (at + 18) ws → Numbered dim ws at t
  words_numbered f j s =
      let first = stands_first s (omega arith) in
      let e : at + 18 + 1 ≡ at + 19 = omega arith in
      record {
        font = omega arith;
        justification = omega arith;
        longs = subst (λ q. LongsAt ws q (number_longs dim t)) e (longs_read (number_longs dim t) ws (at + 18 + 1) (stands_right ((t.font + 256 * t.justification) ∷ []) (longs (number_longs dim t)) s));
      }

  pub numbered_words : Below 65536 ws → Numbered dim ws at t → at + (19 + 2 * length (number_longs dim t)) ≤ length ws → Stands (number_words dim t) (at + 18) ws
  numbered_words b n h =
      let f = n.font in
      let j = n.justification in
      stands_cons (t.font + 256 * t.justification) (longs (number_longs dim t)) ws (at + 18) (omega arith) (omega arith)
      (stands_at (at + 18 + 1) (omega arith) (longs_stand ws b (at + 19) (number_longs dim t) n.longs (omega arith)))

---- as what is read

flat_turn : {a b : ℕ} → a ≡ b → turns.Flat a ≡ turns.Flat b
flat_turn p = cc

solid_turn : {a b c d a' b' c' d' : ℕ} → a ≡ a' → b ≡ b' → c ≡ c' → d ≡ d' → turns.Solid a b c d ≡ turns.Solid a' b' c' d'
solid_turn p q r s = cc

flat_origin : {a b a' b' : ℤ} → a ≡ a' → b ≡ b' → origins.Flat a b ≡ origins.Flat a' b'
flat_origin p q = cc

solid_origin : {a b c a' b' c' : ℤ} → a ≡ a' → b ≡ b' → c ≡ c' → origins.Solid a b c ≡ origins.Solid a' b' c'
solid_origin p q r = cc

module _ (dim : ℕ) (d : dim_ok dim ≡ true) (ws : List ℕ) (at : ℕ) (t : Text) where
  place : (m n : ℕ) → m ≡ n → long_at ws m ≡ long_at ws n
  place m n e = ap (long_at ws) e

  -- a signed number whose long is read
  signed_read : (z : ℤ) (m n : ℕ) → Longs (z ∷ []) → unsigned z ≡ long_at ws n → m ≡ n → signed (long_at ws m) ≡ z
  signed_read z m n l e q = ap signed (place m n q ∙ sym e) ∙ signed_unsigned z l.0

  pub numbers_read : Longs (t.x ∷ t.y ∷ t.z ∷ []) → LongsAt ws (at + 19) (number_longs dim t) →
      (long_at ws (at + 19) ≡ t.length) × ((long_at ws (at + 21) ≡ t.height) × ((turn_at dim ws (at + 23) ≡ turn_read dim t) × (origin_at dim ws at ≡ origin_read dim t)))
  unfolding turn_at origin_at
  numbers_read l =
      by_dims (λ m. LongsAt ws (at + 19) (number_longs m t) →
      (long_at ws (at + 19) ≡ t.length) × ((long_at ws (at + 21) ≡ t.height) × ((turn_at m ws (at + 23) ≡ turn_read m t) × (origin_at m ws at ≡ origin_read m t)))) dim d
      (λ n.
      let a = n.1.1 in (
        sym n.0,
        (
          place (at + 21) (at + 19 + 2) (omega arith) ∙ sym n.1.0,
          (
            flat_turn (place (at + 23) (at + 19 + 2 + 2) (omega arith) ∙ sym a.0),
            flat_origin (signed_read t.x (at + 25) (at + 19 + 2 + 2 + 2) (l.0, tt) a.1.0 (omega arith))
                (signed_read t.y (at + 27) (at + 19 + 2 + 2 + 2 + 2) (l.1.0, tt) a.1.1.0 (omega arith)),
          ),
        ),
      ))
      (λ n.
      let a = n.1.1 in
      let b = a.1.1.1.1 in (
        sym n.0,
        (
          place (at + 21) (at + 19 + 2) (omega arith) ∙ sym n.1.0,
          (
            solid_turn (place (at + 23) (at + 19 + 2 + 2) (omega arith) ∙ sym a.0) (place (at + 23 + 2) (at + 19 + 2 + 2 + 2) (omega arith) ∙ sym a.1.0)
                (place (at + 23 + 4) (at + 19 + 2 + 2 + 2 + 2) (omega arith) ∙ sym a.1.1.0) (place (at + 23 + 6) (at + 19 + 2 + 2 + 2 + 2 + 2) (omega arith) ∙ sym a.1.1.1.0),
            solid_origin (signed_read t.x (at + 31) (at + 19 + 2 + 2 + 2 + 2 + 2 + 2) (l.0, tt) b.0 (omega arith))
                (signed_read t.y (at + 33) (at + 19 + 2 + 2 + 2 + 2 + 2 + 2 + 2) (l.1.0, tt) b.1.0 (omega arith))
                (signed_read t.z (at + 35) (at + 19 + 2 + 2 + 2 + 2 + 2 + 2 + 2 + 2) (l.1.1.0, tt) b.1.1.0 (omega arith)),
          ),
        ),
      ))

  -- and back: the longs of what is read
  unsigned_read : Below 65536 ws → (z : ℤ) (m n : ℕ) → signed (long_at ws m) ≡ z → m ≡ n → unsigned z ≡ long_at ws n
  unsigned_read b z m n e q = ap unsigned (sym e) ∙ unsigned_signed (long_at ws m) (long_small ws b m) ∙ place m n q

  pub read_numbers : Below 65536 ws → long_at ws (at + 19) ≡ t.length → long_at ws (at + 21) ≡ t.height → turn_at dim ws (at + 23) ≡ turn_read dim t → origin_at dim ws at ≡ origin_read dim t →
      LongsAt ws (at + 19) (number_longs dim t)
  unfolding turn_at origin_at
  read_numbers b l h =
      by_dims (λ m. turn_at m ws (at + 23) ≡ turn_read m t → origin_at m ws at ≡ origin_read m t → LongsAt ws (at + 19) (number_longs m t)) dim d
      (λ u v.
      let first : long_at ws (at + 23) ≡ t.first = cc in
      let x : signed (long_at ws (at + 25)) ≡ t.x = cc in
      let y : signed (long_at ws (at + 27)) ≡ t.y = cc in (
        sym l,
        (
          sym h ∙ place (at + 21) (at + 19 + 2) (omega arith),
          (
            sym first ∙ place (at + 23) (at + 19 + 2 + 2) (omega arith),
            (
              unsigned_read b t.x (at + 25) (at + 19 + 2 + 2 + 2) x (omega arith),
              (unsigned_read b t.y (at + 27) (at + 19 + 2 + 2 + 2 + 2) y (omega arith), tt),
            ),
          ),
        ),
      ))
      (λ u v.
      let first : long_at ws (at + 23) ≡ t.first = cc in
      let second : long_at ws (at + 23 + 2) ≡ t.second = cc in
      let third : long_at ws (at + 23 + 4) ≡ t.third = cc in
      let fourth : long_at ws (at + 23 + 6) ≡ t.fourth = cc in
      let x : signed (long_at ws (at + 31)) ≡ t.x = cc in
      let y : signed (long_at ws (at + 33)) ≡ t.y = cc in
      let z : signed (long_at ws (at + 35)) ≡ t.z = cc in (
        sym l,
        (
          sym h ∙ place (at + 21) (at + 19 + 2) (omega arith),
          (
            sym first ∙ place (at + 23) (at + 19 + 2 + 2) (omega arith),
            (
              sym second ∙ place (at + 23 + 2) (at + 19 + 2 + 2 + 2) (omega arith),
              (
                sym third ∙ place (at + 23 + 4) (at + 19 + 2 + 2 + 2 + 2) (omega arith),
                (
                  sym fourth ∙ place (at + 23 + 6) (at + 19 + 2 + 2 + 2 + 2 + 2) (omega arith),
                  (
                    unsigned_read b t.x (at + 31) (at + 19 + 2 + 2 + 2 + 2 + 2 + 2) x (omega arith),
                    (
                      unsigned_read b t.y (at + 33) (at + 19 + 2 + 2 + 2 + 2 + 2 + 2 + 2) y (omega arith),
                      (unsigned_read b t.z (at + 35) (at + 19 + 2 + 2 + 2 + 2 + 2 + 2 + 2 + 2) z (omega arith), tt),
                    ),
                  ),
                ),
              ),
            ),
          ),
        ),
      ))
