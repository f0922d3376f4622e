-- Words laid into a buffer: a store lays one word, and what is laid behind words that were laid is laid with them. So
-- stores at rising places lay the list of their words.
use Prim.Native.Nat.{ℕ, ◌+◌, ◌*◌, ◌/◌, ◌%◌, ◌≤◌, ◌<◌}
use mathlib.Core.Path.{◌≡◌, refl, sym, ap, ◌∙◌}
use mathlib.Core.List.{List, [], ◌∷◌, ◌++◌, map, append_assoc}
use native.Mathlib.Omega.{arith}
use native.Mathlib.Numerals.{add-one}
use lib.ListN.{length, get_or, take, set, length-map, get_or-map}
use lib.IntN.{ℤ, pos}
use lib.Seq.{sets-eq, length-take-le, take-suc}
use Rattle.words.specs.Words.{words, bytes, over, Below, unsigned, put_word, put_long}
use Rattle.words.proofs.Laws.{put_in, length_put, length_put_long, length_bytes, bytes_append, bytes_words}
use Rattle.words.proofs.Over.{over_nil, length_over, over_over}
use Rattle.copies.specs.Copies.{copied}
use Rattle.copies.proofs.Copies.{copied_fits}
use Rattle.fields.specs.Words.{longs}
use Rattle.fields.proofs.Element.{length_longs}
use Rattle.writer.specs.Writing.{laid}

pub longs_append : (us vs : List ℕ) → longs (us ++ vs) ≡ longs us ++ longs vs
longs_append [] vs = refl
longs_append (u ∷ us) vs = ap (λ l. u / 65536 ∷ u % 65536 ∷ l) (longs_append us vs)

---- laid words

pub laid_none : (d : List ℕ) (at : ℕ) → d ≡ laid d at []
laid_none d at = sym (over_nil d (2 * at))

-- the buffer keeps its length
pub length_laid : (d : List ℕ) (at : ℕ) (ws : List ℕ) → at + length ws ≤ length d / 2 → length (laid d at ws) ≡ length d
length_laid d at ws h = let e = length_bytes ws in length_over d (2 * at) (bytes ws) (omega arith)

-- words laid behind those that were laid
pub laid_join : (d : List ℕ) (at next : ℕ) (ws vs : List ℕ) → next ≡ at + length ws → next + length vs ≤ length d / 2 →
    laid (laid d at ws) next vs ≡ laid d at (ws ++ vs)
laid_join d at next ws vs n h =
    let e = length_bytes ws in
    over_over d (2 * at) (bytes ws) (2 * next) (bytes vs) (omega arith) (omega arith) ∙ ap (over d (2 * at)) (sym (bytes_append ws vs))

-- bytes from the start of a word on, even in number, are their words laid
pub laid_bytes : (d : List ℕ) (at : ℕ) (s : List ℕ) → Below 256 s → length s % 2 ≡ 0 → over d (2 * at) s ≡ laid d at (words s)
laid_bytes d at s b e = ap (over d (2 * at)) (sym (bytes_words s (length s / 2) (omega arith) b))

pub laid_copied : (d : List ℕ) (at : ℕ) (s : List ℕ) → Below 256 s → length s % 2 ≡ 0 → 2 * at + length s ≤ length d → copied d (2 * at) s ≡ laid d at (words s)
laid_copied d at s b e h = copied_fits d (2 * at) s h ∙ laid_bytes d at s b e

-- a store lays a word
pub laid_word : (d : List ℕ) (i w : ℕ) → i < length d / 2 → put_word d i w ≡ laid d i (w ∷ [])
unfolding over
laid_word d i w h =
    let b = w % 256 ∷ w / 256 % 256 ∷ [] in
    put_in d i w h ∙ ap (λ k. set (set d (2 * i) (w % 256)) k (w / 256 % 256)) (add-one (2 * i))
    ∙ sets-eq b d (2 * i) (omega arith) ∙ append_assoc (take (2 * i) d) b _

-- a long is two words
pub laid_long : (d : List ℕ) (i v : ℕ) → i + 2 ≤ length d / 2 → put_long d i v ≡ laid d i (longs (v ∷ []))
unfolding put_long
laid_long d i v h =
    let l = length_put d i (v / 65536) in
    laid_word (put_word d i (v / 65536)) (i + 1) (v % 65536) (omega arith)
    ∙ ap (λ x. laid x (i + 1) (v % 65536 ∷ [])) (laid_word d i (v / 65536) (omega arith))
    ∙ laid_join d i (i + 1) (v / 65536 ∷ []) (v % 65536 ∷ []) refl (omega arith)

---- stores one after another

-- words, and longs, stored at a place and the places after it
abbrev pub stored_words : List ℕ → ℕ → List ℕ → List ℕ
stored_words d at [] = d
stored_words d at (w ∷ ws) = stored_words (put_word d at w) (at + 1) ws

abbrev pub stored_longs : List ℕ → ℕ → List ℕ → List ℕ
stored_longs d at [] = d
stored_longs d at (v ∷ vs) = stored_longs (put_long d at v) (at + 2) vs

pub words_laid : (d : List ℕ) (at : ℕ) (ws : List ℕ) → at + length ws ≤ length d / 2 → stored_words d at ws ≡ laid d at ws
words_laid d at [] h = laid_none d at
words_laid d at (w ∷ ws) h =
    let l = length_put d at w in
    words_laid (put_word d at w) (at + 1) ws (omega arith)
    ∙ ap (λ x. laid x (at + 1) ws) (laid_word d at w (omega arith))
    ∙ laid_join d at (at + 1) (w ∷ []) ws refl (omega arith)

pub longs_laid : (d : List ℕ) (at : ℕ) (vs : List ℕ) → at + 2 * length vs ≤ length d / 2 → stored_longs d at vs ≡ laid d at (longs vs)
longs_laid d at [] h = laid_none d at
longs_laid d at (v ∷ vs) h =
    let l = length_put_long d at v in
    let n = length_longs vs in
    longs_laid (put_long d at v) (at + 2) vs (omega arith)
    ∙ ap (λ x. laid x (at + 2) (longs vs)) (laid_long d at v (omega arith))
    ∙ laid_join d at (at + 2) (longs (v ∷ [])) (longs vs) refl (omega arith)

---- one more long in a loop

module _ (d out : List ℕ) (at k : ℕ) (vs : List ℕ) (h : k < length vs) where
  pub next_long : at + 2 * length vs ≤ length d / 2 → out ≡ laid d at (longs (take k vs)) → put_long out (at + 2 * k) (get_or vs k 0) ≡ laid d at (longs (take (k + 1) vs))
  next_long r e =
      let l = length-take-le k vs (omega arith) in
      let n = length_longs (take k vs) in
      let m = length_laid d at (longs (take k vs)) (omega arith) in
      let o = ap length e in
      laid_long out (at + 2 * k) (get_or vs k 0) (omega arith) ∙ ap (λ x. laid x (at + 2 * k) (longs (get_or vs k 0 ∷ []))) e
      ∙ laid_join d at (at + 2 * k) (longs (take k vs)) (longs (get_or vs k 0 ∷ [])) (omega arith) (omega arith)
      ∙ ap (laid d at) (sym (longs_append (take k vs) (get_or vs k 0 ∷ [])) ∙ ap longs (sym (ap (λ n. take n vs) (add-one k) ∙ take-suc vs k 0 h)))

-- the same for coordinates
pub next_point : (d out : List ℕ) (at k : ℕ) (ps : List ℤ) → k < length ps → at + 2 * length ps ≤ length d / 2 →
    out ≡ laid d at (longs (take k (map unsigned ps))) →
    put_long out (at + 2 * k) (unsigned (get_or ps k (pos 0))) ≡ laid d at (longs (take (k + 1) (map unsigned ps)))
next_point d out at k ps h r e =
    let l = length-map ps unsigned in
    ap (put_long out (at + 2 * k)) (sym (get_or-map unsigned ps k (pos 0)))
    ∙ next_long d out at k (map unsigned ps) (omega arith) (omega arith) e
