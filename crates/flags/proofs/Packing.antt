-- Words put one behind another into a buffer with room for them are their bytes over the buffer's.
use Prim.Native.Nat.{ℕ, suc, ◌+◌, ◌*◌, ◌/◌, ◌%◌, ◌≤◌, ◌<◌}
use mathlib.Core.Path.{◌≡◌, refl, sym, ap, ◌∙◌}
use mathlib.Core.List.{List, [], ◌∷◌}
use native.Mathlib.Omega.{arith}
use lib.ListN.{length, set}
use Rattle.words.specs.Words.{words, bytes, over, put_word}
use Rattle.words.proofs.Laws.{length_put, put_in}
use Rattle.words.proofs.Over.{over_nil, over_snoc, over_over}
use Rattle.edits.specs.Records.{old_flags}
use Rattle.flags.specs.Extents.{places_in, words_put, old_put}

one_over : (s : List ℕ) (i w : ℕ) → i < length s / 2 → put_word s i w ≡ over s (2 * i) (w % 256 ∷ w / 256 % 256 ∷ [])
one_over s i w h =
    put_in s i w h ∙ ap (λ t. set (set t (2 * i) (w % 256)) (2 * i + 1) (w / 256 % 256)) (sym (over_nil s (2 * i)))
    ∙ ap (λ t. set t (2 * i + 1) (w / 256 % 256)) (over_snoc s (2 * i) [] (2 * i) (w % 256) (omega arith) (omega arith))
    ∙ over_snoc s (2 * i) (w % 256 ∷ []) (2 * i + 1) (w / 256 % 256) refl (omega arith)

words_over : (ws s : List ℕ) (i : ℕ) → 2 * i + 2 * length ws ≤ length s → words_put s i ws ≡ over s (2 * i) (bytes ws)
words_over [] s i h = sym (over_nil s (2 * i))
words_over (w ∷ ws) s i h =
    let l = length_put s i w in
    let one = w % 256 ∷ w / 256 % 256 ∷ [] in
    let next : 2 * suc i ≡ 2 * i + length one = omega arith in
    words_over ws (put_word s i w) (suc i) (omega arith)
    ∙ ap (λ t. over t (2 * suc i) (bytes ws)) (one_over s i w (omega arith))
    ∙ over_over s (2 * i) one (2 * suc i) (bytes ws) next (omega arith)

-- the old flags of an extent
pub old_over : (at end : ℕ) (s out : List ℕ) → 2 * length (old_flags (places_in (words s) at end) (words s)) ≤ length out →
    old_put at end s out ≡ over out 0 (bytes (old_flags (places_in (words s) at end) (words s)))
unfolding old_put
old_over at end s out h = words_over (old_flags (places_in (words s) at end) (words s)) out 0 (omega arith)
