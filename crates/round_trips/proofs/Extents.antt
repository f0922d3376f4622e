-- The extent of an element that is no header is the element itself: its bytes are those of its own words.
use Prim.Native.Nat.{ℕ, zero, suc, ◌+◌, ◌-◌, ◌*◌, ◌≤◌}
use mathlib.Core.Path.{◌≡◌, refl, sym, ap, ◌∙◌}
use mathlib.Core.Bool.{Bool, true, false, cond, ◌&&◌}
use mathlib.Core.List.{List}
use native.Mathlib.Omega.{arith}
use lib.ListN.{length, take, drop, length-drop}
use lib.Seq.{length-take-le}
use lib.Dec.{eqb, leb, ltb}
use borrow.Author.Tests.{eqb-true}
use Rattle.words.specs.Words.{words, bytes, Below}
use Rattle.words.proofs.Laws.{length_words, bytes_words, words_take, words_drop}
use Rattle.headers.specs.Header.{type_at, size_at, extent_words}
use Rattle.kinds.specs.Kinds.{is_header}
use Rattle.files.specs.Judge.{judge_of}
use Rattle.places.specs.declared.Above.{Above}
use Rattle.places.specs.declared.Above.TheVariants.{Under}
use Rattle.places.specs.Places.{spotted_at}
use Rattle.places.specs.Extents.{extent_answer, extent_bytes}
use Rattle.places.specs.Descent.{locate_from, descent_to, locate_of}
use Rattle.places.proofs.Places.{spotted_inside, spotted_located}
use Rattle.edits.proofs.Bounds.{below_take, below_drop}
use Rattle.std.specs.Prelude.{Result}
use Rattle.files.specs.Accepted.{accepted_with}
use Rattle.places.specs.Spotted.{spotted_with}
use Rattle.places.specs.declared.Spotted.{Spotted}
use Rattle.refusals.specs.Refusals.{refused_with}
use Rattle.refusals.proofs.Laws.{given_is, given_not_refused}
use Rattle.refusals.specs.declared.Refusal.{Refusal}

---- where the extent of an element that is found ends

located_from : (n : ℕ) (ws : List ℕ) (here depth : ℕ) (above : Above) (p end d : ℕ) (a : Above) → locate_from n ws here depth above p ≡ spotted_with end d a →
    end ≡ p + extent_words ws p
unfolding locate_from
located_from zero ws here depth above p end d a e = absurd (given_not_refused e)
located_from (suc n) ws here depth above p end d a e =
    go (ltb here p) (leb (here + extent_words ws here) p) (is_header (type_at ws here)) (eqb here p) refl
    (locate_from n ws (here + extent_words ws here) depth above p) (locate_from n ws (here + size_at ws here) (depth + 1) (Under here) p) e
    (located_from n ws (here + extent_words ws here) depth above p end d a) (located_from n ws (here + size_at ws here) (depth + 1) (Under here) p end d a)
  where
    go : (l i h q : Bool) → eqb here p ≡ q → (over into : Result Spotted Refusal) →
        cond l (cond i over (cond h into (refused_with 13 0))) (cond q (spotted_with (here + extent_words ws here) depth above) (refused_with 13 0)) ≡ spotted_with end d a →
        (over ≡ spotted_with end d a → end ≡ p + extent_words ws p) → (into ≡ spotted_with end d a → end ≡ p + extent_words ws p) → end ≡ p + extent_words ws p
    go true true h q z over into e k j = k e
    go true false true q z over into e k j = j e
    go true false false q z over into e k j = absurd (given_not_refused e)
    go false i h true z over into e k j = sym (ap (λ r. r.end) (given_is e)) ∙ ap (λ x. x + extent_words ws x) (eqb-true here p z)
    go false i h false z over into e k j = absurd (given_not_refused e)

located_end : (ws : List ℕ) (p m end d : ℕ) (a : Above) → locate_of ws p m ≡ spotted_with end d a → end ≡ p + extent_words ws p
unfolding locate_of descent_to
located_end ws p m end d a = go (ltb p m && ltb p (length ws))
  where
    go : (b : Bool) → cond b (descent_to ws p) (refused_with 13 0) ≡ spotted_with end d a → end ≡ p + extent_words ws p
    go true e = located_from (suc p) ws 0 0 _ p end d a e
    go false e = absurd (given_not_refused e)

---- its bytes

-- the bytes of a part of the words are that part of the bytes
pub part_bytes : (s : List ℕ) (at n : ℕ) → Below 256 s → at + n ≤ length (words s) → bytes (take n (drop at (words s))) ≡ take (2 * n) (drop (2 * at) s)
part_bytes s at n b h =
    let part = take (2 * n) (drop (2 * at) s) in
    let w = length_words s in
    let d = length-drop (2 * at) s in
    let l = length-take-le (2 * n) (drop (2 * at) s) (omega arith) in
    ap bytes (ap (take n) (sym (words_drop at s)) ∙ sym (words_take n (drop (2 * at) s)))
    ∙ bytes_words part n l (below_take 256 (2 * n) (drop (2 * at) s) (omega arith) (below_drop 256 (2 * at) s b))

pub extent_own : (dim : ℕ) (s : List ℕ) (at e d m end depth : ℕ) (above : Above) → Below 256 s → judge_of dim s ≡ accepted_with e d m → spotted_at dim s at ≡ spotted_with end depth above →
    is_header (type_at (words s) at) ≡ false → extent_bytes dim s at ≡ bytes (take (size_at (words s) at) (drop at (words s)))
unfolding extent_bytes extent_answer extent_words
extent_own dim s at e d m end depth above b j f h =
    let z : end ≡ at + size_at (words s) at = located_end (words s) at m end depth above (sym (spotted_located dim s at e d m j) ∙ f) ∙ rw h refl in
    let i = (spotted_inside dim s at end depth above f).by in
    let l = length_words s in
    let n : 2 * end - 2 * at ≡ 2 * size_at (words s) at = omega arith in
    rw f (ap (λ k. take k (drop (2 * at) s)) n ∙ sym (part_bytes s at (size_at (words s) at) b (omega arith)))
