-- A turn of the loops over sixteen elements at a time: what is put and packed from the next sixteen on, behind these, is that
-- from these on.
use Prim.Native.Nat.{ℕ, suc, ◌+◌, ◌-◌, ◌/◌, ◌≤◌, ◌<◌}
use mathlib.Core.Path.{◌≡◌, refl, sym, ap, ◌∙◌}
use mathlib.Core.Bool.{Bool, true, false, cond}
use mathlib.Core.List.{List, [], ◌∷◌}
use native.Mathlib.Omega.{arith}
use native.Mathlib.Numerals.{add-one}
use lib.ListN.{length, take, drop, replicate, drop_of_length-le}
use lib.Seq.{drop-cons}
use borrow.Author.Tests.{lt-ltb, lt-leb}
use Rattle.words.specs.Words.{words, word_at, put_word}
use Rattle.words.proofs.Laws.{length_words, length_put}
use Rattle.edits.specs.Bits.{digits, binary, flag_words, word_flags}
use Rattle.edits.specs.Edits.{flags_at}
use Rattle.edits.specs.Records.{old_flags}
use Rattle.edits.proofs.Packed.{digits_below, packed_next}
use Rattle.edits.proofs.Flags.{length_flags, flags_taken, flags_dropped}
use Rattle.flags.specs.Extents.{places_by, behind_by, places_in, flags_put, all_put, words_put, old_put, flags_read}
use Rattle.flags.specs.declared.Sixteen.{Sixteen}
use Rattle.flags.proofs.Stores.{length_put_flags}
use Rattle.flags.proofs.Places.{places_by_lem, places_none, places_taken, places_dropped, behind_more, put_none, put_parts, put_alike, same_put, in_same, in_flags_same}

---- no elements

-- the words end before `end`, or it is reached
pub none_short : (s : List ℕ) (at end : ℕ) → length s / 2 < end → places_in (words s) at end ≡ []
unfolding places_in
none_short s at end h = let l = length_words s in rw (lt-leb end (length (words s)) (omega arith)) refl

none_left : (s : List ℕ) (at end : ℕ) → end ≤ length s / 2 → end ≤ at → places_in (words s) at end ≡ []
none_left s at end r h =
    let l = length_words s in
    places_by_lem (words s) at end (omega arith) 1 (omega arith) ∙ places_none 1 (words s) at end h

---- sixteen elements from `at` on, with flags bs put in the bytes s

module _ (s : List ℕ) (at end : ℕ) (bs : List Bool) (room : end ≤ length s / 2) where
  abbrev ws : List ℕ
  ws = words s

  abbrev qs : List ℕ
  qs = places_in ws at end

  abbrev next : ℕ
  next = behind_by 16 ws at end

  abbrev after : List ℕ
  after = flags_put (places_by 16 ws at end) bs s

  within : end ≤ length ws
  within = let l = length_words s in omega arith

  after_long : length (words after) ≡ length ws
  after_long = length_words after ∙ ap (λ n. n / 2) (length_put_flags (places_by 16 ws at end) bs s) ∙ sym (length_words s)

  pub after_places : places_in (words after) next end ≡ drop 16 qs
  after_places = in_same next end (words after) ws after_long (same_put 16 ws at end bs s) ∙ sym (places_dropped ws at end within 16)

  pub after_flags : flags_at (places_in (words after) next end) (words after) ≡ drop 16 (flags_at qs ws)
  after_flags =
      in_flags_same next end (words after) ws after_long (same_put 16 ws at end bs s) within
      ∙ ap (λ l. flags_at l ws) (sym (places_dropped ws at end within 16))
      ∙ flags_dropped 16 qs ws

  -- these sixteen are the first of all
  pub first_places : take 16 qs ≡ places_by 16 ws at end
  first_places = places_taken ws at end within 16

  pub first_flags : flags_at (places_by 16 ws at end) ws ≡ take 16 (flags_at qs ws)
  first_flags = ap (λ l. flags_at l ws) (sym first_places) ∙ flags_taken 16 qs ws

  -- their old flags fit a word
  pub bits_small : (flags_read 16 ws at end).bits < 65536
  bits_small = rw first_flags (digits_below 16 (flags_at qs ws))

  pub some_places : at < end → 1 ≤ length (flags_at qs ws)
  unfolding places_by
  some_places h =
      rw (length_flags qs ws, places_by_lem ws at end within (suc (end - at)) (omega arith), lt-ltb at end h) (omega arith)

---- marking

all_bits : (d : Bool) → binary 16 (cond d 65535 0) ≡ replicate 16 d
all_bits true = refl
all_bits false = refl

-- what holds before a turn: the elements from `here` on are still to be marked, in the bytes s, and i words of old flags are in o
pub record Marks (s₀ o₀ : List ℕ) (at end : ℕ) (d : Bool) (s o : List ℕ) (here i : ℕ) : Type 0 where
  pub long : length s ≡ length s₀
  pub out_long : length o ≡ length o₀
  pub few : i ≤ here
  pub put : all_put d here end s ≡ all_put d at end s₀
  pub old : words_put o i (old_flags (places_in (words s) here end) (words s)) ≡ old_put at end s₀ o₀

module _ (s₀ o₀ : List ℕ) (at end : ℕ) (d : Bool) where
  pub marks_begin : Marks s₀ o₀ at end d s₀ o₀ at 0
  unfolding old_put
  marks_begin = record { long = refl; out_long = refl; few = omega arith; put = refl; old = refl }

  pub marks_turn : (s o : List ℕ) (here i : ℕ) → Marks s₀ o₀ at end d s o here i → end ≤ length s / 2 → here < end → (new : ℕ) → new ≡ cond d 65535 0 →
      (r : Sixteen) (t u : List ℕ) → r ≡ flags_read 16 (words s) here end → t ≡ flags_put (places_by 16 (words s) here end) (binary 16 new) s → u ≡ put_word o i r.bits →
      Marks s₀ o₀ at end d t u r.next (i + 1)
  unfolding all_put
  marks_turn s o here i m room h new n r t u e f g =
      let ws = words s in
      let qs = places_in ws here end in
      let bs = replicate 16 d in
      let after = flags_put (places_by 16 ws here end) bs s in
      let is : t ≡ after = f ∙ ap (λ b. flags_put (places_by 16 ws here end) b s) (ap (binary 16) n ∙ all_bits d) in
      let more = behind_more 15 ws here end h in
      let few = m.few in
      rw (g, e, is, add-one i) (record {
        long = length_put_flags (places_by 16 ws here end) bs s ∙ m.long;
        out_long = length_put o i (digits (flags_at (places_by 16 ws here end) ws)) ∙ m.out_long;
        few = omega arith;
        put =
            ap (λ l. flags_put l (replicate (length l) d) after) (after_places s here end bs room)
            ∙ ap (λ l. flags_put (drop 16 qs) (replicate (length (drop 16 qs)) d) (flags_put l bs s)) (sym (first_places s here end bs room))
            ∙ sym (put_alike 16 d qs s) ∙ m.put;
        old =
            ap (λ l. words_put (put_word o i (digits (flags_at (places_by 16 ws here end) ws))) (suc i) (flag_words l)) (after_flags s here end bs room)
            ∙ ap (λ l. words_put o i (digits l ∷ flag_words (drop 16 (flags_at qs ws)))) (first_flags s here end bs room)
            ∙ ap (words_put o i) (sym (packed_next (flags_at qs ws) (some_places s here end bs room h))) ∙ m.old;
      })

  pub marks_end : (s o : List ℕ) (here i : ℕ) → Marks s₀ o₀ at end d s o here i → end ≤ length s / 2 → end ≤ here → (s ≡ all_put d at end s₀) × (o ≡ old_put at end s₀ o₀)
  unfolding all_put flag_words
  marks_end s o here i m room h =
      let e = none_left s here end room h in
      (rw e at m.put, rw e at m.old)

  pub marks_none : length s₀ / 2 < end → (s₀ ≡ all_put d at end s₀) × (o₀ ≡ old_put at end s₀ o₀)
  unfolding all_put old_put flag_words
  marks_none h = let e = none_short s₀ at end h in (rw e refl, rw e refl)

---- writing flags back

-- what holds before a turn: the flags of the payload's words from i on are still to be put, from `here` on, in the bytes s
pub record Restores (s₀ x : List ℕ) (at end : ℕ) (s : List ℕ) (here i : ℕ) : Type 0 where
  pub long : length s ≡ length s₀
  pub put : flags_put (places_in (words s) here end) (word_flags (drop i x)) s ≡ flags_put (places_in (words s₀) at end) (word_flags x) s₀

module _ (s₀ x : List ℕ) (at end : ℕ) where
  pub restores_begin : Restores s₀ x at end s₀ at 0
  restores_begin = record { long = refl; put = refl }

  pub restores_turn : (s : List ℕ) (here i : ℕ) → Restores s₀ x at end s here i → end ≤ length s / 2 → i < length x → (w : ℕ) → w ≡ word_at x i →
      (r : Sixteen) (t : List ℕ) → r ≡ flags_read 16 (words s) here end → t ≡ flags_put (places_by 16 (words s) here end) (binary 16 w) s →
      Restores s₀ x at end t r.next (i + 1)
  unfolding word_flags
  restores_turn s here i m room h w e r t f g =
      let ws = words s in
      let qs = places_in ws here end in
      let bs = binary 16 w in
      let after = flags_put (places_by 16 ws here end) bs s in
      let rest = word_flags (drop (suc i) x) in
      rw (f, g, add-one i) (record {
        long = length_put_flags (places_by 16 ws here end) bs s ∙ m.long;
        put =
            ap (λ l. flags_put l rest after) (after_places s here end bs room)
            ∙ ap (λ l. flags_put (drop 16 qs) rest (flags_put l bs s)) (sym (first_places s here end bs room))
            ∙ sym (put_parts bs rest qs s)
            ∙ ap (λ l. flags_put qs (word_flags l) s) (ap (λ v. v ∷ drop (suc i) x) e ∙ sym (drop-cons x i 0 h)) ∙ m.put;
      })

  pub restores_end : (s : List ℕ) (here i : ℕ) → Restores s₀ x at end s here i → length x ≤ i → s ≡ flags_put (places_in (words s₀) at end) (word_flags x) s₀
  unfolding word_flags
  restores_end s here i m h =
      sym (put_none (places_in (words s) here end) s) ∙ ap (λ l. flags_put (places_in (words s) here end) (word_flags l) s) (sym (drop_of_length-le x h)) ∙ m.put

  pub restores_none : length s₀ / 2 < end → s₀ ≡ flags_put (places_in (words s₀) at end) (word_flags x) s₀
  restores_none h = rw (none_short s₀ at end h) refl
