-- A header corrected in a file's bytes is the header corrected in its words, where its total and its count fit a word; of
-- a header of the grammar they do. Length and bytes are kept.
use Prim.Native.Nat.{ℕ, suc, ◌+◌, ◌≤◌, ◌<◌, ◌/◌, ◌%◌}
use native.Mathlib.Omega.{arith}
use mathlib.Core.Path.{◌≡◌, refl, sym, ap, ◌∙◌}
use mathlib.Core.Bool.{Bool, true, false, ◌&&◌, and-eq-true_iff}
use mathlib.Core.List.{List}
use lib.ListN.{length, set, length-append}
use lib.Seq.{get_or-set_other, drop-set-lt}
use lib.Dec.{ltb}
use Rattle.words.specs.Words.{words, Below, word_at, put_by, put_word}
use Rattle.words.proofs.Laws.{length_put, words_put}
use Rattle.headers.specs.Header.{type_at}
use Rattle.kinds.specs.Kinds.{is_header, is_counted}
use Rattle.grammar.proofs.Tests.{OwnTests}
use Rattle.grammar.proofs.Forest.{Forest, nil, node, flat, num, Wf}
use Rattle.grammar.proofs.Stands.{Stands, stands_word}
use Rattle.grammar.proofs.Rules.{own_two, own_type, own_extent}
use Rattle.edits.specs.Edits.{moved, count_moved, corrected}
use Rattle.edits.proofs.Parts.{below_set}
use Rattle.edits.proofs.Grown.{header_twenty, header_extent, header_count}
use Rattle.totals.specs.Totals.{word_moved, count_put, header_put}

---- bytes

pub below_put : (s : List ℕ) (i w : ℕ) → Below 256 s → Below 256 (put_word s i w)
unfolding put_word
below_put s i w b = go (ltb i (length s / 2))
  where
    go : (t : Bool) → Below 256 (put_by t s i w)
    go true = below_set (set s _ (w % 256)) _ (w / 256 % 256) (below_set s _ (w % 256) b (omega arith)) (omega arith)
    go false = b

module _ (up : Bool) (n : ℕ) (direct : Bool) (q : ℕ) (s : List ℕ) where
  pub length_header : length (header_put up n direct q s) ≡ length s
  unfolding header_put word_moved
  length_header = go (direct && is_counted (type_at (words s) q))
    where
      go : (b : Bool) → length (count_put b up q (word_moved up n (q + 18) s)) ≡ length s
      go true = length_put _ (q + 19) _ ∙ length_put s (q + 18) _
      go false = length_put s (q + 18) _

  pub below_header : Below 256 s → Below 256 (header_put up n direct q s)
  unfolding header_put word_moved
  below_header b = go (direct && is_counted (type_at (words s) q))
    where
      go : (t : Bool) → Below 256 (count_put t up q (word_moved up n (q + 18) s))
      go true = below_put _ (q + 19) _ (below_put s (q + 18) _ b)
      go false = below_put s (q + 18) _ b

---- words

words_moved : (up : Bool) (n i : ℕ) (s : List ℕ) → moved up n (word_at (words s) i) < 65536 → words (word_moved up n i s) ≡ set (words s) i (moved up n (word_at (words s) i))
unfolding word_moved
words_moved up n i s h =
    let v = moved up n (word_at (words s) i) in
    let e : moved up n (word_at (words s) i) % 65536 ≡ moved up n (word_at (words s) i) = omega arith in
    words_put s i (v % 65536) (omega arith) ∙ ap (set (words s) i) e

module _ (up : Bool) (n : ℕ) (direct : Bool) (q : ℕ) (s : List ℕ) where
  -- the total fits, and the count where it is corrected
  pub words_header : moved up n (word_at (words s) (q + 18)) < 65536 → ((direct && is_counted (type_at (words s) q)) ≡ true → moved up 1 (word_at (words s) (q + 19)) < 65536) →
      words (header_put up n direct q s) ≡ corrected up n direct q (words s)
  unfolding header_put corrected
  words_header t c = go (direct && is_counted (type_at (words s) q)) c
    where
      total : words (word_moved up n (q + 18) s) ≡ set (words s) (q + 18) (moved up n (word_at (words s) (q + 18)))
      total = words_moved up n (q + 18) s t

      other : word_at (set (words s) (q + 18) (moved up n (word_at (words s) (q + 18)))) (q + 19) ≡ word_at (words s) (q + 19)
      other = get_or-set_other (words s) (q + 18) (q + 19) _ 0 (omega arith)

      go : (b : Bool) → (b ≡ true → moved up 1 (word_at (words s) (q + 19)) < 65536) →
          words (count_put b up q (word_moved up n (q + 18) s)) ≡ count_moved b up q (set (words s) (q + 18) (moved up n (word_at (words s) (q + 18))))
      go true f = words_moved up 1 (q + 19) (word_moved up n (q + 18) s) (rw (total, other) (f refl)) ∙ ap (count_moved true up q) total
      go false f = total

---- a header of the grammar

num_short : (dim depth under : ℕ) (f : Forest) → Wf dim depth under f → num f ≤ length (flat f)
num_short dim depth under nil x = omega arith
num_short dim depth under (node own k r) x =
    let two = own_two x.0 in
    let e = num_short dim depth under r x.2 in
    simp length-append (omega arith)

module _ {dim depth under : ℕ} {own : List ℕ} (k : Forest) (o : OwnTests dim depth under own (length (flat k)) (num k)) (y : Wf dim (suc depth) (type_at own 0) k) (h : is_header (type_at own 0) ≡ true)
    (up : Bool) (n : ℕ) (room : up ≡ true → length own + length (flat k) + n ≤ 65535) where
  total_fits : (ws : List ℕ) (q : ℕ) → Stands own q ws → moved up n (word_at ws (q + 18)) < 65536
  total_fits ws q t = go up room
    where
      go : (u : Bool) → (u ≡ true → length own + length (flat k) + n ≤ 65535) → moved u n (word_at ws (q + 18)) < 65536
      go true r = let m = r refl in let e = own_extent o t h in omega arith
      go false r = let m = (header_extent o h).1 in let e = own_extent o t h in omega arith

  count_fits : (ws : List ℕ) (q : ℕ) → Stands own q ws → is_counted (type_at own 0) ≡ true → moved up 1 (word_at ws (q + 19)) < 65536
  count_fits ws q t c =
      let l = header_twenty o h in
      let m = (header_extent o h).1 in
      let z = num_short dim (suc depth) (type_at own 0) k y in
      let e : word_at ws (q + 19) ≡ num k = stands_word t 19 (omega arith) ∙ header_count o h c in
      go up (omega arith)
    where
      go : (u : Bool) → word_at ws (q + 19) + 1 < 65536 → moved u 1 (word_at ws (q + 19)) < 65536
      go true b = b
      go false b = omega arith

  -- it is corrected in the bytes as in the words
  pub header_is : (direct : Bool) (q : ℕ) (s : List ℕ) → Stands own q (words s) → words (header_put up n direct q s) ≡ corrected up n direct q (words s)
  header_is direct q s t =
      words_header up n direct q s (total_fits (words s) q t)
      (λ e. count_fits (words s) q t (ap is_counted (sym (own_type o t)) ∙ ((and-eq-true_iff direct (is_counted (type_at (words s) q))).0 e).1))

-- what stands after a header is not touched
stands_after : (own ws : List ℕ) (at i v : ℕ) → i < at → Stands own at ws → Stands own at (set ws i v)
stands_after own ws at i v h t = record { is = rw (drop-set-lt at ws i v h) t.is }

pub stands_corrected : (up : Bool) (n : ℕ) (direct : Bool) (q : ℕ) (ws own : List ℕ) (at : ℕ) → q + 20 ≤ at → Stands own at ws → Stands own at (corrected up n direct q ws)
unfolding corrected
stands_corrected up n direct q ws own at h t = go (direct && is_counted (type_at ws q))
  where
    go : (b : Bool) → Stands own at (count_moved b up q (set ws (q + 18) (moved up n (word_at ws (q + 18)))))
    go true = stands_after own _ at (q + 19) _ (omega arith) (stands_after own ws at (q + 18) _ (omega arith) t)
    go false = stands_after own ws at (q + 18) _ (omega arith) t
