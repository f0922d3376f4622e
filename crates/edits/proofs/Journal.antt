-- A record read back: behind any journal words its six last words give its kind, its places and its payload's length,
-- and with them the payload and the words before it.
use Prim.Native.Nat.{ℕ, ◌+◌, ◌-◌, ◌*◌, ◌/◌, ◌%◌, ◌≤◌, ◌<◌}
use mathlib.Core.Path.{◌≡◌, refl, sym, ap, ◌∙◌}
use mathlib.Core.List.{List, [], ◌∷◌, ◌++◌, append_assoc}
use mathlib.Core.Option.{Option, none, some}
use native.Mathlib.Omega.{arith}
use lib.ListN.{length, take, drop, length-append}
use lib.Seq.{take_at, drop_at, get_or-append-add, get_or-append_seam}
use borrow.Author.Tests.{le-leb, ne_eqb}
use Rattle.words.specs.Words.{Below}
use Rattle.edits.specs.Records.{Rec, flag, renamed, inserted, removed, long, six, record_words, keep, place_of, kind_of, formed, build, last_record}
use Rattle.edits.proofs.Accepted.{Small, SmallHeader}
use Rattle.edits.proofs.Bounds.{below_nil, below_cons, below_append}

-- the last six words of a journal, and the payload before them
six_read : (pre : List ℕ) (k a b c d n : ℕ) → n ≤ length pre
    → last_record (pre ++ (k ∷ a ∷ b ∷ c ∷ d ∷ n ∷ []))
    ≡ keep (formed (kind_of k) (place_of (65536 * a + b)) n) (build (kind_of k) (place_of (65536 * a + b)) (65536 * c + d)
    (take n (drop (length pre - n) (pre ++ (k ∷ a ∷ b ∷ c ∷ d ∷ n ∷ [])))) (take (length pre - n) (pre ++ (k ∷ a ∷ b ∷ c ∷ d ∷ n ∷ []))))
unfolding last_record
six_read pre k a b c d n h =
    let t = k ∷ a ∷ b ∷ c ∷ d ∷ n ∷ [] in
    let l : length (pre ++ (k ∷ a ∷ b ∷ c ∷ d ∷ n ∷ [])) ≡ length pre + 6 = length-append pre t in
    let from : length (pre ++ (k ∷ a ∷ b ∷ c ∷ d ∷ n ∷ [])) - 6 ≡ length pre = omega arith in
    let two : length pre + 1 + 1 ≡ length pre + 2 = omega arith in
    let four : length pre + 3 + 1 ≡ length pre + 4 = omega arith in
    rw (
      le-leb 6 (length (pre ++ t)) (omega arith),
      from,
      two,
      four,
      get_or-append_seam pre k (a ∷ b ∷ c ∷ d ∷ n ∷ []) 0,
      get_or-append-add pre t 1 0,
      get_or-append-add pre t 2 0,
      get_or-append-add pre t 3 0,
      get_or-append-add pre t 4 0,
      get_or-append-add pre t 5 0,
      le-leb n (length pre) h,
    ) refl

-- a payload of n words and the six words behind it, after any journal words
record_read : (js x : List ℕ) (k a b c d n : ℕ) → n ≡ length x
    → last_record (js ++ (x ++ (k ∷ a ∷ b ∷ c ∷ d ∷ n ∷ [])))
    ≡ keep (formed (kind_of k) (place_of (65536 * a + b)) n) (build (kind_of k) (place_of (65536 * a + b)) (65536 * c + d) x js)
record_read js x k a b c d n e =
    let t = k ∷ a ∷ b ∷ c ∷ d ∷ n ∷ [] in
    let l : length (js ++ x) ≡ length js + length x = length-append js x in
    let from : length (js ++ x) - n ≡ length js = omega arith in
    ap last_record (sym (append_assoc js x t)) ∙ six_read (js ++ x) k a b c d n (omega arith)
    ∙ rw (from, append_assoc js x t, drop_at js (x ++ t) (length js) refl, take_at js (x ++ t) (length js) refl, take_at x t n (sym e)) refl

-- a place read back, and a header's
long_back : (p : ℕ) → 65536 * (p / 65536) + p % 65536 ≡ p
long_back p = omega arith

place_back : (h : ℕ) → h < 4294967295 → place_of (65536 * (h / 65536) + h % 65536) ≡ some h
place_back h l = rw (long_back h, ne_eqb h 4294967295 (λ e. omega arith)) refl

-- a record goes in and is read back, with the words before it
pub reads : (js : List ℕ) (r : Rec) → Small r → last_record (js ++ record_words r) ≡ some (r, js)
unfolding record_words
reads js (flag p x) s =
    record_read js x 1 65535 65535 (p / 65536) (p % 65536) (length x) refl
    ∙ rw (le-leb 1 (length x) s.1.1.1) (ap (λ q. some (flag q x, js)) (long_back p))
reads js (renamed p a b) s = record_read js (a ∷ b ∷ []) 2 65535 65535 (p / 65536) (p % 65536) 2 refl ∙ ap (λ q. some (renamed q a b, js)) (long_back p)
reads js (inserted none p) s = record_read js [] 3 65535 65535 (p / 65536) (p % 65536) 0 refl ∙ ap (λ q. some (inserted none q, js)) (long_back p)
reads js (inserted (some h) p) s =
    record_read js [] 3 (h / 65536) (h % 65536) (p / 65536) (p % 65536) 0 refl
    ∙ rw (place_back h s.0) (ap (λ q. some (inserted (some h) q, js)) (long_back p))
reads js (removed none p x) s =
    record_read js x 4 65535 65535 (p / 65536) (p % 65536) (length x) refl ∙ ap (λ q. some (removed none q x, js)) (long_back p)
reads js (removed (some h) p x) s =
    record_read js x 4 (h / 65536) (h % 65536) (p / 65536) (p % 65536) (length x) refl
    ∙ rw (place_back h s.0) (ap (λ q. some (removed (some h) q x, js)) (long_back p))

-- a record's words are words
place_below : (p : ℕ) → p < 4294967296 → Below 65536 (long (some p))
place_below p s =
    below_cons 65536 (p / 65536) (p % 65536 ∷ []) (omega arith) (below_cons 65536 (p % 65536) [] (omega arith) (below_nil 65536 (omega arith)))

header_below : (h : Option ℕ) → SmallHeader h → Below 65536 (long h)
header_below none s = below_cons 65536 65535 (65535 ∷ []) (omega arith) (below_cons 65536 65535 [] (omega arith) (below_nil 65536 (omega arith)))
header_below (some h) s = place_below h (omega arith)

six_below : (k : ℕ) (h : Option ℕ) (p n : ℕ) → k < 65536 → SmallHeader h → p < 4294967296 → n < 65536 → Below 65536 (six k h p n)
six_below k h p n a b c d =
    below_cons 65536 k (long h ++ (long (some p) ++ (n ∷ []))) a
    (below_append 65536 (long h) (long (some p) ++ (n ∷ [])) (header_below h b)
    (below_append 65536 (long (some p)) (n ∷ []) (place_below p c) (below_cons 65536 n [] d (below_nil 65536 (omega arith)))))

pub record_below : (r : Rec) → Small r → Below 65536 (record_words r)
unfolding record_words
record_below (flag p x) s =
    below_append 65536 x (six 1 none p (length x)) s.1.1.0 (six_below 1 none p (length x) (omega arith) tt s.0 s.1.0)
record_below (renamed p a b) s =
    below_cons 65536 a (b ∷ six 2 none p 2) s.1.0 (below_cons 65536 b (six 2 none p 2) s.1.1 (six_below 2 none p 2 (omega arith) tt s.0 (omega arith)))
record_below (inserted h p) s = six_below 3 h p 0 (omega arith) s.0 s.1 (omega arith)
record_below (removed h p x) s =
    below_append 65536 x (six 4 h p (length x)) s.1.1.1 (six_below 4 h p (length x) (omega arith) s.0 s.1.0 s.1.1.0)

-- a record is not empty
pub six_long : (k : ℕ) (h : Option ℕ) (p n : ℕ) → length (six k h p n) ≡ 6
six_long k none p n = refl
six_long k (some h) p n = refl

pub record_long : (r : Rec) → 6 ≤ length (record_words r)
unfolding record_words
record_long (flag p x) = omega (arith, six_long 1 none p (length x), length-append x (six 1 none p (length x)))
record_long (renamed p a b) = omega arith
record_long (inserted h p) = omega (arith, six_long 3 h p 0)
record_long (removed h p x) = omega (arith, six_long 4 h p (length x), length-append x (six 4 h p (length x)))
