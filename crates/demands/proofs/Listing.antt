-- The lines along the walk are the listing: the walk's places and depths are those of the elements in file order, and an element
-- that is no text adds nothing to the lines of the texts, nor one that is no live cell to those of the plates.
use Prim.Native.Nat.{ℕ, zero, suc, ◌≤◌}
use mathlib.Core.Path.{◌≡◌, refl, sym, ap, ◌∙◌}
use mathlib.Core.Bool.{Bool, true, false, cond, ◌&&◌}
use mathlib.Core.List.{List, [], ◌∷◌, ◌++◌, map}
use mathlib.Core.Option.{some}
use lib.Dec.{eqb}
use lib.ListN.{length}
use borrow.Author.Tests.{le-leb}
use Rattle.words.specs.Words.{words}
use Rattle.kinds.specs.Kinds.{is_cell}
use Rattle.headers.specs.Header.{type_at}
use Rattle.files.specs.Judge.{judge_of}
use Rattle.files.specs.Spots.{Spot, spots_of, spot_in}
use Rattle.files.specs.Accepted.{accepted_with}
use Rattle.grammar.proofs.Exact.{count_is_length}
use Rattle.walking.specs.declared.Walk.{Walk}
use Rattle.walking.specs.Walk.{next_of, walk_start}
use Rattle.walking.proofs.Walks.{walked, walked_to, walk_is}
use Rattle.listing.specs.Lines.{heading_line, end_line}
use Rattle.listing.specs.Texts.{text_heading}
use Rattle.lines.specs.Element.{line_of}
use Rattle.text_lines.specs.Text.{text_line_of}
use Rattle.finder.specs.Finder.{is_live}
use Rattle.order.proofs.Order.{FoundIn, file_found}
use Rattle.plates.specs.Plates.{plate_of}
use Rattle.plates.proofs.Promises.{plate_given}
use Rattle.plate_lines.specs.Plate.{line_by, line_in}
use Rattle.demands.specs.Listing.{listed, lines_of, listing_of, texts_among, text_listing_of, cells_among, plate_listing_of, lines_along, walk_lines, walk_texts, walk_plates, walk_place}

---- any line

abbrev lines : (ℕ → ℕ → List ℕ) → List (ℕ × ℕ) → List ℕ
lines line [] = []
lines line (x ∷ xs) = line x.0 x.1 ++ lines line xs

walk_place_lem : (n : ℕ) (ws : List ℕ) (w : Walk) → walk_place n ws w ≡ (walked_to n ws w).place
walk_place_lem zero ws w = refl
walk_place_lem (suc n) ws w = walk_place_lem n ws (next_of ws w)

lines_along_lem : (line : ℕ → ℕ → List ℕ) (n : ℕ) (ws : List ℕ) (w : Walk) → lines_along line n ws w ≡ lines line (walked n ws w)
lines_along_lem line zero ws w = refl
lines_along_lem line (suc n) ws w = ap (λ l. line w.place w.depth ++ l) (lines_along_lem line n ws (next_of ws w))

lines_of_lem : (line : ℕ → ℕ → List ℕ) (xs : List Spot) → lines line (map (λ x. (x.place, x.depth)) xs) ≡ lines_of line xs
lines_of_lem line [] = refl
lines_of_lem line (x ∷ xs) = ap (λ l. line x.place x.depth ++ l) (lines_of_lem line xs)

module _ (s : List ℕ) (e d m : ℕ) (q : judge_of 2 s ≡ accepted_with e d m) where
  along_is : (line : ℕ → ℕ → List ℕ) → lines_along line e (words s) walk_start ≡ lines_of line (spots_of 2 (words s))
  along_is line =
      ap (λ n. lines_along line n (words s) walk_start) (count_is_length 2 s e d m q)
      ∙ lines_along_lem line (length (spots_of 2 (words s))) (words s) walk_start
      ∙ ap (lines line) (walk_is 2 s e d m q).0
      ∙ lines_of_lem line (spots_of 2 (words s))

  then_marker : walk_place e (words s) walk_start ≡ m
  then_marker =
      ap (λ n. walk_place n (words s) walk_start) (count_is_length 2 s e d m q)
      ∙ walk_place_lem (length (spots_of 2 (words s))) (words s) walk_start
      ∙ (walk_is 2 s e d m q).1

  accepted_listed : (whole : ℕ → List ℕ) → length s ≤ 65536 → listed whole s ≡ whole m
  unfolding listed
  accepted_listed whole h = rw (le-leb (length s) 65536 h, q) refl

---- the elements and the texts

pub listing_is : (s : List ℕ) (e d m : ℕ) → length s ≤ 65536 → judge_of 2 s ≡ accepted_with e d m →
    (heading_line ++ (walk_lines e (words s) walk_start ++ end_line m) ≡ listing_of s) × (walk_place e (words s) walk_start ≡ m)
listing_is s e d m h q =
    let same = along_is s e d m q (line_of (words s)) in
    (ap (λ l. heading_line ++ (l ++ end_line m)) same ∙ sym (accepted_listed s e d m q (λ m. heading_line ++ (lines_of (line_of (words s)) (spots_of 2 (words s)) ++ end_line m)) h), then_marker s e d m q)

-- what is no text has no line
texts_alone : (s : List ℕ) (xs : List Spot) → lines_of (text_line_of s) xs ≡ lines_of (text_line_of s) (texts_among (words s) xs)
unfolding text_line_of
texts_alone s [] = refl
texts_alone s (x ∷ xs) = go (eqb (type_at (words s) x.place) 17) refl (texts_alone s xs)
  where
    go : (t : Bool) → eqb (type_at (words s) x.place) 17 ≡ t → lines_of (text_line_of s) xs ≡ lines_of (text_line_of s) (texts_among (words s) xs) →
        lines_of (text_line_of s) (x ∷ xs) ≡ lines_of (text_line_of s) (cond t (x ∷ texts_among (words s) xs) (texts_among (words s) xs))
    go true e r = ap (λ l. text_line_of s x.place x.depth ++ l) r
    go false e r = rw e r

pub text_listing_is : (s : List ℕ) (e d m : ℕ) → length s ≤ 65536 → judge_of 2 s ≡ accepted_with e d m →
    text_heading ++ (walk_texts e s walk_start ++ end_line m) ≡ text_listing_of s
text_listing_is s e d m h q =
    let same = along_is s e d m q (text_line_of s) ∙ texts_alone s (spots_of 2 (words s)) in
    let texts = lines_of (text_line_of s) (texts_among (words s) (spots_of 2 (words s))) in
    ap (λ l. text_heading ++ (l ++ end_line m)) same ∙ sym (accepted_listed s e d m q (λ m. text_heading ++ (texts ++ end_line m)) h)

---- the plates

module _ (s : List ℕ) (e d m : ℕ) (q : judge_of 2 s ≡ accepted_with e d m) where
  abbrev ws : List ℕ
  ws = words s

  -- an element of the file has a line where it is a live cell, that of its plate
  line_is : (x : Spot) → spot_in (spots_of 2 (words s)) x.place ≡ some x → (b c : Bool) → is_cell (type_at ws x.place) ≡ b → is_live ws x.place ≡ c →
      line_in ws x.place ≡ cond (b && c) (line_by x.place (plate_of 2 s x.place)) []
  unfolding line_in
  line_is x f true true k l = rw (l, (plate_given 2 s x.place e d m x q f).judged) refl
  line_is x f true false k l = rw l refl
  line_is x f false false k l = rw l refl
  line_is x f false true k l = let g = plate_given 2 s x.place e d m x q f in rw (l, g.judged, g.other k) refl

  cells_alone : (xs : List Spot) → FoundIn (spots_of 2 (words s)) xs →
      lines_of (λ at depth. line_in ws at) xs ≡ lines_of (λ at depth. line_by at (plate_of 2 s at)) (cells_among ws xs)
  cells_alone [] f = refl
  cells_alone (x ∷ xs) f = go (is_cell (type_at ws x.place)) refl (is_live ws x.place) refl (line_is x f.0) (cells_alone xs f.1)
    where
      go : (b : Bool) → is_cell (type_at ws x.place) ≡ b → (c : Bool) → is_live ws x.place ≡ c →
          ((b c : Bool) → is_cell (type_at ws x.place) ≡ b → is_live ws x.place ≡ c → line_in ws x.place ≡ cond (b && c) (line_by x.place (plate_of 2 s x.place)) []) →
          lines_of (λ at depth. line_in ws at) xs ≡ lines_of (λ at depth. line_by at (plate_of 2 s at)) (cells_among ws xs) →
          line_in ws x.place ++ lines_of (λ at depth. line_in ws at) xs ≡ lines_of (λ at depth. line_by at (plate_of 2 s at)) (cond (b && c) (x ∷ cells_among ws xs) (cells_among ws xs))
      go true k true l line r = rw (line true true k l, r) refl
      go true k false l line r = rw (line true false k l, r) refl
      go false k c l line r = rw (line false c k l, r) refl

pub plate_listing_is : (s : List ℕ) (e d m : ℕ) → length s ≤ 65536 → judge_of 2 s ≡ accepted_with e d m → walk_plates e (words s) walk_start ≡ plate_listing_of s
plate_listing_is s e d m h q =
    let plates = lines_of (λ at depth. line_by at (plate_of 2 s at)) (cells_among (words s) (spots_of 2 (words s))) in
    along_is s e d m q (λ at depth. line_in (words s) at) ∙ cells_alone s e d m q (spots_of 2 (words s)) (file_found 2 s e d m q)
    ∙ sym (accepted_listed s e d m q (λ m. plates) h)
