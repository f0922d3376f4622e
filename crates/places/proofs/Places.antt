-- In an accepted file the descent finds what the list of the file's elements has at a place; and what is found lies
-- within the file, before its marker.
use Prim.Native.Nat.{ℕ, suc, ◌/◌, ◌≤◌, ◌<◌}
use mathlib.Core.Path.{◌≡◌, refl, sym, ap, ◌∙◌}
use mathlib.Core.Bool.{Bool, true, false}
use mathlib.Core.List.{List}
use mathlib.Core.Option.{Option, none, some}
use native.Mathlib.Omega.{arith}
use lib.ListN.{length}
use lib.Dec.{ltb}
use borrow.Author.Tests.{lt-ltb, le-ltb, ltb-true, ltb-false}
use Rattle.words.specs.Words.{words}
use Rattle.words.proofs.Laws.{length_words}
use Rattle.files.specs.Judge.{judge_of}
use Rattle.limits.specs.Limits.{call_ok}
use Rattle.files.specs.Spots.{Spot, spots_of, spot_in}
use Rattle.grammar.proofs.Stands.{Stands}
use Rattle.grammar.proofs.Forest.{Forest, flat, Wf, spots}
use Rattle.grammar.proofs.Places.{spot_after, spot_within}
use Rattle.grammar.proofs.Ruled.{Ruled, spot_ruled}
use Rattle.grammar.proofs.Whole.{FileTree, file_tree}
use Rattle.grammar.proofs.Exact.{accepted_is}
use Rattle.places.specs.declared.Above.{Above}
use Rattle.places.specs.Places.{found_by, spotted_at, placed_at}
use Rattle.places.specs.Descent.{descent_to, locate_of}
use Rattle.places.proofs.Descent.{locate_tree}
use Rattle.std.specs.Prelude.{Err, Ok, Result}
use Rattle.files.specs.Accepted.{accepted_with}
use Rattle.files.specs.declared.Accepted.{Accepted}
use Rattle.places.specs.Placed.{placed_with}
use Rattle.places.specs.Spotted.{spotted_with}
use Rattle.places.specs.declared.Spotted.{Spotted}
use Rattle.refusals.specs.Refusals.{refused_with}
use Rattle.refusals.proofs.Laws.{given_is, refusal_is, refused_not_given, given_not_refused}
use Rattle.refusals.specs.declared.Refusal.{Refusal}

---- the descent to a place before the marker

pub locate_before : (ws : List ℕ) (p marker : ℕ) → p < marker → p < length ws → locate_of ws p marker ≡ descent_to ws p
unfolding locate_of
locate_before ws p marker h l = rw (lt-ltb p marker h, lt-ltb p (length ws) l)

pub locate_after : (ws : List ℕ) (p marker : ℕ) → marker ≤ p → locate_of ws p marker ≡ refused_with 13 0
unfolding locate_of
locate_after ws p marker h = rw (le-ltb p marker h)

pub locate_outside : (ws : List ℕ) (p marker : ℕ) → p < marker → length ws ≤ p → locate_of ws p marker ≡ refused_with 13 0
unfolding locate_of
locate_outside ws p marker h l = rw (lt-ltb p marker h, le-ltb p (length ws) l)

-- in the words of a tree it finds what the list of its elements has
descent_tree : (dim : ℕ) (ws : List ℕ) (p : ℕ) (f : Forest) → Wf dim 0 0 f → Stands (flat f) 0 ws → p < length (flat f) → descent_to ws p ≡ found_by (spot_in (spots 0 none 0 f) p)
unfolding descent_to
descent_tree dim ws p f w s h = locate_tree dim ws p f 0 0 none 0 w s (omega arith) (suc p) (omega arith)

---- in an accepted file

module _ (dim : ℕ) (s : List ℕ) (e d m : ℕ) (accepted : judge_of dim s ≡ accepted_with e d m) where
  tree : FileTree dim (words s) (spots_of dim (words s)) m
  tree = file_tree (accepted_is dim s e d m accepted).file

  -- the descent finds the element that the list has at the place, and nothing where it has none
  pub locate_is : (p : ℕ) → locate_of (words s) p m ≡ found_by (spot_in (spots_of dim (words s)) p)
  locate_is p = go (ltb p m) refl ∙ ap (λ xs. found_by (spot_in xs p)) tree.read
    where
      go : (b : Bool) → ltb p m ≡ b → locate_of (words s) p m ≡ found_by (spot_in (spots 0 none 0 tree.tree) p)
      go true q =
          let h = ltb-true p m q in
          let l = tree.end in
          let x = tree.ends.0 in
          locate_before (words s) p m h (omega arith)
          ∙ descent_tree dim (words s) p tree.tree tree.wf tree.stands (omega arith)
      go false q =
          let h = ltb-false p m q in
          let l = tree.end in
          locate_after (words s) p m h ∙ ap found_by (sym (spot_after dim 0 0 none 0 tree.tree p tree.wf (omega arith)))

  -- what is found starts at the place, has a word and ends by the marker, which lies in the file
  pub spot_inside : (p : ℕ) (x : Spot) → spot_in (spots_of dim (words s)) p ≡ some x → (p < x.end) × (x.end ≤ m) × (m < length (words s))
  spot_inside p x q =
      let w = spot_within dim 0 0 none 0 tree.tree p x tree.wf (ap (λ xs. spot_in xs p) tree.read ∙ q) in
      let l = tree.end in
      let y = tree.ends.0 in
      let b = w.by in
      (w.long, omega arith, omega arith)

  -- and it passes the tests of one element there
  pub spot_rules : (p : ℕ) (x : Spot) → spot_in (spots_of dim (words s)) p ≡ some x → Ruled dim (words s) p
  spot_rules p x q =
      let y = tree.ends.0 in
      spot_ruled dim (words s) 0 0 none 0 tree.tree p x tree.wf tree.stands (omega arith) (ap (λ xs. spot_in xs p) tree.read ∙ q)

---- what a call on a file answers

pub spotted_refused : (dim : ℕ) (s : List ℕ) (p n q : ℕ) → judge_of dim s ≡ refused_with n q → spotted_at dim s p ≡ refused_with n q
unfolding spotted_at
spotted_refused dim s p n q e = rw e

pub spotted_found : (dim : ℕ) (s : List ℕ) (p e d m : ℕ) → judge_of dim s ≡ accepted_with e d m → spotted_at dim s p ≡ found_by (spot_in (spots_of dim (words s)) p)
unfolding spotted_at
spotted_found dim s p e d m q = rw q

pub spotted_located : (dim : ℕ) (s : List ℕ) (p e d m : ℕ) → judge_of dim s ≡ accepted_with e d m → spotted_at dim s p ≡ locate_of (words s) p m
spotted_located dim s p e d m q = spotted_found dim s p e d m q ∙ sym (locate_is dim s e d m q p)

-- the same with the marker's place
pub placed_refused : (dim : ℕ) (s : List ℕ) (p n q : ℕ) → judge_of dim s ≡ refused_with n q → placed_at dim s p ≡ refused_with n q
unfolding placed_at
placed_refused dim s p n q e = rw e

pub placed_located : (dim : ℕ) (s : List ℕ) (p e d m : ℕ) → judge_of dim s ≡ accepted_with e d m → placed_at dim s p ≡ placed_with m (locate_of (words s) p m)
unfolding placed_at
placed_located dim s p e d m q = rw q (ap (placed_with m) (sym (locate_is dim s e d m q p)))

-- and back: what the answer says of the file and of the place
pub record Located (dim : ℕ) (s : List ℕ) (p m : ℕ) (found : Result Spotted Refusal) : Type 0 where
  pub elements : ℕ
  pub deepest : ℕ
  pub judged : judge_of dim s ≡ accepted_with elements deepest m
  pub is : found ≡ locate_of (words s) p m

module _ (dim : ℕ) (s : List ℕ) (p : ℕ) where
  pub refused_judged : (n q : ℕ) → placed_at dim s p ≡ refused_with n q → judge_of dim s ≡ refused_with n q
  refused_judged n q h = go (judge_of dim s) refl
    where
      go : (v : Result Accepted Refusal) → judge_of dim s ≡ v → judge_of dim s ≡ refused_with n q
      go (Err refusal) j = j ∙ ap Err (refusal_is (sym (placed_refused dim s p refusal.number refusal.place j) ∙ h))
      go (Ok file) j = absurd (refused_not_given (sym (placed_located dim s p file.elements file.deepest file.marker j) ∙ h))

  pub judged_located : (m : ℕ) (found : Result Spotted Refusal) → placed_at dim s p ≡ placed_with m found → Located dim s p m found
  judged_located m found h = go (judge_of dim s) refl
    where
      go : (v : Result Accepted Refusal) → judge_of dim s ≡ v → Located dim s p m found
      go (Err refusal) j = absurd (refused_not_given (sym h ∙ placed_refused dim s p refusal.number refusal.place j))
      go (Ok file) j =
          let l = given_is (sym (placed_located dim s p file.elements file.deepest file.marker j) ∙ h) in
          let same : file.marker ≡ m = ap (λ t. t.marker) l in
          let f : locate_of (words s) p file.marker ≡ found = ap (λ t. t.found) l in
          record { elements = file.elements; deepest = file.deepest; judged = j ∙ ap (accepted_with file.elements file.deepest) same; is = sym f ∙ ap (locate_of (words s) p) same }

  pub placed_none : (n q : ℕ) → placed_at dim s p ≡ refused_with n q → refused_with n q ≡ spotted_at dim s p
  placed_none n q h = sym (spotted_refused dim s p n q (refused_judged n q h))

  pub placed_found : (m : ℕ) (found : Result Spotted Refusal) → placed_at dim s p ≡ placed_with m found → found ≡ spotted_at dim s p
  placed_found m found h = let l = judged_located m found h in l.is ∙ sym (spotted_located dim s p l.elements l.deepest m l.judged)

-- an element that is found: its place and its end lie in the file, whose dimension is 2 or 3
pub record Inside (dim : ℕ) (s : List ℕ) (p end : ℕ) : Type 0 where
  pub call : call_ok dim s ≡ true
  pub long : p < end
  pub by : end ≤ length s / 2

pub spotted_inside : (dim : ℕ) (s : List ℕ) (p end depth : ℕ) (above : Above) → spotted_at dim s p ≡ spotted_with end depth above → Inside dim s p end
spotted_inside dim s p end depth above q = go (judge_of dim s) refl
  where
    found : (e d m : ℕ) → judge_of dim s ≡ accepted_with e d m → (o : Option Spot) → spot_in (spots_of dim (words s)) p ≡ o → found_by o ≡ spotted_with end depth above → Inside dim s p end
    found e d m j none i f = absurd (given_not_refused f)
    found e d m j (some x) i f =
        let y : x.end ≡ end = ap (λ t. t.end) (given_is f) in
        let b = spot_inside dim s e d m j p x i in
        let l = length_words s in
        record { call = (accepted_is dim s e d m j).call; long = omega arith; by = omega arith }

    go : (v : Result Accepted Refusal) → judge_of dim s ≡ v → Inside dim s p end
    go (Err refusal) j = absurd (refused_not_given (sym q ∙ spotted_refused dim s p refusal.number refusal.place j))
    go (Ok file) j = found file.elements file.deepest file.marker j (spot_in (spots_of dim (words s)) p) refl (sym (spotted_found dim s p file.elements file.deepest file.marker j) ∙ q)
