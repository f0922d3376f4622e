-- The finder's loops. Elements of a part of a file answer what they answer by their places alone; and the answer for the
-- elements up to a place, with the elements of the next extent, gives the answer up to its end.
use Prim.Native.Nat.{ℕ, ◌+◌, ◌-◌, ◌/◌, ◌%◌, ◌≤◌, ◌<◌}
use mathlib.Core.Path.{◌≡◌, refl, sym, ap, ◌∙◌, subst}
use mathlib.Core.Bool.{Bool, true, false, ◌&&◌, ◌||◌, false≢true}
use mathlib.Core.List.{List, [], ◌∷◌, ◌++◌, append-nil}
use mathlib.Core.Option.{none}
use native.Mathlib.Omega.{arith}
use native.Mathlib.Nat.{add_assoc, add-zero}
use lib.ListN.{length, length-append}
use lib.Dec.{ltb, leb, eqb}
use borrow.Author.Tests.{leb-true}
use Rattle.headers.proofs.Checks.{both_true}
use Rattle.words.specs.Words.{words}
use Rattle.headers.specs.Header.{type_at, size_at}
use Rattle.kinds.specs.Kinds.{is_header}
use Rattle.names.specs.Names.{packed}
use Rattle.files.specs.Ends.{stop_of}
use Rattle.files.specs.Judge.{element_of, judge_of}
use Rattle.limits.specs.Limits.{call_ok}
use Rattle.files.specs.Reach.{reached_of, stops_after}
use Rattle.files.specs.Spots.{Spot, spots_of}
use Rattle.files.specs.declared.Stop.TheVariants.{More, Done}
use Rattle.grammar.proofs.Tests.{Extent}
use Rattle.grammar.proofs.Forest.{nil, node, flat, num, spots}
use Rattle.grammar.proofs.Stands.{stands_left}
use Rattle.grammar.proofs.Rules.{own_type, own_size}
use Rattle.finder.specs.declared.Wanted.{Wanted}
use Rattle.finder.specs.Finder.{is_hit, hit_if, first_named, search_of, find_of}
use Rattle.finder.specs.Look.{InOrder, MayLook, MayPass, passed_by, FirstFrom}
use Rattle.finder.proofs.Order.{order_append, order_room, tree_order, file_order}
use Rattle.finder.proofs.Named.{name_none, hit_none}
use Rattle.grammar.proofs.Tops.{Judged, judged_none, judged_done, judged_read, judged_on, judged_more, Arrived, arrived}
use Rattle.std.specs.Prelude.{Err, Ok, Result}
use Rattle.files.specs.declared.Accepted.{Accepted}
use Rattle.files.specs.Judgement.{good_with}
use Rattle.files.specs.ReachedAnswers.{an_element, an_end}
use Rattle.files.specs.declared.Reached.{Reached}
use Rattle.finder.specs.Found.{found_with, missed_with, unlooked, none_named}
use Rattle.finder.specs.declared.Found.{Found}
use Rattle.finder.specs.declared.Missed.{Missed}
use Rattle.names.specs.Name.{packed_to}
use Rattle.refusals.proofs.Laws.{refusal_is}
use Rattle.refusals.specs.declared.Refusal.{Refusal}

---- a look at the elements of a part

-- no element is left
pub look_none : (w : Wanted) (ws : List ℕ) (a b n at end : ℕ) → end ≤ at → FirstFrom w ws a b n at end (missed_with 13 0 n)
look_none w ws a b n at end h [] o = refl
look_none w ws a b n at end h (x ∷ xs) o = let r = order_room ws at end (x ∷ xs) o in absurd (omega arith)

module _ (w : Wanted) (ws : List ℕ) (a b n at end : ℕ) where
  -- the element that starts there has the name
  pub look_hit : at < end → is_hit w ws at a b ≡ true → FirstFrom w ws a b n at end (found_with at (n + 1))
  look_hit h q [] o = absurd (omega arith)
  look_hit h q (x ∷ xs) o = rw (o.0, q) refl

  -- it has not
  pub look_next : at < end → is_hit w ws at a b ≡ false → (r : Result Found Missed) → FirstFrom w ws a b (n + 1) (at + size_at ws at) end r → FirstFrom w ws a b n at end r
  look_next h q r f [] o = absurd (omega arith)
  look_next h q r f (x ∷ xs) o = rw (o.0, q) (f xs o.1)

  -- it is no header, and there is no other
  pub look_plain : is_header (type_at ws at) ≡ false → at + size_at ws at ≡ end → FirstFrom w ws a b n at end (missed_with 13 0 (n + 1))
  look_plain h e =
      let one : type_at ws at ≡ 1 → ⊥ = λ t. false≢true (sym h ∙ ap is_header t) in
      let two : type_at ws at ≡ 2 → ⊥ = λ t. false≢true (sym h ∙ ap is_header t) in
      look_next (omega arith) (hit_none w ws at a b (sym (name_none ws at a b one two))) (missed_with 13 0 (n + 1))
      (look_none w ws a b (n + 1) (at + size_at ws at) end (omega arith))

---- what lists of elements answer

module _ (w : Wanted) (ws : List ℕ) (a b : ℕ) where
  -- elements that stand in the same part answer the same
  same_part : (at end n : ℕ) (xs ys : List Spot) → InOrder ws at xs end → InOrder ws at ys end → first_named w ws a b n xs ≡ first_named w ws a b n ys
  same_part at end n [] [] o p = refl
  same_part at end n [] (y ∷ ys) o p = let r = order_room ws at end (y ∷ ys) p in absurd (omega arith)
  same_part at end n (x ∷ xs) [] o p = let r = order_room ws at end (x ∷ xs) o in absurd (omega arith)
  same_part at end n (x ∷ xs) (y ∷ ys) o p =
      rw (o.0, p.0, same_part (at + size_at ws at) end (n + 1) xs ys o.1 p.1) refl

  -- a hit stays
  hit_stays : (n : ℕ) (xs ys : List Spot) (found : Found) → Ok found ≡ first_named w ws a b n xs → Ok found ≡ first_named w ws a b n (xs ++ ys)
  hit_stays n [] ys found e = absurd (cc)
  hit_stays n (x ∷ xs) ys found e = go (is_hit w ws x.place a b) e (hit_stays (n + 1) xs ys found)
    where
      go : (t : Bool) → Ok found ≡ hit_if t x.place n (first_named w ws a b (n + 1) xs) →
          (Ok found ≡ first_named w ws a b (n + 1) xs → Ok found ≡ first_named w ws a b (n + 1) (xs ++ ys)) →
          Ok found ≡ hit_if t x.place n (first_named w ws a b (n + 1) (xs ++ ys))
      go true e k = e
      go false e k = k e

  -- with none among them the refusal is 13 and all were counted
  none_counted : (n : ℕ) (xs : List Spot) (missed : Missed) → Err missed ≡ first_named w ws a b n xs → missed ≡ none_named (n + length xs)
  none_counted n [] missed e = refusal_is e ∙ ap none_named (omega arith)
  none_counted n (x ∷ xs) missed e = go (is_hit w ws x.place a b) e (none_counted (n + 1) xs missed)
    where
      go : (t : Bool) → Err missed ≡ hit_if t x.place n (first_named w ws a b (n + 1) xs) →
          (Err missed ≡ first_named w ws a b (n + 1) xs → missed ≡ none_named (n + 1 + length xs)) → missed ≡ none_named (n + length (x ∷ xs))
      go true e k = absurd (cc)
      go false e k = k e ∙ ap none_named (omega arith)

  -- and others are looked at after them
  none_goes_on : (n : ℕ) (xs ys : List Spot) (missed : Missed) → Err missed ≡ first_named w ws a b n xs →
      first_named w ws a b missed.looks ys ≡ first_named w ws a b n (xs ++ ys)
  none_goes_on n [] ys missed e = ap (λ (m : Missed). first_named w ws a b m.looks ys) (refusal_is e)
  none_goes_on n (x ∷ xs) ys missed e = go (is_hit w ws x.place a b) e (none_goes_on (n + 1) xs ys missed)
    where
      go : (t : Bool) → Err missed ≡ hit_if t x.place n (first_named w ws a b (n + 1) xs) →
          (Err missed ≡ first_named w ws a b (n + 1) xs → first_named w ws a b missed.looks ys ≡ first_named w ws a b (n + 1) (xs ++ ys)) →
          first_named w ws a b missed.looks ys ≡ hit_if t x.place n (first_named w ws a b (n + 1) (xs ++ ys))
      go true e k = absurd (cc)
      go false e k = k e

---- the loop over the elements at the top

-- the elements before `here` are judged, and their answer is r
pub record Searched (w : Wanted) (dim : ℕ) (s : List ℕ) (a b here : ℕ) (r : Result Found Missed) : Type 0 where
  pub judged : Judged dim s here
  pub past : List Spot
  pub order : InOrder (words s) 0 past here
  pub same : r ≡ first_named w (words s) a b 0 past

pub searched_none : {w : Wanted} {dim : ℕ} {s : List ℕ} {a b : ℕ} {r : Result Found Missed} → r ≡ missed_with 13 0 0 → Searched w dim s a b 0 r
searched_none e = record { judged = judged_none; past = []; order = refl; same = e }

-- a refused file
pub search_refused : (w : Wanted) (dim : ℕ) (s : List ℕ) (a b : ℕ) (refusal : Refusal) → judge_of dim s ≡ Err refusal → Err (unlooked refusal) ≡ search_of w dim s a b
unfolding search_of
search_refused w dim s a b refusal q = rw q refl

module _ {w : Wanted} {dim : ℕ} {s : List ℕ} {a b here : ℕ} {r : Result Found Missed} (l : Searched w dim s a b here r) where
  module _ (call : call_ok dim s ≡ true) where
    pub searched_done : stop_of 0 (words s) here (length s / 2) ≡ Done → r ≡ search_of w dim s a b
    unfolding search_of
    searched_done h =
        let q = judged_done l.judged call h in
        rw q (l.same ∙ same_part w (words s) a b 0 here 0 l.past (spots_of dim (words s)) l.order (file_order dim s _ _ here q))

  -- how many were looked at, where none has the name
  count_few : {missed : Missed} → r ≡ Err missed → missed.looks ≤ here
  count_few e =
      let c = ap (λ (m : Missed). m.looks) (none_counted w (words s) a b 0 l.past _ (sym e ∙ l.same)) in
      let o = order_room (words s) 0 here l.past l.order in
      omega arith

  module _ {next e d k : ℕ} (more : stop_of 0 (words s) here (length s / 2) ≡ More) (good : good_with next e d k ≡ element_of dim 0 0 (words s) here (length s / 2)) where
    -- fewer words are left to judge
    pub searched_less : length s / 2 - next < length s / 2 - here
    searched_less = let w = (judged_read l.judged more good).within in let g = judged_on l.judged more good in omega arith

    -- the elements of the extent
    inside : List Spot
    inside = let x = judged_read l.judged more good in spots 0 none here (node x.own x.components nil)

    inside_order : InOrder (words s) here inside next
    unfolding inside
    inside_order =
        let x = judged_read l.judged more good in
        let z = x.last in
        let f = append-nil (flat x.components) in
        tree_order dim (words s) 0 0 none here next (node x.own x.components nil) (x.rules, x.wf, tt) (rw f x.stands)
        (rw f (ap (λ m. here + m) (length-append x.own (flat x.components)) ∙ z))

    both_order : InOrder (words s) 0 (l.past ++ inside) next
    both_order = order_append (words s) 0 here next l.past inside l.order inside_order

    -- one that is no header ends with its own words
    plain_end : is_header (type_at (words s) here) ≡ false → here + size_at (words s) here ≡ next
    plain_end h =
        let x = judged_read l.judged more good in
        let at = stands_left x.own (flat x.components) x.stands in
        let q = own_size x.rules at in
        let z = x.last in
        let e : Extent false x.own (length (flat x.components)) (num x.components) =
        subst (λ t. Extent t x.own (length (flat x.components)) (num x.components)) (sym (ap is_header (own_type x.rules at)) ∙ h) x.rules.extent in
        let i = e.0 in
        omega arith

    pub may_look : {missed : Missed} → r ≡ Err missed → MayLook s missed.looks here next
    may_look q =
        let c = count_few q in
        let w = (judged_read l.judged more good).within in
        let g = judged_on l.judged more good in
        (c, omega arith)

    pub searched_hit : {found : Found} → r ≡ Ok found → Searched w dim s a b next r
    searched_hit q = record {
      judged = judged_more l.judged more good;
      past = l.past ++ inside;
      order = both_order;
      same = q ∙ hit_stays w (words s) a b 0 l.past inside _ (sym q ∙ l.same);
    }

    pub searched_more : {missed : Missed} → r ≡ Err missed → (v : Result Found Missed) → FirstFrom w (words s) a b missed.looks here next v → Searched w dim s a b next v
    searched_more q v f = record {
      judged = judged_more l.judged more good;
      past = l.past ++ inside;
      order = both_order;
      same = f inside inside_order ∙ none_goes_on w (words s) a b 0 l.past inside _ (sym q ∙ l.same);
    }

    -- one that is no header has no name
    searched_plain : is_header (type_at (words s) here) ≡ false → Searched w dim s a b next (passed_by r 1)
    searched_plain h = go r refl
      where
        go : (v : Result Found Missed) → r ≡ v → Searched w dim s a b next (passed_by v 1)
        go (Ok found) q = subst (λ v. Searched w dim s a b next v) q (searched_hit q)
        go (Err missed) q =
            let o = ap (λ (m : Missed). m.refusal) (none_counted w (words s) a b 0 l.past missed (sym q ∙ l.same)) in
            rw o (searched_more q _ (look_plain w (words s) a b missed.looks here next h (plain_end h)))

---- the elements up to a header

passed_twice : (r : Result Found Missed) (k : ℕ) → passed_by (passed_by r k) 1 ≡ passed_by r (k + 1)
passed_twice (Ok found) k = refl
passed_twice (Err missed) k = rw (add_assoc missed.looks k 1) refl

passed_none : (r : Result Found Missed) → r ≡ passed_by r 0
passed_none (Ok found) = refl
passed_none (Err missed) = rw (add-zero missed.looks) refl

-- judging goes on after an element that is no header
goes_plain : (b c : Bool) → ((true && b) || c) ≡ false → b ≡ false
goes_plain true c e = e
goes_plain false c e = refl

no_header : (ws : List ℕ) (until at next : ℕ) → stops_after ws until true at next ≡ false → is_header (type_at ws at) ≡ false
unfolding stops_after
no_header ws until at next e = goes_plain (is_header (type_at ws at)) (ltb until next) e

pub call_small : (dim : ℕ) (s : List ℕ) → call_ok dim s ≡ true → length s ≤ 1048576
unfolding call_ok
call_small dim s e =
    let p = both_true (eqb dim 2 || eqb dim 3) (eqb (length s % 2) 0 && leb (length s) 1048576) e in
    leb-true (length s) 1048576 (both_true (eqb (length s % 2) 0) (leb (length s) 1048576) p.1).1

module _ {w : Wanted} {dim : ℕ} {s : List ℕ} {a b here : ℕ} {r : Result Found Missed} (l : Searched w dim s a b here r) (call : call_ok dim s ≡ true) where
  -- k elements without a name were passed
  abbrev Past : ℕ → ℕ → Type 0
  Past k at = (here ≤ at) × Searched w dim s a b at (passed_by r k)

  searched_arrived : (v : Result Reached Refusal) → v ≡ reached_of dim (words s) here (length s / 2) (length s / 2) true → Arrived dim s (length s / 2) true Past v
  searched_arrived v e =
      arrived dim s (length s / 2) true Past call (λ k at q. q.1.judged)
      (λ k at next e d j q more good goes.
      let o = judged_on q.1.judged more good in
      let i = q.0 in
      (omega arith, subst (λ v. Searched w dim s a b next v) (passed_twice r k) (searched_plain q.1 more good (no_header (words s) (length s / 2) at next goes))))
      here v (omega arith, subst (λ v. Searched w dim s a b here v) (passed_none r) l) e

  pub arrived_fault : {refusal : Refusal} → Err refusal ≡ reached_of dim (words s) here (length s / 2) (length s / 2) true → Err (unlooked refusal) ≡ search_of w dim s a b
  arrived_fault e = search_refused w dim s a b _ (searched_arrived _ e)

  few : {at : ℕ} {v : Result Found Missed} → Searched w dim s a b at v → call_ok dim s ≡ true → (n : ℕ) → v ≡ passed_by r n → MayPass r n
  few {at} {v} q c n e = go r e
    where
      go : (w : Result Found Missed) → v ≡ passed_by w n → MayPass w n
      go (Ok found) f = tt
      go (Err missed) f =
          let m = count_few q f in
          let i = q.judged.inside in
          let k = call_small dim s c in
          omega arith

  module _ {p k : ℕ} (e : an_end p k ≡ reached_of dim (words s) here (length s / 2) (length s / 2) true) where
    pub end_may : MayPass r k
    end_may = few (searched_arrived _ e).0.1 call k refl

    pub end_answer : {v : Result Found Missed} → v ≡ passed_by r k → v ≡ search_of w dim s a b
    end_answer q = q ∙ searched_done (searched_arrived _ e).0.1 call (searched_arrived _ e).1

  module _ {start end k : ℕ} (e : an_element start end k ≡ reached_of dim (words s) here (length s / 2) (length s / 2) true) where
    pub header_may : MayPass r k
    header_may = few (searched_arrived _ e).3.0.1 call k refl

    pub header_less : length s / 2 - end < length s / 2 - here
    header_less =
        let x = (searched_arrived _ e).3 in
        let w = searched_less x.0.1 x.1 x.2 in
        let i = x.0.0 in
        omega arith

    module _ {v : Result Found Missed} (q : v ≡ passed_by r k) where
      at_stays : {found : Found} → (w : Result Found Missed) → v ≡ passed_by w k → v ≡ Ok found → passed_by w k ≡ w
      at_stays (Ok found) f g = refl
      at_stays (Err missed) f g = absurd (cc)

      pub header_hit : {found : Found} → v ≡ Ok found → Searched w dim s a b end r
      header_hit h =
          let x = (searched_arrived _ e).3 in
          subst (λ u. Searched w dim s a b end u) (at_stays r q h) (searched_hit x.0.1 x.1 x.2 (sym q ∙ h))

      module _ {missed : Missed} (h : v ≡ Err missed) where
        pub header_look : MayLook s missed.looks start end
        header_look = let x = (searched_arrived _ e).3 in may_look x.0.1 x.1 x.2 (sym q ∙ h)

        pub header_more : (u : Result Found Missed) → FirstFrom w (words s) a b missed.looks start end u → Searched w dim s a b end u
        header_more u f = let x = (searched_arrived _ e).3 in searched_more x.0.1 x.1 x.2 (sym q ∙ h) u f

---- by the text

pub find_search : (w : Wanted) (dim : ℕ) (s t : List ℕ) (a b : ℕ) → packed t ≡ packed_to a b → search_of w dim s a b ≡ find_of w dim s t
unfolding find_of search_of
find_search w dim s t a b p = rw p refl

pub file_refused : (w : Wanted) (dim : ℕ) (s t : List ℕ) (refusal : Refusal) → judge_of dim s ≡ Err refusal → Err (unlooked refusal) ≡ find_of w dim s t
unfolding find_of
file_refused w dim s t refusal q = rw q refl

pub text_refused : (w : Wanted) (dim : ℕ) (s t : List ℕ) (file : Accepted) (refusal : Refusal) → judge_of dim s ≡ Ok file → packed t ≡ Err refusal → Err (unlooked refusal) ≡ find_of w dim s t
unfolding find_of
text_refused w dim s t file refusal q h = rw (q, h) refl
