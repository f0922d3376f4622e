-- What the code keeps and puts is what the definitions say: the ends and headers of each depth, and the views one behind another.
use Prim.Native.Nat.{ℕ, zero, suc, ◌+◌, ◌-◌, ◌*◌, ◌/◌, ◌≤◌, ◌<◌}
use mathlib.Core.Path.{◌≡◌, refl, sym, ap, ◌∙◌}
use mathlib.Core.Logic.{◌≢◌, ◌⊎◌, inl, inr}
use mathlib.Core.Bool.{Bool, true, false, cond, not, ◌&&◌, false≢true}
use mathlib.Core.List.{List, ◌++◌, append_assoc, append-nil}
use native.Mathlib.Omega.{arith}
use lib.IntN.{ℤ}
use lib.ListN.{length, get_or, set, length-append, get_or-eq_default}
use lib.Seq.{sets, get_or-set_same}
use lib.Dec.{eqb, ltb}
use borrow.Author.Tests.{le-leb, lt-ltb, le-ltb, ltb-true, ltb-false, eqb-false, not-true}
use Rattle.words.specs.Words.{words}
use Rattle.words.proofs.Laws.{length_words}
use Rattle.headers.specs.Header.{type_at, size_at, extent_at, extent_words}
use Rattle.headers.proofs.Laws.{words_header}
use Rattle.kinds.specs.Kinds.{is_header}
use Rattle.walking.specs.declared.Walk.{Walk}
use Rattle.walking.specs.Walk.{closed_to, opens, step_in, step_over, next_of}
use Rattle.walking.proofs.Steps.{closed_here, next_by}
use Rattle.places.specs.declared.Above.{Above}
use Rattle.places.specs.declared.Above.TheVariants.{Under}
use Rattle.places.specs.Places.{above_of}
use Rattle.views.specs.Views.{element_view, element_in}
use Rattle.views.specs.declared.Element.{Element}
use Rattle.views.proofs.Known.{known_element}
use Rattle.view_numbers.specs.Numbers.{view_numbers, as_signed, put_view}
use Rattle.view_numbers.proofs.Laws.{thirty_two}
use Rattle.answers.proofs.Besides.{put_then}
use Rattle.dgn_all_views.specs.Tour.{Tour, kept, header_in, tour_next, tour_of, GoesOn}
use Rattle.dgn_all_views.specs.Views.{shown_at, tour_view, views_from, PartPut}
use Rattle.dgn_all_views.proofs.Heads.{kept_in, kept_out}
use Rattle.dgn_all_views.proofs.Alike.{tour, closed_most}
use Rattle.std.specs.Prelude.{Ok}

---- the headers

pub above_at : (hs : List ℕ) (depth : ℕ) → depth ≢ 0 → Under (get_or hs depth 0) ≡ above_of (header_in hs depth)
above_at hs zero h = absurd (h refl)
above_at hs (suc d) h = refl

pub above_deep : (hs : List ℕ) (depth : ℕ) → depth ≢ 0 → length hs ≤ depth → Under 0 ≡ above_of (header_in hs depth)
above_deep hs depth h l = ap Under (sym (get_or-eq_default hs 0 {n = depth} l)) ∙ above_at hs depth h

-- one step past an element that goes on
abbrev onward : List ℕ → Walk → Walk
onward ws w = record { place = w.place + size_at ws w.place; depth = w.depth; ends = w.ends }

opens_none : (ws : List ℕ) (at depth : ℕ) → extent_words ws at ≡ size_at ws at → opens ws at depth ≡ false
unfolding opens
opens_none ws at depth e = go (ltb depth 8) (is_header (type_at ws at)) refl
  where
    go : (a b : Bool) → is_header (type_at ws at) ≡ b → (a && (b && ltb (size_at ws at) (extent_at ws at))) ≡ false
    go false b q = refl
    go true false q = refl
    go true true q = let x = words_header ws at q in le-ltb (size_at ws at) (extent_at ws at) (omega arith)

stays : (d : ℕ) (ends : List ℕ) (next end : ℕ) → end ≡ get_or ends d 0 → (d ≡ 0) ⊎ (next ≢ end) → closed_to d ends next ≡ d
stays d ends next end e (inl z) = rw z refl
stays d ends next end e (inr h) = closed_here d ends next (λ q. h (sym (e ∙ q)))

-- a header opens it
opens_header : (ws : List ℕ) (at depth : ℕ) → opens ws at depth ≡ true → is_header (type_at ws at) ≡ true
unfolding opens
opens_header ws at depth e = go (ltb depth 8) (is_header (type_at ws at)) e
  where
    go : (a b : Bool) → (a && (b && ltb (size_at ws at) (extent_at ws at))) ≡ true → b ≡ true
    go true true e = refl
    go true false e = absurd (false≢true e)
    go false b e = absurd (false≢true e)

plain_next : (ws : List ℕ) (w : Walk) (end : ℕ) → end ≡ get_or w.ends w.depth 0 → GoesOn ws w.place w.depth end → next_of ws w ≡ onward ws w
plain_next ws w end f g =
    sym (next_by ws w false g.0 (opens_none ws w.place w.depth g.1))
    ∙ ap (λ d. record { place = w.place + size_at ws w.place; depth = d; ends = w.ends }) (stays w.depth w.ends (w.place + size_at ws w.place) end f g.2)

---- the views

view_length : (ws : List ℕ) (t : Tour) → length (tour_view ws t) ≡ 32
unfolding shown_at
view_length ws t =
    let place = t.walk.place in
    let v = element_view ws place t.walk.depth (above_of (header_in t.headers t.walk.depth)) in
    thirty_two as_signed place v

views_length : (n : ℕ) (ws : List ℕ) (top k : ℕ) → length (views_from n ws top k) ≡ 32 * n
views_length zero ws top k = refl
views_length (suc n) ws top k =
    let l = length-append (tour_view ws (tour_of ws top k)) (views_from n ws top (suc k)) in
    let v = view_length ws (tour_of ws top k) in
    let r = views_length n ws top (suc k) in
    omega arith

views_more : (n : ℕ) (ws : List ℕ) (top k : ℕ) → views_from (suc n) ws top k ≡ views_from n ws top k ++ tour_view ws (tour_of ws top (k + n))
views_more zero ws top k =
    let z : k ≡ k + 0 = omega arith in
    append-nil (tour_view ws (tour_of ws top k)) ∙ ap (λ i. tour_view ws (tour_of ws top i)) z
views_more (suc n) ws top k =
    let z : suc k + n ≡ k + suc n = omega arith in
    ap (λ l. tour_view ws (tour_of ws top k) ++ l) (views_more n ws top (suc k))
    ∙ sym (append_assoc (tour_view ws (tour_of ws top k)) (views_from n ws top (suc k)) (tour_view ws (tour_of ws top (suc k + n))))
    ∙ ap (λ i. views_from (suc n) ws top k ++ tour_view ws (tour_of ws top i)) z

-- one view, of an element from number k on
pub one_before : (k i : ℕ) (views more : List ℤ) → i < k → views ≡ cond (ltb i k) views more
one_before k i views more h = rw (lt-ltb i k h) refl

pub one_put : (s : List ℕ) (place depth : ℕ) (above : Above) (e : Element) (k i : ℕ) (views now : List ℤ) → element_in (words s) place depth above ≡ Ok e →
    place < length (words s) → k ≤ i → 32 * (i - k) + 32 ≤ length views → now ≡ put_view views (32 * (i - k)) place e →
    now ≡ cond (ltb i k) views (sets views (32 * (i - k)) (shown_at (words s) place depth above))
unfolding shown_at put_view
one_put s place depth above e k i views now f h a l q =
    let z = known_element s place depth above e h f in
    rw (le-ltb i k a) (rw (le-leb (32 * (i - k) + 32) (length views) l) at q ∙ ap (λ v. sets views (32 * (i - k)) (view_numbers as_signed place v)) (sym z))

-- a turn of the loop that puts them
module _ (ws : List ℕ) (top k : ℕ) where
  view_turn : (i : ℕ) (t : Tour) (views now then : List ℤ) → t ≡ tour_of ws top (k + i) → now ≡ sets views 0 (views_from i ws top k) →
      then ≡ sets now (32 * i) (tour_view ws t) → then ≡ sets views 0 (views_from (i + 1) ws top k)
  view_turn i t views now then e q r =
      let l = views_length i ws top k in
      let one : suc i ≡ i + 1 = omega arith in
      r ∙ ap (λ u. sets u (32 * i) (tour_view ws t)) q
      ∙ put_then views 0 (views_from i ws top k) (tour_view ws t) (32 * i) (omega arith)
      ∙ ap (λ u. sets views 0 (views_from i ws top k ++ tour_view ws u)) e
      ∙ ap (sets views 0) (sym (views_more i ws top k) ∙ ap (λ n. views_from n ws top k) one)

  -- of the whole loop: before the k-th nothing is put
  loop_turn : (i : ℕ) (t : Tour) (views now then : List ℤ) → t ≡ tour_of ws top i → now ≡ sets views 0 (views_from (i - k) ws top k) →
      then ≡ cond (ltb i k) now (sets now (32 * (i - k)) (tour_view ws t)) → then ≡ sets views 0 (views_from (i + 1 - k) ws top k)
  loop_turn i t views now then e q r = go (ltb i k) refl r
    where
      go : (b : Bool) → ltb i k ≡ b → then ≡ cond b now (sets now (32 * (i - k)) (tour_view ws t)) → then ≡ sets views 0 (views_from (i + 1 - k) ws top k)
      go true p r =
          let h = ltb-true i k p in
          let z : i - k ≡ i + 1 - k = omega arith in
          r ∙ q ∙ ap (λ n. sets views 0 (views_from n ws top k)) z
      go false p r =
          let h = ltb-false i k p in
          let a : i ≡ k + (i - k) = omega arith in
          let z : i - k + 1 ≡ i + 1 - k = omega arith in
          view_turn (i - k) t views now then (e ∙ ap (tour_of ws top) a) q r ∙ ap (λ n. sets views 0 (views_from n ws top k)) z

  -- the same for a place, a depth and what is kept
  pub walk_turn : (i place depth : ℕ) (ends hs : List ℕ) (above : Above) (views now then : List ℤ) → tour place depth ends hs ≡ tour_of ws top i →
      above ≡ above_of (header_in hs depth) → now ≡ sets views 0 (views_from (i - k) ws top k) →
      then ≡ cond (ltb i k) now (sets now (32 * (i - k)) (shown_at ws place depth above)) → then ≡ sets views 0 (views_from (i + 1 - k) ws top k)
  walk_turn i place depth ends hs above views now then e a q r =
      loop_turn i (tour place depth ends hs) views now then e q
      (r ∙ ap (λ u. cond (ltb i k) now (sets now (32 * (i - k)) (shown_at ws place depth u))) a)

-- none
pub nothing_put : (ws : List ℕ) (k n : ℕ) (views : List ℤ) → n ≡ 0 → PartPut ws k n views views
nothing_put ws k n views z = rw z (record { from = record { number = 0; place = 0 }; top = λ h. absurd (omega arith); given = refl })

-- each element is at a word of the file
pub walk_inside : (s : List ℕ) (place depth : ℕ) (ends hs : List ℕ) (top i : ℕ) → tour place depth ends hs ≡ tour_of (words s) top i →
    (tour_of (words s) top i).walk.place < length (words s) → (place < length (words s)) × (place < length s)
walk_inside s place depth ends hs top i e h =
    let p : place ≡ (tour_of (words s) top i).walk.place = ap (λ t. t.walk.place) e in
    let l = length_words s in
    (omega arith, omega arith)

---- to the next element

module _ (ws : List ℕ) (place depth : ℕ) (ends hs : List ℕ) (top i size : ℕ) (e : tour place depth ends hs ≡ tour_of ws top i) (z : size ≡ size_at ws place) where
  -- by the step that the walk makes
  stepped : (w : Walk) (l : List ℕ) → next_of ws (tour place depth ends hs).walk ≡ w → kept hs depth place w.depth ≡ l → record { walk = w; headers = l } ≡ tour_of ws top (i + 1)
  stepped w l n k =
      let one : suc i ≡ i + 1 = omega arith in
      sym (ap (λ v. record { walk = v; headers = kept hs depth place v.depth }) n ∙ ap (λ x. record { walk = w; headers = x }) k)
      ∙ ap (tour_next ws) e ∙ ap (tour_of ws top) one

  -- where the element at hand goes on, the next one is in the same list, and what is kept stays
  pub tour_on : (end : ℕ) → end ≡ get_or ends depth 0 → GoesOn ws place depth end → tour (place + size) depth ends hs ≡ tour_of ws top (i + 1)
  tour_on end f g =
      rw z (stepped (onward ws (tour place depth ends hs).walk) hs (plain_next ws (tour place depth ends hs).walk end f g) (kept_out hs depth place depth (omega arith)))

  -- where it opens a list, its end and the header are kept
  pub tour_in : place < length ws → opens ws place depth ≡ true → (extent : ℕ) → extent ≡ extent_words ws place →
      tour (place + size) (depth + 1) (set ends (depth + 1) (place + extent)) (set hs (depth + 1) place) ≡ tour_of ws top (i + 1)
  tour_in h o extent x =
      let y = x ∙ words_header ws place (opens_header ws place depth o) in
      rw (z, y) (stepped (step_in ws (tour place depth ends hs).walk) (set hs (depth + 1) place)
      (sym (next_by ws (tour place depth ends hs).walk true h o)) (kept_in hs depth place (depth + 1) (omega arith)))

  -- else the lists that end with it are closed
  pub tour_over : place < length ws → opens ws place depth ≡ false → (next : ℕ) → next ≡ closed_to depth ends (place + size) →
      tour (place + size) next ends hs ≡ tour_of ws top (i + 1)
  tour_over h o next c =
      rw (c, z) (stepped (step_over ws (tour place depth ends hs).walk) hs
      (sym (next_by ws (tour place depth ends hs).walk false h o)) (kept_out hs depth place (closed_to depth ends (place + size_at ws place)) (closed_most depth ends (place + size_at ws place))))

-- what is kept of a list that is opened
pub end_opened : (ends : List ℕ) (d v : ℕ) → length ends ≡ 9 → d < 9 → v ≡ get_or (set ends d v) d 0
end_opened ends d v n h = sym (get_or-set_same ends d v 0 (omega arith))

pub above_opened : (hs : List ℕ) (d place : ℕ) → length hs ≡ 9 → d < 8 → Under place ≡ above_of (header_in (set hs (d + 1) place) (d + 1))
above_opened hs d place n h = ap Under (end_opened hs (d + 1) place n (omega arith)) ∙ above_at (set hs (d + 1) place) (d + 1) (λ z. omega arith)

-- the tests of whether it goes on
module _ (s : List ℕ) (place depth end size : ℕ) (inside : place < length s / 2) (extent : ℕ) (e : extent ≡ extent_words (words s) place) (z : size ≡ size_at (words s) place) (same : extent ≡ size) where
  go_on : (depth ≡ 0) ⊎ (place + size_at (words s) place ≢ end) → GoesOn (words s) place depth end
  go_on c = let l = length_words s in (omega arith, sym e ∙ same ∙ z, c)

  pub on_top : depth ≡ 0 → GoesOn (words s) place depth end
  on_top h = go_on (inl h)

  pub on_inside : not (eqb (place + size) end) ≡ true → GoesOn (words s) place depth end
  on_inside h = go_on (inr (λ q. eqb-false (place + size) end (not-true (eqb (place + size) end) h) (ap (λ n. place + n) z ∙ q)))
