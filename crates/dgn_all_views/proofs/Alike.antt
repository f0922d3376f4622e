-- Two tours at the same place and depth that keep the same of the depths from 1 to theirs go on alike: what they keep of deeper
-- lists is never looked at. So a tour may begin at any element at the top, with nothing kept.
use Prim.Native.Nat.{ℕ, zero, suc, ◌+◌, ◌≤◌, ◌<◌}
use mathlib.Core.Path.{◌≡◌, refl, sym, ap, ◌∙◌, subst}
use mathlib.Core.Bool.{Bool, true, false, cond}
use mathlib.Core.List.{List}
use mathlib.Core.Option.{some}
use native.Mathlib.Omega.{arith}
use lib.ListN.{length, get_or, set, length-set}
use lib.Seq.{get_or-set_same, get_or-set_other}
use lib.Dec.{eqb, ltb}
use borrow.Author.Tests.{ltb-true, ltb-false}
use Rattle.headers.specs.Header.{size_at, extent_at}
use Rattle.walking.specs.declared.Walk.{Walk}
use Rattle.walking.specs.Walk.{closed_to, opens, step_in, step_over, next_of}
use Rattle.walking.proofs.Steps.{opens_shallow}
use Rattle.dgn_all_views.specs.Tour.{Tour, kept, header_in, tour_next}
use Rattle.dgn_all_views.proofs.Heads.{kept_in, kept_out}

-- two lists say the same of the depths from 1 to d
abbrev pub Within : ℕ → List ℕ → List ℕ → Type 0
Within d a b = (j : ℕ) → 0 < j → j ≤ d → get_or a j 0 ≡ get_or b j 0

-- a tour by its parts
abbrev pub tour : ℕ → ℕ → List ℕ → List ℕ → Tour
tour place depth ends headers = record { walk = record { place = place; depth = depth; ends = ends }; headers = headers }

pub record Alike (t u : Tour) : Type 0 where
  pub place : t.walk.place ≡ u.walk.place
  pub depth : t.walk.depth ≡ u.walk.depth
  pub ends : Within u.walk.depth t.walk.ends u.walk.ends
  pub headers : Within u.walk.depth t.headers u.headers
  pub nine : (length t.walk.ends ≡ 9) × (length t.headers ≡ 9) × (length u.walk.ends ≡ 9) × (length u.headers ≡ 9)

---- the lists that are closed

closed_same : (d : ℕ) (a b : List ℕ) (next : ℕ) → Within d a b → closed_to d a next ≡ closed_to d b next
closed_same zero a b next s = refl
closed_same (suc d) a b next s =
    rw (s (suc d) (omega arith) (omega arith)) (ap (λ x. cond (eqb (get_or b (suc d) 0) next) x (suc d)) (closed_same d a b next (λ j l h. s j l (omega arith))))

pub closed_most : (d : ℕ) (ends : List ℕ) (next : ℕ) → closed_to d ends next ≤ d
closed_most zero ends next = omega arith
closed_most (suc d) ends next = go (eqb (get_or ends (suc d) 0) next) (closed_most d ends next)
  where
    go : (b : Bool) → closed_to d ends next ≤ d → cond b (closed_to d ends next) (suc d) ≤ suc d
    go true h = omega arith
    go false h = omega arith

---- what is set at one more depth

set_within : (d : ℕ) (a b : List ℕ) (v : ℕ) → length a ≡ 9 → length b ≡ 9 → d < 8 → Within d a b → Within (d + 1) (set a (d + 1) v) (set b (d + 1) v)
set_within d a b v m n l s j p q = go (ltb j (d + 1)) refl
  where
    go : (t : Bool) → ltb j (d + 1) ≡ t → get_or (set a (d + 1) v) j 0 ≡ get_or (set b (d + 1) v) j 0
    go true e =
        let h = ltb-true j (d + 1) e in
        get_or-set_other a (d + 1) j v 0 (λ z. omega arith) ∙ s j p (omega arith) ∙ sym (get_or-set_other b (d + 1) j v 0 (λ z. omega arith))
    go false e =
        let h = ltb-false j (d + 1) e in
        let z : j ≡ d + 1 = omega arith in
        rw z (get_or-set_same a (d + 1) v 0 (omega arith) ∙ sym (get_or-set_same b (d + 1) v 0 (omega arith)))

---- one step

module _ (ws : List ℕ) (p d : ℕ) (a b hs gs : List ℕ) (ends : Within d a b) (headers : Within d hs gs)
    (na : length a ≡ 9) (nh : length hs ≡ 9) (nb : length b ≡ 9) (ng : length gs ≡ 9) where
  abbrev stepped : Walk → List ℕ → Tour
  stepped w l = record { walk = w; headers = kept l d p w.depth }

  -- into a list
  alike_in : d < 8 → Alike (stepped (step_in ws (tour p d a hs).walk) hs) (stepped (step_in ws (tour p d b gs).walk) gs)
  alike_in l =
      let e = p + extent_at ws p in
      let k = kept_in hs d p (d + 1) (omega arith) in
      let m = kept_in gs d p (d + 1) (omega arith) in
      record {
        place = refl;
        depth = refl;
        ends = set_within d a b e na nb l ends;
        headers = rw (k, m) (set_within d hs gs p nh ng l headers);
        nine = (length-set a (d + 1) e ∙ na, rw k (length-set hs (d + 1) p ∙ nh), length-set b (d + 1) e ∙ nb, rw m (length-set gs (d + 1) p ∙ ng));
      }

  -- past an element
  alike_over : Alike (stepped (step_over ws (tour p d a hs).walk) hs) (stepped (step_over ws (tour p d b gs).walk) gs)
  alike_over =
      let next = p + size_at ws p in
      let c = closed_same d a b (p + size_at ws p) ends in
      let x = closed_most d a next in
      let y = closed_most d b next in
      let k = kept_out hs d p (closed_to d a next) x in
      let m = kept_out gs d p (closed_to d b next) y in
      record {
        place = refl;
        depth = c;
        ends = λ j i h. ends j i (omega arith);
        headers = rw (k, m) (λ j i h. headers j i (omega arith));
        nine = (na, rw k nh, nb, rw m ng);
      }

  -- where no word stands it stays
  alike_stays : Alike (stepped (tour p d a hs).walk hs) (stepped (tour p d b gs).walk gs)
  alike_stays =
      let k = kept_out hs d p d (omega arith) in
      let m = kept_out gs d p d (omega arith) in
      record { place = refl; depth = refl; ends = ends; headers = rw (k, m) headers; nine = (na, rw k nh, nb, rw m ng) }

  alike_step : Alike (tour_next ws (tour p d a hs)) (tour_next ws (tour p d b gs))
  unfolding next_of
  alike_step = go (ltb p (length ws)) (opens ws p d) refl
    where
      go : (i o : Bool) → opens ws p d ≡ o →
          Alike (stepped (cond i (cond o (step_in ws (tour p d a hs).walk) (step_over ws (tour p d a hs).walk)) (tour p d a hs).walk) hs)
          (stepped (cond i (cond o (step_in ws (tour p d b gs).walk) (step_over ws (tour p d b gs).walk)) (tour p d b gs).walk) gs)
      go true true e = alike_in (opens_shallow ws p d e)
      go true false e = alike_over
      go false o e = alike_stays

pub alike_next : (ws : List ℕ) (t u : Tour) → Alike t u → Alike (tour_next ws t) (tour_next ws u)
alike_next ws t u h =
    let n = h.nine in
    subst (λ x. Alike (tour_next ws x) (tour_next ws u)) (sym (same t u h))
    (alike_step ws u.walk.place u.walk.depth t.walk.ends u.walk.ends t.headers u.headers h.ends h.headers n.0 n.1 n.2 n.3)
  where
    same : (t u : Tour) → Alike t u → t ≡ tour u.walk.place u.walk.depth t.walk.ends t.headers
    same t u h = ap (λ p. tour p t.walk.depth t.walk.ends t.headers) h.place ∙ ap (λ d. tour u.walk.place d t.walk.ends t.headers) h.depth

-- the header that is kept of an element
pub alike_header : (t u : Tour) → Alike t u → header_in t.headers t.walk.depth ≡ header_in u.headers u.walk.depth
alike_header t u h = ap (header_in t.headers) h.depth ∙ go u.walk.depth h.headers
  where
    go : (d : ℕ) → Within d t.headers u.headers → header_in t.headers d ≡ header_in u.headers d
    go zero s = refl
    go (suc d) s = ap some (s (suc d) (omega arith) (omega arith))

-- nine depths are kept
pub next_nine : (ws : List ℕ) (t : Tour) → length t.walk.ends ≡ 9 → length (next_of ws t.walk).ends ≡ 9
unfolding next_of
next_nine ws t n = go (ltb t.walk.place (length ws)) (opens ws t.walk.place t.walk.depth)
  where
    go : (i o : Bool) → length (cond i (cond o (step_in ws t.walk) (step_over ws t.walk)) t.walk).ends ≡ 9
    go true true = length-set t.walk.ends (t.walk.depth + 1) (t.walk.place + extent_at ws t.walk.place) ∙ n
    go true false = n
    go false o = n
