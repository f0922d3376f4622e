-- Elements that are taken one after another: what was put so far stands before what the rest of the room takes.
use Prim.Native.Nat.{ℕ, suc, ◌+◌, ◌-◌, ◌≤◌, ◌<◌}
use mathlib.Core.Path.{◌≡◌, refl, sym, ap, ◌∙◌, subst}
use mathlib.Core.Bool.{Bool, true, false, cond}
use mathlib.Core.List.{List, [], ◌∷◌, ◌++◌, append_assoc, append-nil}
use native.Mathlib.Omega.{arith}
use lib.ListN.{length, length-append}
use lib.Seq.{length-sets}
use lib.Dec.{leb}
use borrow.Author.Tests.{leb-true, leb-false, le-leb, lt-leb}
use Rattle.answers.proofs.Besides.{put_then}
use Rattle.order.specs.Fitting.{Fitting, behind, part_of, items_from, Slices, in_numbers, ElementPut, PartPut}
use Rattle.std.specs.Prelude.{None, Option, Some}

-- slices in which items are put behind others: the room stays, and what is put in two parts is as put at once
pub record Lays {S A : Type 0} (into : Slices S A) : Type 0 where
  pub kept : (s : S) (at : ℕ) (x : List A) → into.room (into.put s at x) ≡ into.room s
  pub joined : (s : S) (at : ℕ) (x y : List A) (m : ℕ) → m ≡ at + length x → into.put (into.put s at x) m y ≡ into.put s at (x ++ y)
  pub none : (s : S) (at : ℕ) → into.put s at [] ≡ s

pub lays_numbers : Lays in_numbers
lays_numbers = record { kept = λ s at x. length-sets s at x; joined = put_then; none = λ s at. refl }

module _ {S A : Type 0} (into : Slices S A) (lays : Lays into) where
  -- an element without items is passed over
  pub nothing_put : (s : S) (used : ℕ) → ElementPut into [] s used (Some used) s
  nothing_put s used =
      let fits = le-leb 0 (into.room s - used) (omega arith) in
      record { is = rw fits (ap Some (omega arith)); given = rw fits (sym (lays.none s used)) }

  -- so far: what was put, and what the rest comes to
  pub record Going (p : Fitting A) (s : S) (f : ℕ → List A) (elements i used : ℕ) (now : S) : Type 0 where
    pub given : List A
    pub many : used ≡ length given
    pub stands : now ≡ into.put s 0 given
    pub room : used ≤ into.room s
    pub is : p ≡ behind given (part_of (into.room s - used) i (items_from (elements - i) f i))

  pub going_start : (s : S) (f : ℕ → List A) (elements k : ℕ) → Going (part_of (into.room s) k (items_from (elements - k) f k)) s f elements k 0 s
  going_start s f elements k =
      let z : into.room s ≡ into.room s - 0 = omega arith in
      record { given = []; many = refl; stands = sym (lays.none s 0); room = omega arith; is = ap (λ n. part_of n k (items_from (elements - k) f k)) z }

  module _ {p : Fitting A} {s : S} {f : ℕ → List A} {elements i used : ℕ} {now : S} (g : Going p s f elements i used now) where
    going_ends : part_of (into.room s - used) i (items_from (elements - i) f i) ≡ record { next = i; given = [] } → PartPut into p s (record { next = i; used = used }) now
    going_ends e =
        let q : p ≡ record { next = i; given = g.given } = g.is ∙ ap (behind g.given) e ∙ ap (λ l. record { next = i; given = l }) (append-nil g.given) in
        record { next = sym (ap (λ x. x.next) q); used = g.many ∙ sym (ap (λ x. length x.given) q); given = g.stands ∙ sym (ap (λ x. into.put s 0 x.given) q) }

    -- no element is left
    pub going_done : elements ≤ i → PartPut into p s (record { next = i; used = used }) now
    going_done h = let z : elements - i ≡ 0 = omega arith in going_ends (rw z refl)

    module _ (e : List A) (here : e ≡ f i) (h : i < elements) where
      first : items_from (elements - i) f i ≡ e ∷ items_from (elements - (i + 1)) f (suc i)
      first = let z : elements - i ≡ suc (elements - (i + 1)) = omega arith in rw (z, here) refl

      -- the next one does not fit
      going_full : into.room s - used < length e → PartPut into p s (record { next = i; used = used }) now
      going_full l = going_ends (rw (first, lt-leb (length e) (into.room s - used) l) refl)

      -- or it is put behind the others
      going_more : length e ≤ into.room s - used → (t : S) → t ≡ into.put now used e → Going p s f elements (i + 1) (used + length e) t
      going_more fits t q =
          let r = g.room in
          let m = g.many in
          let l = length-append g.given e in
          let one : suc i ≡ i + 1 = omega arith in
          let left : into.room s - used - length e ≡ into.room s - (used + length e) = omega arith in
          let rest : Fitting A = part_of (into.room s - (used + length e)) (i + 1) (items_from (elements - (i + 1)) f (i + 1)) in
          let step : part_of (into.room s - used) i (items_from (elements - i) f i) ≡ behind e rest =
          rw (first, le-leb (length e) (into.room s - used) fits, left, one) refl in
          record {
            given = g.given ++ e;
            many = omega arith;
            stands = q ∙ ap (λ u. into.put u used e) g.stands ∙ lays.joined s 0 g.given e used (omega arith);
            room = omega arith;
            is = g.is ∙ ap (behind g.given) step ∙ ap (λ l. record { next = rest.next; given = l }) (sym (append_assoc g.given e rest.given));
          }

    pub now_room : into.room now ≡ into.room s
    now_room = ap into.room g.stands ∙ lays.kept s 0 g.given

    -- a turn of the loop, by what was said of its element
    module _ (e : List A) (here : e ≡ f i) (h : i < elements) (t : S) where
      pub turn_full : (r : Option ℕ) → r ≡ None → ElementPut into e now used r t → PartPut into p s (record { next = i; used = used }) t
      turn_full r q put = go (leb (length e) (into.room now - used)) refl (sym q ∙ put.is) put.given
        where
          go : (b : Bool) → leb (length e) (into.room now - used) ≡ b → None ≡ cond b (Some (used + length e)) None → t ≡ cond b (into.put now used e) now →
              PartPut into p s (record { next = i; used = used }) t
          go true w is given = let z : ◌≡◌ {A = ℕ} 0 1 = cc in absurd (omega arith)
          go false w is given =
              let l = leb-false (length e) (into.room now - used) w in
              let k = now_room in
              subst (PartPut into p s (record { next = i; used = used })) (sym given) (going_full e here h (omega arith))

      pub turn_more : (r : Option ℕ) (more : ℕ) → r ≡ Some more → ElementPut into e now used r t → Going p s f elements (i + 1) more t
      turn_more r more q put = go (leb (length e) (into.room now - used)) refl (sym q ∙ put.is) put.given
        where
          go : (b : Bool) → leb (length e) (into.room now - used) ≡ b → Some more ≡ cond b (Some (used + length e)) None → t ≡ cond b (into.put now used e) now →
              Going p s f elements (i + 1) more t
          go true w is given =
              let l = leb-true (length e) (into.room now - used) w in
              let k = now_room in
              let z : used + length e ≡ more = cc in
              subst (λ n. Going p s f elements (i + 1) n t) z (going_more e here h (omega arith) t given)
          go false w is given = let z : ◌≡◌ {A = ℕ} 0 1 = cc in absurd (omega arith)
