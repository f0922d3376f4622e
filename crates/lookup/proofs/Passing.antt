-- What the steps from entry low on pass over: the deleted entries of the name before the first live one, or all of them, each but the
-- first with a look of its own. So the looks are at most those of the rule and one for each entry of the name.
use Prim.Native.Nat.{ℕ, zero, suc, ◌+◌, ◌≤◌, ◌<◌}
use mathlib.Core.Path.{◌≡◌, refl, sym, ap, ◌∙◌}
use mathlib.Core.Logic.{◌⊎◌, inl, inr, ⊎_elim}
use mathlib.Core.Bool.{Bool, true, false, cond}
use mathlib.Core.List.{List, [], ◌∷◌}
use native.Mathlib.Omega.{arith}
use lib.ListN.{length, get_or, take, drop, length-append, drop_of_length-le}
use lib.Dec.{eqb}
use borrow.Author.Tests.{lt-ltb, le-ltb}
use Rattle.words.specs.Words.{words}
use Rattle.names.specs.Names.{packed}
use Rattle.files.specs.Judge.{judge_of}
use Rattle.entries.specs.Entries.{entries, entries_ok, name_of, place_of}
use Rattle.sorting.proofs.Laws.{le_or_lt}
use Rattle.lookup.specs.LookUp.{halved, missing, name_number, look_up, look_up_of, looks_of}
use Rattle.lookup.specs.Live.{live_cell, step_to, go_on, look_on, live_look_by, live_look_up_of}
use Rattle.lookup.specs.Finding.{run, run_of, PassesOver, PassedCounted, how_many, of_text, LiveLooksBound}
use Rattle.lookup.proofs.Named.{looks_bound}
use Rattle.lookup.proofs.Finding.{entries_few}
use Rattle.std.specs.Prelude.{Err, Ok, Result}
use Rattle.files.specs.declared.Accepted.{Accepted}
use Rattle.finder.specs.Found.{found_with, missed_with}
use Rattle.finder.specs.declared.Found.{Found}
use Rattle.finder.specs.declared.Missed.{Missed}
use Rattle.names.specs.declared.Name.{Name}
use Rattle.refusals.specs.declared.Refusal.{Refusal}

---- one step

module _ (live : ℕ → Bool) where
  -- a deleted entry in front of others: the next one is counted if there is one of the name
  one_more : (r : Result Found Missed) (es : List ℕ) (n k e : ℕ) → live (place_of e) ≡ false → ((es ≡ []) × (k ≡ n)) ⊎ ((1 ≤ length es) × (k ≡ n + 1)) →
      PassesOver live es k r → PassesOver live (e ∷ es) n r
  one_more (Ok found) es n k e h (inl c) p =
      let f = p.1.0 in
      let l = ap length (sym c.0 ∙ f.whole) ∙ length-append f.before (f.one ∷ f.after) in
      absurd (omega arith)
  one_more (Ok found) es n k e h (inr c) p =
      let f = p.1.0 in
      let z = p.1.1 in
      let y = c.1 in
      let g = f.counted in (
        suc p.0,
        (
          record {
            before = e ∷ f.before;
            one = f.one;
            after = f.after;
            whole = ap (λ l. e ∷ l) f.whole;
            at = f.at;
            is_live = f.is_live;
            others = (h, f.others);
            counted = omega arith;
          },
          omega arith,
        ),
      )
  one_more (Err missed) es n k e h (inl c) p =
      let l = ap length c.0 in
      let y = c.1 in
      let z = p.3 in
      (p.0, p.1, (h, p.2), omega arith)
  one_more (Err missed) es n k e h (inr c) p =
      let l = c.0 in
      let y = c.1 in
      let z = p.3 in
      (p.0, p.1, (h, p.2), omega arith)

  -- whether the first of some entries has the name, and is counted
  front : (name : ℕ) (es : List ℕ) (n : ℕ) → ((run name es ≡ []) × (step_to name es n ≡ n)) ⊎ ((1 ≤ length (run name es)) × (step_to name es n ≡ n + 1))
  front name [] n = inl (refl, refl)
  front name (e ∷ es) n = go (eqb (name_of e) name)
    where
      go : (b : Bool) → ((cond b (e ∷ run name es) [] ≡ []) × (cond b (n + 1) n ≡ n)) ⊎ ((1 ≤ length (cond b (e ∷ run name es) [])) × (cond b (n + 1) n ≡ n + 1))
      go true = inr (omega arith, refl)
      go false = inl (refl, refl)

  steps_pass : (name : ℕ) (es : List ℕ) (n : ℕ) → PassesOver live (run name es) n (go_on live name es n)
  steps_pass name [] n = (refl, refl, tt, omega arith)
  steps_pass name (e ∷ es) n = go (eqb (name_of e) name) (live (place_of e)) refl (steps_pass name es (step_to name es n))
    where
      go : (b c : Bool) → live (place_of e) ≡ c → PassesOver live (run name es) (step_to name es n) (go_on live name es (step_to name es n)) →
          PassesOver live (cond b (e ∷ run name es) []) n (cond b (cond c (found_with (place_of e) n) (go_on live name es (step_to name es n))) (missing n))
      go true true q r =
          (0, (record { before = []; one = e; after = run name es; whole = refl; at = refl; is_live = q; others = tt; counted = refl }, omega arith))
      go true false q r = one_more (go_on live name es (step_to name es n)) (run name es) n (step_to name es n) e q (front name es n) r
      go false c q r = (refl, refl, tt, omega arith)

  ---- the whole look-up

  rule_looks : (es : List ℕ) (name : ℕ) → (halved es name).low < length es → looks_of (look_up es name) ≡ (halved es name).looks + 1
  unfolding look_up
  rule_looks es name l = rw (lt-ltb (halved es name).low (length es) l) (go (eqb (name_of (get_or es (halved es name).low 0)) name))
    where
      go : (b : Bool) → looks_of (cond b (found_with (place_of (get_or es (halved es name).low 0)) ((halved es name).looks + 1)) (missing ((halved es name).looks + 1))) ≡ (halved es name).looks + 1
      go true = refl
      go false = refl

  rule_none : (es : List ℕ) (name : ℕ) → length es ≤ (halved es name).low → looks_of (look_up es name) ≡ (halved es name).looks
  unfolding look_up
  rule_none es name l = rw (le-ltb (halved es name).low (length es) l) refl

  pub look_passes : (es : List ℕ) (name : ℕ) → PassesOver live (run_of es name) (looks_of (look_up es name)) (look_on live es name)
  unfolding look_on
  look_passes es name =
      ⊎_elim
      (λ l. rw (rule_none es name l, le-ltb (halved es name).low (length es) l, drop_of_length-le es {i = (halved es name).low} l) (refl, refl, tt, omega arith))
      (λ l. rw (rule_looks es name l, lt-ltb (halved es name).low (length es) l) (steps_pass name (drop (halved es name).low es) ((halved es name).looks + 1)))
      (le_or_lt (length es) (halved es name).low)

  -- at most one more look for each of them
  passes_few : (r : Result Found Missed) (es : List ℕ) (n : ℕ) → PassesOver live es n r → looks_of r ≤ n + length es
  passes_few (Ok found) es n p =
      let f = p.1.0 in
      let z = p.1.1 in
      let c = f.counted in
      let l = ap length f.whole ∙ length-append f.before (f.one ∷ f.after) in
      omega arith
  passes_few (Err missed) es n p = let z = p.3 in omega arith

---- over any bytes

pub passed_counted : PassedCounted
unfolding live_look_up_of look_up_of
passed_counted dim s index used t e d m a b q p ok = rw (ok, q, p) (look_passes (live_cell dim (words s)) (entries (take used index)) (name_number a b))

run_few : (name : ℕ) (es : List ℕ) → length (run name es) ≤ how_many name es
run_few name [] = omega arith
run_few name (e ∷ es) = go (eqb (name_of e) name) (run_few name es)
  where
    go : (b : Bool) → length (run name es) ≤ how_many name es → length (cond b (e ∷ run name es) []) ≤ cond b (suc (how_many name es)) (how_many name es)
    go true r = omega arith
    go false r = omega arith

drop_few : (name : ℕ) (es : List ℕ) (k : ℕ) → how_many name (drop k es) ≤ how_many name es
drop_few name es zero = omega arith
drop_few name [] (suc k) = omega arith
drop_few name (e ∷ es) (suc k) = go (eqb (name_of e) name) (drop_few name es k)
  where
    go : (b : Bool) → how_many name (drop k es) ≤ how_many name es → how_many name (drop k es) ≤ cond b (suc (how_many name es)) (how_many name es)
    go true r = omega arith
    go false r = r

pub live_looks_any : LiveLooksBound
unfolding live_look_up_of
live_looks_any dim s index used t d h = go (entries_ok (length index) used) (judge_of dim s) (packed t)
  where
    go : (b : Bool) (j : Result Accepted Refusal) (p : Result Name Refusal) →
        looks_of (cond b (live_look_by j p (live_cell dim (words s)) (entries (take used index))) (missed_with 1 0 0)) ≤ d + 1 + of_text p (entries (take used index))
    go false j p = omega arith
    go true (Err refusal) p = omega arith
    go true (Ok file) (Err refusal) = omega arith
    go true (Ok file) (Ok name2) =
        let es = entries (take used index) in
        let name = name_number name2.first name2.second in
        let live = live_cell dim (words s) in
        let l = looks_bound es name d (entries_few used index d h) in
        let f = passes_few live (look_on live es name) (run_of es name) (looks_of (look_up es name)) (look_passes live es name) in
        let r = run_few name (drop (halved es name).low es) in
        let u = drop_few name es (halved es name).low in
        omega arith
