-- A record that is answered stands at the end of the used bytes, so the used length before it may be handed in next.
use Prim.Native.Nat.{ℕ, ◌+◌, ◌-◌, ◌*◌, ◌≤◌}
use mathlib.Core.Path.{◌≡◌, refl}
use mathlib.Core.Bool.{Bool, true, false, cond, ◌&&◌, and-eq-true_iff}
use mathlib.Core.List.{List, [], ◌∷◌}
use mathlib.Core.Option.{Option}
use native.Mathlib.Omega.{arith}
use lib.ListN.{length, take, drop, length-take, length-drop}
use lib.Dec.{eqb, leb}
use borrow.Author.Tests.{leb-true, eqb-true}
use Rattle.words.specs.Words.{word_at, long_at}
use Rattle.limits.specs.Limits.{used_ok}
use Rattle.edits.specs.Calls.{used_words}
use Rattle.edits.specs.Records.{Kind, flags, renames, inserts, removes, no_kind, keep, place_of, kind_of, at_top, formed, build, read_by, read_at, last_record}
use Rattle.edits.proofs.Tested.{used_parts, parts_used, used_twice}
use Rattle.answers.specs.Answers.{Reply, done, refuse}
use Rattle.dgn_record.specs.LastRecord.{newest_reply, record_reply, Ends, EndsThere}

-- the words of a record with n payload words, behind `before` bytes
abbrev Fills : List ℕ → ℕ → ℕ → Type 0
Fills js n before = before + 2 * n + 12 ≡ 2 * length js

module _ (js : List ℕ) (kind header place n before : ℕ) where
  not_refused : (a b : ℕ) → ◌≡◌ {A = Reply ℕ} (refuse a b) (done (kind ∷ header ∷ place ∷ n ∷ before ∷ [])) → Fills js n before
  not_refused a b e = let z : ◌≡◌ {A = ℕ} 0 1 = cc in absurd (omega arith)

  module _ (t m : ℕ) (long : t + 6 ≡ length js) (room : m ≤ t) where
    back : 2 * length (take (t - m) js) ≡ 2 * (t - m)
    back = simp length-take (omega arith)

    payload : length (take m (drop (t - m) js)) ≡ m
    payload = simp (length-take, length-drop) (omega arith)

    -- a payload of any length
    filled : length (take m (drop (t - m) js)) ≡ n → 2 * length (take (t - m) js) ≡ before → Fills js n before
    filled n_is b = let l = back in let x = payload in omega arith

    built : (k : Kind) (h : Option ℕ) (p : ℕ) → formed k h m ≡ true → newest_reply (build k h p (take m (drop (t - m) js)) (take (t - m) js)) ≡ done (kind ∷ header ∷ place ∷ n ∷ before ∷ []) →
        Fills js n before
    built flags h p f e = filled (cc) (cc)
    built renames h p f e =
        let m_is = eqb-true m 2 ((and-eq-true_iff (at_top h) (eqb m 2)).0 f).1 in
        let n_is : 2 ≡ n = cc in
        let b : 2 * length (take (t - m) js) ≡ before = cc in
        let l = back in
        omega arith
    built inserts h p f e =
        let m_is = eqb-true m 0 f in
        let n_is : 0 ≡ n = cc in
        let b : 2 * length (take (t - m) js) ≡ before = cc in
        let l = back in
        omega arith
    built removes h p f e = filled (cc) (cc)
    built no_kind h p f e = not_refused 19 0 e

  read_fills : (t m : ℕ) → t + 6 ≡ length js → (k : Kind) (h : Option ℕ) (p : ℕ) → newest_reply (read_by js t m k h p) ≡ done (kind ∷ header ∷ place ∷ n ∷ before ∷ []) → Fills js n before
  read_fills t m long k h p = go (leb m t) refl (formed k h m) refl
    where
      go : (a : Bool) → leb m t ≡ a → (b : Bool) → formed k h m ≡ b →
          newest_reply (keep (a && b) (build k h p (take m (drop (t - m) js)) (take (t - m) js))) ≡ done (kind ∷ header ∷ place ∷ n ∷ before ∷ []) → Fills js n before
      go true r true f e = built t m long (leb-true m t r) k h p f e
      go true r false f e = not_refused 19 0 e
      go false r b f e = not_refused 19 0 e

  last_fills : newest_reply (last_record js) ≡ done (kind ∷ header ∷ place ∷ n ∷ before ∷ []) → Fills js n before
  unfolding last_record
  last_fills = go (leb 6 (length js)) refl
    where
      go : (b : Bool) → leb 6 (length js) ≡ b → newest_reply (keep b (read_at js (length js - 6) (word_at js (length js - 6 + 5)))) ≡ done (kind ∷ header ∷ place ∷ n ∷ before ∷ []) → Fills js n before
      go true r e =
          let six = leb-true 6 (length js) r in
          read_fills (length js - 6) (word_at js (length js - 6 + 5)) (omega arith) (kind_of (word_at js (length js - 6))) (place_of (long_at js (length js - 6 + 1))) (long_at js (length js - 6 + 3)) e
      go false r e = not_refused 19 0 e

pub ends_there : EndsThere
unfolding record_reply
ends_there journal used kind header place n before = go (used_ok (length journal) used) refl (eqb used 0)
  where
    go : (a : Bool) → used_ok (length journal) used ≡ a → (b : Bool) →
        cond a (cond b (refuse 17 0) (newest_reply (last_record (used_words journal used)))) (refuse 1 0) ≡ done (kind ∷ header ∷ place ∷ n ∷ before ∷ []) → Ends journal used n before
    go false o b e = let z : ◌≡◌ {A = ℕ} 0 1 = cc in absurd (omega arith)
    go true o true e = let z : ◌≡◌ {A = ℕ} 0 1 = cc in absurd (omega arith)
    go true o false e =
        let u = used_parts (length journal) used o in
        let twice = used_twice journal used u in
        let f = last_fills (used_words journal used) kind header place n before e in
        let even = u.even in
        let within = u.within in
        record {
          all = omega arith;
          lent = parts_used (length journal) before (record { size_ok_lem = u.size_ok_lem; even = omega arith; within = omega arith });
        }
