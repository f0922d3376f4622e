-- Every refusal of the cells, of building and of the look-ups is small: its number and its detail can be taken apart again.
use Prim.Native.Nat.{ℕ, ◌+◌, ◌^◌, ◌≤◌, ◌<◌, min}
use mathlib.Core.Path.{◌≡◌, refl}
use mathlib.Core.Bool.{Bool, true, false, cond}
use mathlib.Core.List.{List, [], ◌∷◌}
use native.Mathlib.Omega.{arith}
use lib.ListN.{length, take, drop}
use lib.Dec.{eqb, ltb, leb}
use Rattle.words.specs.Words.{words}
use Rattle.names.specs.Names.{packed}
use Rattle.names.proofs.Refusals.{pack_refused}
use Rattle.files.specs.Judge.{judge_of}
use Rattle.entries.specs.Entries.{entries, entries_ok, name_of, place_of}
use Rattle.indexing.specs.Indexing.{built_by}
use Rattle.lookup.specs.LookUp.{halved, missing, name_number, look_up_by, look_up_of}
use Rattle.lookup.specs.Live.{live_cell, step_to, go_on, look_on, live_look_by, live_look_up_of}
use Rattle.lookup.proofs.Named.{all_live}
use Rattle.lookup.proofs.Finding.{looks_any}
use Rattle.answers.specs.Answers.{Small, SmallReply}
use Rattle.answers.proofs.Refusals.{file_small}
use Rattle.dgn_index.specs.IndexNumbers.{cells_reply, index_reply, look_detail, look_reply}
use Rattle.std.specs.Prelude.{Err, Ok, Result}
use Rattle.files.specs.declared.Accepted.{Accepted}
use Rattle.finder.specs.Found.{found_with, missed_with}
use Rattle.finder.specs.declared.Found.{Found}
use Rattle.finder.specs.declared.Missed.{Missed}
use Rattle.names.specs.declared.Name.{Name}
use Rattle.refusals.specs.Refusals.{refused_with}
use Rattle.refusals.specs.declared.Refusal.{Refusal}
use Rattle.refusals.proofs.Laws.{refusal_is}

---- the cells

pub cells_small : (dim : ℕ) (s : List ℕ) (count : ℕ) → SmallReply (cells_reply (judge_of dim s) count)
cells_small dim s count = go (judge_of dim s) refl
  where
    go : (j : Result Accepted Refusal) → judge_of dim s ≡ j → SmallReply (cells_reply j count)
    go (Ok file) h = tt
    go (Err refusal) h = file_small dim s refusal.number refusal.place h

---- building

module _ (dim : ℕ) (s : List ℕ) (used size : ℕ) where
  pub built_small : (refusal : Refusal) → built_by (judge_of dim s) used size ≡ Err refusal → Small refusal.number refusal.place
  built_small refusal e = go (judge_of dim s) refl e
    where
      fits : (b : Bool) → cond b (Ok used) (refused_with 15 0) ≡ Err refusal → Small refusal.number refusal.place
      fits true e = absurd (cc)
      fits false e = rw (← refusal_is e) (omega arith, omega arith, omega arith)

      go : (j : Result Accepted Refusal) → judge_of dim s ≡ j → built_by j used size ≡ Err refusal → Small refusal.number refusal.place
      go (Err r) h e = rw (← refusal_is e) (file_small dim s r.number r.place h)
      go (Ok file) h e = fits (leb used size) e

  pub index_small : SmallReply (index_reply (built_by (judge_of dim s) used size))
  index_small = go (built_by (judge_of dim s) used size) refl
    where
      go : (r : Result ℕ Refusal) → built_by (judge_of dim s) used size ≡ r → SmallReply (index_reply r)
      go (Ok n) e = tt
      go (Err refusal) e = built_small refusal e

---- the look-ups

-- the number and the place of a refusal can be taken apart; its looks are then cut off
abbrev Numbered : Result Found Missed → Type 0
Numbered (Ok found) = Unit {0}
Numbered (Err missed) = Small missed.refusal.number missed.refusal.place

reply_small : (r : Result Found Missed) → Numbered r → SmallReply (look_reply r)
reply_small (Ok found) h = tt
reply_small (Err missed) h = go (eqb missed.refusal.number 13)
  where
    go : (b : Bool) → Small missed.refusal.number (cond b (min missed.looks 524288) missed.refusal.place)
    go true = (h.0, h.1, omega arith)
    go false = h

steps_numbered : (live : ℕ → Bool) (name : ℕ) (es : List ℕ) (n : ℕ) → Numbered (go_on live name es n)
steps_numbered live name [] n = (omega arith, omega arith, omega arith)
steps_numbered live name (e ∷ es) n = go (eqb (name_of e) name) (live (place_of e)) (steps_numbered live name es (step_to name es n))
  where
    go : (b c : Bool) → Numbered (go_on live name es (step_to name es n)) →
        Numbered (cond b (cond c (found_with (place_of e) n) (go_on live name es (step_to name es n))) (missing n))
    go true true r = tt
    go true false r = r
    go false c r = (omega arith, omega arith, omega arith)

look_numbered : (live : ℕ → Bool) (es : List ℕ) (name : ℕ) → Numbered (look_on live es name)
unfolding look_on
look_numbered live es name = go (ltb (halved es name).low (length es))
  where
    go : (b : Bool) → Numbered (cond b (go_on live name (drop (halved es name).low es) ((halved es name).looks + 1)) (missing (halved es name).looks))
    go true = steps_numbered live name (drop (halved es name).low es) ((halved es name).looks + 1)
    go false = (omega arith, omega arith, omega arith)

text_small : (t : List ℕ) (n p : ℕ) → packed t ≡ refused_with n p → Small n p
text_small t n p e = let x = pack_refused t n p e in (omega (arith, x.0), omega (arith, x.0), omega (arith, x.1))

numbered : (s : List ℕ) (used : ℕ) (t : List ℕ) → Numbered (look_up_of s used t)
unfolding look_up_of
numbered s used t = go (entries_ok (length s) used) (packed t) refl
  where
    go : (b : Bool) (p : Result Name Refusal) → packed t ≡ p → Numbered (cond b (look_up_by p (entries (take used s))) (missed_with 1 0 0))
    go false p e = (omega arith, omega arith, omega arith)
    go true (Err refusal) e = text_small t refusal.number refusal.place e
    go true (Ok name) e = rw (all_live (entries (take used s)) (name_number name.first name.second)) (look_numbered (λ p. true) (entries (take used s)) (name_number name.first name.second))

pub look_small : (s : List ℕ) (used : ℕ) (t : List ℕ) → SmallReply (look_reply (look_up_of s used t))
look_small s used t = reply_small (look_up_of s used t) (numbered s used t)

live_numbered : (dim : ℕ) (s index : List ℕ) (used : ℕ) (t : List ℕ) → Numbered (live_look_up_of dim s index used t)
unfolding live_look_up_of
live_numbered dim s index used t = go (entries_ok (length index) used) (judge_of dim s) refl (packed t) refl
  where
    go : (b : Bool) (j : Result Accepted Refusal) → judge_of dim s ≡ j → (p : Result Name Refusal) → packed t ≡ p →
        Numbered (cond b (live_look_by j p (live_cell dim (words s)) (entries (take used index))) (missed_with 1 0 0))
    go false j q p e = (omega arith, omega arith, omega arith)
    go true (Err refusal) q p e = file_small dim s refusal.number refusal.place q
    go true (Ok file) q (Err refusal) e = text_small t refusal.number refusal.place e
    go true (Ok file) q (Ok name) e = look_numbered (live_cell dim (words s)) (entries (take used index)) (name_number name.first name.second)

pub live_look_small : (dim : ℕ) (s index : List ℕ) (used : ℕ) (t : List ℕ) → SmallReply (look_reply (live_look_up_of dim s index used t))
live_look_small dim s index used t = reply_small (live_look_up_of dim s index used t) (live_numbered dim s index used t)

-- with deleted cells the looks are never cut off: there are at most 65
pub looks_told : (s : List ℕ) (used : ℕ) (t : List ℕ) → used < 2 ^ 64 → (p looks : ℕ) → look_up_of s used t ≡ missed_with 13 p looks → look_detail 13 p looks ≡ looks
looks_told s used t h p looks e = let l : looks ≤ 64 + 1 = rw e at (looks_any s used t 64 (omega arith)) in omega arith
