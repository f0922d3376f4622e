-- The ways out of the look-up with a file: the index's 1, the file's refusal, the text's, and the look-up by the elements up to the marker.
use Prim.Native.Nat.{ℕ, ◌≤◌}
use mathlib.Core.Path.{◌≡◌, refl}
use mathlib.Core.Bool.{true, false}
use mathlib.Core.List.{List}
use native.Mathlib.Omega.{arith}
use lib.ListN.{length, take}
use Rattle.words.specs.Words.{words}
use Rattle.words.proofs.Laws.{length_words}
use Rattle.names.specs.Names.{packed}
use Rattle.files.specs.Judge.{judge_of}
use Rattle.files.specs.Spots.{spots_of}
use Rattle.grammar.proofs.Exact.{accepted_is}
use Rattle.grammar.proofs.Whole.{file_tree}
use Rattle.finder.proofs.Order.{file_order}
use Rattle.finder.proofs.Looks.{call_small}
use Rattle.entries.specs.Entries.{entries, entries_ok}
use Rattle.lookup.specs.LookUp.{name_number}
use Rattle.lookup.specs.Live.{live_cell, live_look_up_of}
use Rattle.lookup.specs.Table.{LookedTo}
use Rattle.lookup.proofs.Table.{file_apart}
use Rattle.std.specs.Prelude.{Result, Err}
use Rattle.files.specs.Accepted.{accepted_with}
use Rattle.finder.specs.Found.{unlooked}
use Rattle.finder.specs.declared.Found.{Found}
use Rattle.finder.specs.declared.Missed.{Missed}
use Rattle.names.specs.Name.{packed_to}
use Rattle.refusals.specs.Refusals.{refusal_of}
use Rattle.refusals.specs.declared.Refusal.{Refusal}

-- the marker of an accepted file is one of at most 524,288 words
pub marker_few : (dim : ℕ) (s : List ℕ) (e d m : ℕ) → judge_of dim s ≡ accepted_with e d m → m ≤ 524288
marker_few dim s e d m q =
    let a = accepted_is dim s e d m q in
    let t = file_tree a.file in
    let i = t.ends.0 in
    let n = t.end in
    let l = call_small dim s a.call in
    let w = length_words s in
    omega arith

module _ (dim : ℕ) (s index : List ℕ) (used : ℕ) (t : List ℕ) where
  pub live_bad : entries_ok (length index) used ≡ false → Err (unlooked (refusal_of 1 0)) ≡ live_look_up_of dim s index used t
  unfolding live_look_up_of
  live_bad h = rw h refl

  module _ (ok : entries_ok (length index) used ≡ true) where
    pub live_file : {refusal : Refusal} → judge_of dim s ≡ Err refusal → Err (unlooked refusal) ≡ live_look_up_of dim s index used t
    unfolding live_look_up_of
    live_file q = rw (ok, q) refl

    module _ {e d m : ℕ} (q : judge_of dim s ≡ accepted_with e d m) where
      pub live_text : {refusal : Refusal} → packed t ≡ Err refusal → Err (unlooked refusal) ≡ live_look_up_of dim s index used t
      unfolding live_look_up_of
      live_text h = rw (ok, q, h) refl

      pub live_words : {a b : ℕ} {r : Result Found Missed} → packed t ≡ packed_to a b → LookedTo (words s) m (entries (take used index)) (name_number a b) r →
          r ≡ live_look_up_of dim s index used t
      unfolding live_look_up_of live_cell
      live_words h f = rw (ok, q, h) (f (spots_of dim (words s)) (file_order dim s e d m q) (file_apart dim s e d m q))
