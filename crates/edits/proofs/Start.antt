-- An accepted file's words through its marker are the same file of the grammar, and its marker is their last word: a session
-- on them opens.
use Prim.Native.Nat.{ℕ, ◌+◌, ◌-◌, ◌*◌, ◌≤◌}
use mathlib.Core.Path.{◌≡◌, refl, sym, ap, ◌∙◌}
use mathlib.Core.Bool.{true, and-eq-true_iff}
use mathlib.Core.List.{List, ◌∷◌}
use native.Mathlib.Omega.{arith}
use lib.ListN.{length, take, length-append, length-take}
use lib.Seq.{take-take, get_or-append_seam}
use borrow.Author.Tests.{le-leb, eq-eqb}
use Rattle.words.specs.Words.{words, word_at}
use Rattle.words.proofs.Laws.{words_take, length_words}
use Rattle.limits.specs.Limits.{call_ok}
use Rattle.files.specs.Spots.{Spot}
use Rattle.grammar.specs.Grammar.{File}
use Rattle.grammar.proofs.Exact.{accepted_is, file_before}
use Rattle.grammar.proofs.Whole.{file_top}
use Rattle.edits.specs.Calls.{afresh, ends_in_marker, session_ok, session_fault}
use Rattle.edits.specs.Start.{start_on, AcceptedOpens}
use Rattle.edits.proofs.Tested.{parts_used, session_ok_lem}
use Rattle.edits.proofs.Indexed.{index_size, index_ok_lem}

-- a file has its marker's word, and ends in it where that is its last
file_long : {dim : ℕ} {ws : List ℕ} {xs : List Spot} {m : ℕ} → File dim ws xs m → m + 1 ≤ length ws
file_long f =
    let l = ap length f.whole ∙ length-append f.body (65535 ∷ f.after) in
    let e = f.end in
    omega arith

file_ends : {dim : ℕ} {ws : List ℕ} {xs : List Spot} {m : ℕ} → File dim ws xs m → length ws ≡ m + 1 → ends_in_marker ws ≡ true
file_ends {ws = ws} {m = m} f l =
    let last : length ws - 1 ≡ length f.body = let e = f.end in omega arith in
    let marker : word_at ws (length ws - 1) ≡ 65535 =
    ap (word_at ws) last ∙ ap (λ v. word_at v (length f.body)) f.whole ∙ get_or-append_seam f.body 65535 f.after 0 in
    (and-eq-true_iff _ _).1 (le-leb 1 (length ws) (omega arith), eq-eqb (word_at ws (length ws - 1)) 65535 marker)

pub accepted_opens : AcceptedOpens
unfolding session_fault call_ok
accepted_opens dim s file journal e d m beside q h F G fits =
    let r = accepted_is dim s e d m q in
    let u = words (take (2 * (m + 1)) file) in
    let front : u ≡ take (m + 1) (words s) = ap words h ∙ words_take (m + 1) s in
    let f : File dim u _ m = file_before r.file (ap (take (m + 1)) front ∙ take-take (m + 1) (m + 1) (words s) (omega arith)) in
    let within = file_long r.file in
    let long : length u ≡ m + 1 = ap length front ∙ length-take (m + 1) (words s) ∙ (omega arith) in
    let room : 2 * (m + 1) ≤ length file =
    let a = length-take (2 * (m + 1)) file in
    let b = length-take (2 * (m + 1)) s in
    let c : length (take (2 * (m + 1)) file) ≡ length (take (2 * (m + 1)) s) = ap length h in
    let w = length_words s in
    omega arith in
    let ok : session_ok dim (start_on file m journal (afresh dim u beside)) ≡ true = session_ok_lem (record {
      index = index_ok_lem dim u beside fits;
      dimension = ((and-eq-true_iff _ _).0 r.call).0;
      file = parts_used (length file) (2 * (m + 1)) (record { size_ok_lem = F.size; even = omega arith; within = room });
      journal = parts_used (length journal) 0 (record { size_ok_lem = G.size; even = refl; within = omega arith });
      ends = file_ends f long;
    }) in
    record {
      file_bytes = F.bytes;
      journal_bytes = G.bytes;
      journal_empty = refl;
      index_built = ap (afresh dim u) (sym (index_size dim u beside fits));
      index_fits_lem = rw (index_size dim u beside fits) fits;
      ready = rw (ok, (file_top f).1, eq-eqb m (length u - 1) (omega arith)) refl;
    }
