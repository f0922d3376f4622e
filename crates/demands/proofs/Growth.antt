-- An insert that would make an extent too large is refused with 8 before the room in the file's buffer counts.
use Prim.Native.Nat.{ℕ, suc, ◌/◌}
use mathlib.Core.Path.{◌≡◌, refl, sym, ap, subst, ◌∙◌}
use mathlib.Core.List.{List}
use mathlib.Core.Option.{some}
use lib.ListN.{length}
use Rattle.refusals.specs.Refusals.{refused_with}
use Rattle.words.specs.Words.{words}
use Rattle.words.proofs.Laws.{length_words}
use Rattle.names.specs.Names.{word_ok, name_ok}
use Rattle.kinds.specs.Kinds.{fixed_part, may_stand}
use Rattle.headers.specs.Flags.{reserved_ok, place_ok}
use Rattle.elements.specs.Attributes.{attributes_ok, linkages_ok}
use Rattle.elements.specs.Rules.{fixed_ok, text_fields_ok, curve_floats_ok, extent_ok, stored_name_ok, fault_of, head_of, count_ok}
use Rattle.limits.specs.Limits.{size_ok}
use Rattle.files.specs.Ends.{stop_of}
use Rattle.files.specs.Judge.{list_from, element_of, top_of}
use Rattle.files.specs.Spots.{spots_from, spots_of}
use Rattle.edits.specs.Edits.{insert, down_to}
use Rattle.edits.specs.Allowed.{fine, fault, or_else, unless, gap_ok, depth_under, type_under, whole_by, piece_fault, room_fault, insert_fault, edit_fault}
use Rattle.edits.specs.Calls.{used_words, session_ok, session_fault, open_fault, result_by, call_on, edited, step}
use Rattle.demands.specs.SessionCases.{full, large_piece, put_large}

abbrev ws : List ℕ
ws = used_words full.file full.used

pub growth_first : (rest : List ℕ) → length rest ≡ 130880 → (step 2 full (put_large rest)).answer ≡ refused_with 8 2
unfolding word_ok name_ok fixed_part may_stand reserved_ok place_ok attributes_ok linkages_ok fixed_ok text_fields_ok curve_floats_ok extent_ok stored_name_ok fault_of head_of
    count_ok stop_of list_from element_of top_of spots_from spots_of gap_ok piece_fault insert_fault edit_fault session_ok session_fault
    open_fault edited step
growth_first rest h =
    let size : length (large_piece rest) ≡ 130884 = ap (λ n. suc (suc (suc (suc n)))) h in
    let long : length (words (large_piece rest)) ≡ 65442 = length_words (large_piece rest) ∙ ap (λ n. n / 2) size in
    let opens : open_fault 2 full (put_large rest) ≡ fine = subst (λ n. or_else (unless (size_ok n) 1) (session_fault 2 full) ≡ fine) (sym size) refl in
    let own : edit_fault 2 ws (insert (some 48) 94 (words (large_piece rest))) ≡ fault 8 2 =
    subst
    (λ n. or_else (unless (gap_ok (spots_of 2 ws) ws (some 48) 94) 13)
    (or_else (whole_by (element_of 2 (depth_under (spots_of 2 ws) (some 48)) (type_under ws (some 48)) (words (large_piece rest)) 0 n) n)
    (room_fault n ws (down_to (spots_of 2 ws) (some 48)))) ≡ fault 8 2)
    (sym long) refl in
    subst (λ f. (result_by f full (call_on 2 full ws (put_large rest))).answer ≡ refused_with 8 2) (sym opens)
    (subst (λ f. (edited 2 full (insert (some 48) 94 (words (large_piece rest))) f).answer ≡ refused_with 8 2) (sym own) refl)
