-- Small cases, computed: how flags lie in words, which words are refused as flags of an extent, which elements an extent has, and
-- whose flag 14 looks at. They fix what demand 3 leaves free: the layout of a record, and how strict an undo is.
use mathlib.Core.Path.{◌≡◌, refl}
use mathlib.Core.Bool.{true, false}
use mathlib.Core.List.{List, [], ◌∷◌, ◌++◌}
use mathlib.Core.Option.{none, some}
use lib.ListN.{replicate}
use Rattle.files.specs.Spots.{Spot}
use Rattle.edits.specs.Bits.{flag_words, flags_ok}
use Rattle.edits.specs.Edits.{extent_places}
use Rattle.edits.specs.Allowed.{fine, mark_fault}

-- one flag, and the lowest bit first
one_flag : flag_words (true ∷ []) ≡ 1 ∷ []
unfolding flag_words
one_flag = refl

lowest_first : flag_words (false ∷ true ∷ true ∷ []) ≡ 6 ∷ []
unfolding flag_words
lowest_first = refl

sixteen_flags : flag_words (replicate 16 true) ≡ 65535 ∷ []
unfolding flag_words
sixteen_flags = refl

seventeen_flags : flag_words (replicate 16 false ++ (true ∷ [])) ≡ 0 ∷ 1 ∷ []
unfolding flag_words
seventeen_flags = refl

-- the old form, without a payload
old_form : flags_ok 1 [] ≡ false
unfolding flags_ok
old_form = refl

spare_bit : flags_ok 1 (2 ∷ []) ≡ false
unfolding flags_ok
spare_bit = refl

no_spare_bit : flags_ok 1 (1 ∷ []) ≡ true
unfolding flags_ok
no_spare_bit = refl

full_word : flags_ok 16 (65535 ∷ []) ≡ true
unfolding flags_ok
full_word = refl

a_word_more : flags_ok 16 (65535 ∷ 0 ∷ []) ≡ false
unfolding flags_ok
a_word_more = refl

second_word : flags_ok 17 (65535 ∷ 1 ∷ []) ≡ true
unfolding flags_ok
second_word = refl

second_spare : flags_ok 17 (65535 ∷ 2 ∷ []) ≡ false
unfolding flags_ok
second_spare = refl

-- a header at 4 with components at 40 and 58, the last of two words, between two elements at the top
abbrev four_spots : List Spot
four_spots =
    record { place = 0; end = 4; depth = 0; header = none } ∷ record { place = 4; end = 60; depth = 0; header = none }
    ∷ record { place = 40; end = 58; depth = 1; header = some 4 } ∷ record { place = 58; end = 60; depth = 1; header = some 4 }
    ∷ record { place = 60; end = 64; depth = 0; header = none } ∷ []

header_extent : extent_places four_spots 4 ≡ 4 ∷ 40 ∷ 58 ∷ []
unfolding extent_places
header_extent = refl

component_extent : extent_places four_spots 40 ≡ 40 ∷ []
unfolding extent_places
component_extent = refl

-- a live header around a dead component may be marked deleted
own_flag : mark_fault (record { place = 0; end = 4; depth = 0; header = none } ∷ record { place = 2; end = 4; depth = 1; header = some 0 } ∷ []) (256 ∷ 0 ∷ 33792 ∷ 0 ∷ []) 0 true ≡ fine
unfolding mark_fault extent_places
own_flag = refl
