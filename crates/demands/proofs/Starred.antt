-- The worked cases hold: each is computed from the definitions.
use mathlib.Core.Path.{◌≡◌, refl}
use mathlib.Core.Bool.{true}
use Rattle.words.specs.Words.{over, put_word}
use Rattle.names.specs.Names.{code_of, letter_of, word_from, packed, word_ok, name_ok, text_in, text_answer, unpacked}
use Rattle.linkages.specs.Linkages.{linkage_words, fill_from, linkages_fill}
use lib.Count.{count_trailing_zeros}
use lib.Ieee.{odd, to_bits, size}
use Rattle.dfloats.specs.FirstWord.{is_reserved}
use Rattle.dfloats.specs.Fields.{digits, eighth, float}
use Rattle.dfloats.specs.Reading.{d_float}
use Rattle.curves.specs.Curves.{floats_ok}
use Rattle.turns.specs.Turns.{turn_at}
use Rattle.texts.specs.Texts.{byte_at, text_part, each_field_ok, fields_ok}
use Rattle.kinds.specs.Kinds.{fixed_part, may_stand}
use Rattle.elements.specs.Attributes.{attributes_ok, linkages_ok}
use Rattle.headers.specs.Flags.{reserved_ok, place_ok}
use Rattle.elements.specs.Rules.{fixed_ok, text_fields_ok, curve_floats_ok, extent_ok, stored_name_ok, fault_of, head_of, count_ok}
use Rattle.files.specs.Ends.{stop_of}
use Rattle.files.specs.Judge.{element_from, list_from, element_of, top_of, judge_of}
use Rattle.files.specs.Spots.{spots_from, spots_of}
use Rattle.limits.specs.Limits.{call_ok}
use Rattle.places.specs.Places.{spotted_at}
use Rattle.ranges.specs.Ranges.{coordinate, stored as stored_long}
use Rattle.views.specs.Views.{range_of, display_of, name_words, element_view, view_of}
use Rattle.points_linkages.specs.Points.{point_of}
use Rattle.text_views.specs.TextViews.{origin_at, odd_at, text_at, field_at, text_in as text_read, characters_at, field_in, text_of, characters_of, field_of}
use Rattle.curve_views.specs.CurveViews.{float_at, origin_at as curve_origin, curve_at, curve_in, curve_of}
use Rattle.range_checks.specs.InRange.{in_range, in_range_in, in_range_of}
use Rattle.fields.specs.Faults.{fields_ok as handed_ok, points_fit, arguments_ok, point_number_ok, write_fault}
use Rattle.fields.specs.Words.{first_word, symbology, header_words, size_of, element_words}
use Rattle.text_fields.specs.Faults.{numbers_ok, flat_ok, lists_ok, odd_ok, text_arguments_ok, text_fault}
use Rattle.text_fields.specs.Words.{text_size, text_words}
use Rattle.write_answers.specs.Writing.{fields_given}
use Rattle.dgn_writer.specs.Writing.{given_fault as element_fault}
use Rattle.dgn_text_writer.specs.Writing.{text_given, given_fault as text_fault_given}
use Rattle.edits.specs.Bits.{flag_words, word_flags, flags_ok}
use Rattle.edits.specs.Edits.{extent_places, corrected, splice, cut, apply}
use Rattle.edits.specs.Allowed.{mark_fault, rename_fault, gap_ok, piece_fault, insert_fault, remove_fault, restore_fault, edit_fault}
use Rattle.edits.specs.Records.{record_of, record_words, last_record, reversal, reversible}
use Rattle.edits.specs.Calls.{session_ok, session_fault, open_fault, stored, edit_made, edit_within, edited, undo_made, undone, step}
use Rattle.blocks.specs.Blocks.{completing, padded, closed, block, blocks_for, stored as stored_as, used, chunk, rest, sound, fewest, most, good, blocks_in, first_bad, flat_of}
use Rattle.entries.specs.Entries.{entries, image, shown}
use Rattle.cells.specs.Cells.{cell_here, cells_of}
use Rattle.cells.specs.Index.{index_of, index_bytes}
use Rattle.indexing.specs.Indexing.{listed}
use Rattle.finder.specs.Finder.{has_name, is_hit, find_of}
use Rattle.lookup.specs.LookUp.{halved, look_up, look_up_of}
use Rattle.lookup.specs.Live.{live_cell, look_on, live_look_up_of}
use lib.Count.{ones_in}
use Rattle.listing.specs.Lines.{digits_from, decimal, refused_line}
use Rattle.listing.specs.Plates.{plate_line}
use Rattle.plates.specs.Plates.{live_direct, levels_at, plate_of}
use Rattle.plate_lines.specs.Plate.{line_with}
use Rattle.demands.specs.Listing.{listed as program_listed}
use Rattle.demands.specs.Starred.{all_hold, starred}

pub starred_hold : all_hold starred ≡ true
unfolding over put_word code_of letter_of word_from packed word_ok name_ok text_in text_answer unpacked linkage_words fill_from linkages_fill
    byte_at text_part each_field_ok fields_ok fixed_part may_stand attributes_ok linkages_ok reserved_ok place_ok fixed_ok text_fields_ok curve_floats_ok extent_ok stored_name_ok fault_of head_of count_ok stop_of
    list_from element_from element_of top_of call_ok judge_of spots_from spots_of spotted_at point_of turn_at origin_at odd_at text_at field_at text_read characters_at field_in text_of characters_of field_of flag_words word_flags flags_ok extent_places corrected splice cut apply mark_fault rename_fault
    gap_ok piece_fault insert_fault remove_fault restore_fault edit_fault record_of record_words last_record reversal reversible session_ok
    session_fault open_fault stored edit_made edit_within edited undo_made undone step completing padded closed block blocks_for stored_as used
    chunk rest sound fewest most good blocks_in first_bad flat_of
    entries image shown cell_here cells_of index_of index_bytes listed halved look_up look_up_of has_name is_hit find_of live_cell look_on live_look_up_of
    odd count_trailing_zeros to_bits size is_reserved digits eighth float d_float floats_ok float_at curve_origin curve_at curve_in curve_of
    coordinate stored_long range_of display_of name_words element_view view_of in_range in_range_in in_range_of
    handed_ok points_fit arguments_ok point_number_ok write_fault first_word symbology header_words size_of element_words
    numbers_ok flat_ok lists_ok odd_ok text_arguments_ok text_fault text_size text_words fields_given element_fault text_given text_fault_given
    ones_in digits_from decimal refused_line plate_line live_direct levels_at plate_of line_with program_listed
starred_hold = refl
