-- The promises, in the order of the demands, each with a one-line proof that cites where it is proved.
use Prim.Native.Nat.{ℕ, ◌+◌, ◌-◌, ◌/◌, ◌<◌, ◌≤◌}
use mathlib.Core.Path.{◌≡◌}
use mathlib.Core.Logic.{◌↔◌, ◌≢◌, ◌⊎◌}
use mathlib.Core.Bool.{true, false}
use mathlib.Core.List.{List, [], ◌∷◌, ◌++◌}
use mathlib.Core.Option.{Option, none, some}
use lib.ListN.{length, take, drop, replicate}
use lib.IntN.{ℤ}
use lib.Signed.{mag}
use lib.Ieee.{Float}
use Rattle.std.specs.Prelude.{Ok, Result}
use Rattle.refusals.specs.Refusals.{refused_with}
use Rattle.refusals.specs.declared.Refusal.{Refusal}
use Rattle.words.specs.Words.{words, word_at, long_at, signed, unsigned, put_word, put_long, Below}
use Rattle.words.proofs.Laws as stores
use Rattle.words.proofs.Signed as signs
use Rattle.ranges.specs.Ranges.{coordinate, stored}
use Rattle.ranges.proofs.Ranges as spans
use Rattle.names.specs.Names.{packed, unpacked, text_answer, text_of, name_ok}
use Rattle.names.proofs.Refusals as texts
use Rattle.names.proofs.OneToOne as names
use Rattle.names.specs.Name.{packed_to, no_text_with}
use Rattle.kinds.specs.FirstWord.{deleted_of}
use Rattle.kinds.specs.Kinds.{one_of}
use Rattle.limits.specs.Limits.{dim_ok, call_ok}
use Rattle.files.specs.Judge.{judge_of}
use Rattle.files.specs.Refused.{RefusedBy}
use Rattle.files.specs.Spots.{Spot, deepest, spots_of, spot_in}
use Rattle.files.specs.Accepted.{accepted_with}
use Rattle.grammar.specs.Grammar.{File}
use Rattle.grammar.specs.Reading.{Reading}
use Rattle.grammar.proofs.Exact as exact
use Rattle.grammar.specs.FirstFault.{FirstFault, Refusal as RefusalIn}
use Rattle.grammar.proofs.FirstFault as faults
use Rattle.places.specs.Extents.{extent_answer}
use Rattle.places.proofs.Refusals as places
use Rattle.views.specs.Views.{view_of}
use Rattle.views.specs.Starts.{Starts, Accepts}
use Rattle.views.specs.declared.Element.{Element}
use Rattle.views.proofs.Starts as starts
use Rattle.views.proofs.Refusals as seen
use Rattle.elements.specs.Attributes.{has_attributes}
use Rattle.points_linkages.specs.Points.{point_of}
use Rattle.points_linkages.specs.Linkages.{linkage_of}
use Rattle.points_linkages.specs.Listed.{ByNumber}
use Rattle.points_linkages.proofs.Refusals as points
use Rattle.points_linkages.proofs.Listed as numbered
use Rattle.range_checks.specs.InRange.{in_range_of}
use Rattle.range_checks.specs.Exactly.{RangeRefused, UnseenRefused, YesExactly, NoExactly, OtherExactly}
use Rattle.range_checks.proofs.Exactly as lying
use Rattle.finder.specs.Finder.{find_of}
use Rattle.finder.specs.Base as base
use Rattle.finder.specs.Meaning.{NoneNamed, Finds, Stored}
use Rattle.finder.specs.declared.Wanted.{Wanted}
use Rattle.finder.specs.declared.Wanted.TheVariants.{Live, WithDeleted}
use Rattle.finder.proofs.Base as as_before
use Rattle.finder.proofs.Named as named
use Rattle.lookup.specs.LookUp.{look_up_of}
use Rattle.lookup.specs.Live.{live_look_up_of}
use Rattle.lookup.specs.Finding.{IndexHolds, IndexOnly, LookUpFinds, LiveLookUpFinds, LooksBound, PassedCounted, LiveLooksBound}
use Rattle.lookup.proofs.Finding as indexed
use Rattle.lookup.proofs.Passing as passing
use Rattle.finder.proofs.Refusals as finds
use Rattle.finder.specs.Found.{found_with, missed_with}
use Rattle.walking.specs.Walk.{walk_start}
use Rattle.linkages.specs.Linkages.{Linkages, fill_from, linkages_fill, linkage_in}
use Rattle.linkages.specs.Listed.{FilledBy, kth}
use Rattle.linkages.proofs.Meaning as meaning
use Rattle.linkages.proofs.Listed as listed
use Rattle.listing.specs.Lines.{heading_line, end_line}
use Rattle.listing.specs.Texts.{text_heading}
use Rattle.listing.specs.Told.{TextOneLine, TextTold}
use Rattle.listing.proofs.Told as told
use Rattle.fields.specs.declared.Fields.{Fields}
use Rattle.writer.specs.Writing.{Writes, written_by}
use Rattle.writer.proofs.Refusals as writes
use Rattle.round_trips.specs.RoundTrip.{ReadsBack, Rewrites, EveryGiven}
use Rattle.round_trips.proofs.Given as given
use Rattle.round_trips.proofs.InFile as back
use Rattle.round_trips.proofs.Again as again
use Rattle.demands.specs.Listing.{listing_of, text_listing_of, plate_listing_of, walk_lines, walk_texts, walk_plates, walk_place}
use Rattle.demands.specs.Starred.{all_hold, starred}
use Rattle.demands.specs.ReadingCalls.{FileRefused, Found}
use Rattle.demands.specs.IndexPromises.{IndexAsBuilt, BuiltOpens, CellsOk, EntryOrder, EntriesApart}
use Rattle.demands.proofs.IndexPromises as beside
use Rattle.demands.proofs.ReadingCalls as reads
use Rattle.demands.proofs.Listing as listing
use Rattle.demands.proofs.Starred as worked
use Rattle.demands.specs.SessionCases.{full, put_large}
use Rattle.demands.proofs.Lengths as lengths
use Rattle.demands.proofs.Growth as growth
use Rattle.edits.specs.Calls.{Session, Call, rename_call, insert_call, undo_call, step}
use Rattle.edits.specs.Book.{was_refused}
use Rattle.edits.specs.Demand.{EveryRun}
use Rattle.edits.proofs.Refusals as refusals
use Rattle.edits.proofs.Numbers as calls
use Rattle.edits.specs.Start.{AcceptedOpens}
use Rattle.edits.specs.Refusals.{EveryRefusal, PiecePlace}
use Rattle.edits.specs.Causes.{EditRefused, InsertRefused, UndoRefused}
use Rattle.edits.specs.Made.{MadeExactly, EditsMade, MarkMade, RenameMade, InsertMade, RemoveMade}
use Rattle.edits.specs.Marks.{MarkMarks, MarkJudged, MarkUndone, FlagsBack}
use Rattle.edits.proofs.Start as start
use Rattle.edits.proofs.Causes as causes
use Rattle.edits.proofs.Allowed as allowed
use Rattle.edits.proofs.PlainEdits as plain
use Rattle.edits.proofs.Every as every
use Rattle.edits.proofs.Marks as marks
use Rattle.sessions.specs.Runs.{EveryCall}
use Rattle.sessions.proofs.Runs as runs
use Rattle.answers.specs.Answers.{Reply, with_room, Replied, Small, SmallReply, ReadAs}
use Rattle.answers.specs.Besides.{if_done}
use Rattle.answers.proofs.Laws as answers
use Rattle.view_numbers.specs.Numbers.{view_given}
use Rattle.view_numbers.proofs.Within as shown
use Rattle.order.specs.Parts.{Within}
use Rattle.dgn.specs.JudgeFind.{judge_reply, find_reply}
use Rattle.dgn.proofs.Small as dgn
use Rattle.indexing.specs.Indexing.{built_by}
use Rattle.dgn_index.specs.IndexNumbers.{cells_reply, index_reply, look_reply}
use Rattle.dgn_index.proofs.Small as dgn_index
use Rattle.dgn_places.specs.ExtentPoint.{extent_reply, point_reply}
use Rattle.dgn_places.proofs.Small as dgn_places
use Rattle.dgn_views.specs.Views.{view_reply}
use Rattle.dgn_views.proofs.Small as dgn_views
use Rattle.dgn_all_views.specs.Answers.{views_reply}
use Rattle.dgn_all_views.specs.Calls.{AllViews, ViewsWithin}
use Rattle.dgn_all_views.proofs.Small as small_views
use Rattle.dgn_all_views.proofs.All as whole
use Rattle.dgn_points.specs.Answers.{points_reply}
use Rattle.dgn_points.specs.Calls.{AllPoints, PointsWithin}
use Rattle.dgn_points.proofs.Small as small_points
use Rattle.dgn_points.proofs.All as every_point
use Rattle.dgn_ranges.specs.Check.{in_range_reply}
use Rattle.dgn_ranges.specs.Answers.{ranges_reply}
use Rattle.dgn_ranges.specs.Calls.{AllRanges, RangesWithin}
use Rattle.dgn_ranges.proofs.Small as small_ranges
use Rattle.dgn_ranges.proofs.All as every_range
use Rattle.dgn_texts.specs.Calls.{AllTexts}
use Rattle.dgn_texts.specs.Answers.{texts_reply}
use Rattle.dgn_texts.proofs.All as every_text
use Rattle.dgn_texts.proofs.Small as small_texts
use Rattle.text_fields.specs.declared.Text.{Text}
use Rattle.text_writer.specs.Writing.{WritesText}
use Rattle.text_writer.proofs.Refusals as writes_text
use Rattle.dgn_text.specs.TextReplies.{text_reply, characters_reply, field_reply}
use Rattle.dgn_text.proofs.Small as small_text
use Rattle.text_views.specs.TextViews.{text_of as text_read, characters_of, field_of}
use Rattle.text_views.specs.Fields.{FieldsWithin}
use Rattle.text_views.specs.Refusals.{TextRefused}
use Rattle.text_views.proofs.Fields as text_fields
use Rattle.text_views.proofs.Refusals as texts_refused
use Rattle.dfloats.specs.Promises.{FloatRounded, NearestOnly, TiesEven, FloatNearest, FloatStandard, FloatExact, FloatZero, FloatHeld, FloatOne}
use Rattle.dfloats.proofs.Meaning as floats
use Rattle.curve_views.specs.CurveViews.{curve_of}
use Rattle.curve_views.specs.Promises.{CurveRefused, CurveGiven, FloatsNumbers, CurveHeld}
use Rattle.curve_views.proofs.Promises as curve_calls
use Rattle.dgn_curve.specs.CurveReplies.{curve_reply, with_floats}
use Rattle.dgn_curve.proofs.Small as small_curve
use Rattle.dgn_curves.specs.Answers.{curves_reply}
use Rattle.dgn_curves.specs.Calls.{AllCurves}
use Rattle.dgn_curves.proofs.All as every_curve
use Rattle.dgn_curves.proofs.Small as small_curves
use Rattle.promises.specs.Components.{ComponentsAre}
use Rattle.promises.specs.Marked.{MarkElements}
use Rattle.promises.proofs.Promises as library
use Rattle.plates.specs.Plates.{plate_of}
use Rattle.plates.specs.Promises.{PlateRefused, PlateGiven, CountsAddUp, CountedOnce, LevelsMost, PlateWithin, MarkLowers, PlateLocal}
use Rattle.plates.proofs.Promises as plates
use Rattle.dgn_plates.specs.Answers.{plate_reply, plates_reply}
use Rattle.dgn_plates.specs.Calls.{AllPlates}
use Rattle.dgn_plates.proofs.All as every_plate
use Rattle.dgn_plates.proofs.Small as small_plates
use Rattle.text_parts.specs.Own.{CharactersOwn, TextsApart}
use Rattle.text_parts.proofs.Own as own_characters
use Rattle.dgn_linkages.specs.LinkageNumbers.{linkage_reply}
use Rattle.dgn_linkages.proofs.Small as dgn_linkages
use Rattle.dgn_names.specs.PackUnpack.{pack_reply, unpack_reply}
use Rattle.dgn_names.proofs.Small as dgn_names
use Rattle.blocks.specs.Calls.{to_blocks, from_blocks}
use Rattle.blocks.specs.Promises.{ToRefused, FromRefused, AcceptedExactly, StoredWithRoom, GivenWithRoom, JournalBack, BlocksBack, StoredExactly}
use Rattle.blocks.specs.Promises.{JournalMovedBack, BlocksMovedBack, WordChanged, WordOfBlockChanged, CutInside, BehindPartFull, PartFullMoved}
use Rattle.blocks.specs.Promises.{AboveLimit, JoinedTooLong, CutBetween, FullBlocks, Swapped}
use Rattle.blocks.proofs.Refusals as blocks_refused
use Rattle.blocks.proofs.Journal as kept_blocks
use Rattle.blocks.proofs.Back as there
use Rattle.blocks.proofs.Changed as changed
use Rattle.blocks.proofs.Damage as damage
use Rattle.blocks.proofs.Joined as joined
use Rattle.blocks.proofs.Limit as limit
use Rattle.dgn_blocks.specs.Moves.{moved_reply}
use Rattle.dgn_blocks.proofs.Small as small_blocks
use Rattle.write_answers.specs.Writing.{write_reply}
use Rattle.dgn_writer.specs.Writing.{given_fault}
use Rattle.dgn_writer.proofs.Small as dgn_writer
use Rattle.dgn_text_writer.specs.Writing.{given_fault as given_text_fault}
use Rattle.dgn_text_writer.proofs.Small as dgn_text_writer
use Rattle.edit_answers.proofs.Places as fits
use Rattle.dgn_record.specs.LastRecord.{EndsThere, record_reply, RecordWithin}
use Rattle.dgn_record.proofs.Small as small_record
use Rattle.dgn_record.proofs.Ends as ends
use Rattle.dgn_sessions.specs.Exports.{EveryExport, KeptInOut, EveryInSlice}
use Rattle.dgn_sessions.specs.History.{EditShown, UndoShown, EveryHistory}
use Rattle.dgn_sessions.proofs.WholeHistory as walked_back
use Rattle.dgn_sessions.proofs.Exports as exported
use Rattle.dgn_sessions.proofs.History as history

---- demand 1: each public function's contract is its own statement, beside the function

-- of a session, a refused call leaves every byte and length
pub refusal_keeps : (dim : ℕ) (s : Session) (c : Call) → was_refused (step dim s c).answer ≡ true → (step dim s c).after ≡ s
refusal_keeps = refusals.refusal_keeps

-- and its number is one from 1 to 21
pub call_number : (dim : ℕ) (s : Session) (c : Call) (n p : ℕ) → (step dim s c).answer ≡ refused_with n p → (1 ≤ n) × (n ≤ 21)
call_number = calls.call_number

-- and its place is at most 524,288, so the one number that the C interface returns gives both back
pub call_small : (dim : ℕ) (s : Session) (c : Call) (n p : ℕ) → (step dim s c).answer ≡ refused_with n p → Small n p
call_small = fits.edit_small

-- a refused call of a session answers as judging the used file does, or one of the call's own numbers at place 0; an insert also
-- its piece's own at the place within the piece, or 8 at a header from the top down to the named one
pub call_refused : EveryRefusal
call_refused = calls.every_refusal

-- a rename by a text that is no name is refused
pub bad_text : (dim : ℕ) (s : Session) (p : ℕ) (t : List ℕ) (n q : ℕ) → packed t ≡ refused_with n q →
    was_refused (step dim s (rename_call p t)).answer ≡ true
bad_text = reads.bad_text

-- the piece's own refusal is a number from 3 to 12, 20 or 21, at a word of the piece; of an empty piece at 0
pub piece_place : PiecePlace
piece_place = calls.piece_place

-- of the causes of an edit, of an insert's own and of an undo, each in its order, the first is the one answered
pub edit_refused : EditRefused
edit_refused = causes.edit_refused

pub insert_refused : InsertRefused
insert_refused = causes.insert_refused

pub undo_refused : UndoRefused
undo_refused = causes.undo_refused

---- demand 1: the number and the place of each refusal; those of judging are with demand 2

-- a refused call on a file answers as judging does of the file, or a number of its own, at place 0: an extent, a view, a
-- point and a linkage with 13
pub extent_refused : (dim : ℕ) (s : List ℕ) (at n p : ℕ) → extent_answer dim s at ≡ refused_with n p → RefusedBy dim s (13 ∷ []) n p
extent_refused = places.extent_refused

pub view_refused : (dim : ℕ) (s : List ℕ) (at n p : ℕ) → view_of dim s at ≡ refused_with n p → RefusedBy dim s (13 ∷ []) n p
view_refused = seen.view_refused

pub point_refused : (dim : ℕ) (s : List ℕ) (at k n p : ℕ) → point_of dim s at k ≡ refused_with n p → RefusedBy dim s (13 ∷ []) n p
point_refused = points.point_refused

-- the calls for a text, also with 6 at an element that is none; where a field's number is above those there are, 13
pub text_refused : (dim : ℕ) (s : List ℕ) (at n p : ℕ) → text_read dim s at ≡ refused_with n p → TextRefused dim s at n p
text_refused = texts_refused.text_refused

pub characters_refused : (dim : ℕ) (s : List ℕ) (at n p : ℕ) → characters_of dim s at ≡ refused_with n p → TextRefused dim s at n p
characters_refused = texts_refused.characters_refused

pub field_refused : (dim : ℕ) (s : List ℕ) (at n p k : ℕ) → field_of dim s at k ≡ refused_with n p → TextRefused dim s at n p
field_refused = texts_refused.field_refused

-- the call for an ellipse or an arc, also with 6 at an element that is neither
pub curve_refused : CurveRefused
curve_refused = curve_calls.curve_refused

-- the call for the plate of a cell, also with 18 at 0 for an element that is no cell
pub plate_refused : PlateRefused
plate_refused = plates.plate_refused

pub linkage_refused : (dim : ℕ) (s : List ℕ) (at k n p : ℕ) → linkage_of dim s at k ≡ refused_with n p → RefusedBy dim s (13 ∷ []) n p
linkage_refused = points.linkage_refused

-- the check of a range, with 13, and with 6 at an element of another type
pub in_range_refused : RangeRefused
in_range_refused = lying.in_range_refused

-- and where no element is seen at the place, just as the view is refused
pub unseen_refused : UnseenRefused
unseen_refused = lying.unseen_refused

-- the finder with 12 or 13, be deleted cells passed over or not
pub find_refused : (w : Wanted) (dim : ℕ) (s t : List ℕ) (n p c : ℕ) → find_of w dim s t ≡ missed_with n p c → RefusedBy dim s (12 ∷ 13 ∷ []) n p
find_refused = finds.find_refused

-- and where judging refuses the file, every one of them answers that number and place
pub file_refused : (dim : ℕ) (s : List ℕ) (n p : ℕ) → judge_of dim s ≡ refused_with n p → FileRefused dim s n p
file_refused = reads.file_refused

-- a text and a word pair with 12 at 0, the pair with six zeros
pub pack_refused : (t : List ℕ) (n p : ℕ) → packed t ≡ refused_with n p → (n ≡ 12) × (p ≡ 0)
pack_refused = texts.pack_refused

pub unpack_refused : (a b n p : ℕ) (letters : List ℕ) → unpacked a b ≡ no_text_with n p letters → (n ≡ 12) × (p ≡ 0) × (letters ≡ replicate 6 0)
unpack_refused = texts.unpack_refused

-- the writer with 1, 7, 8, 11 or 15 at 0, and its buffer stays as it was
pub write_refused : (dim : ℕ) (f : Fields) (points : List ℤ) (tail out : List ℕ) (r : Result ℕ Refusal) (last : List ℕ) (n p : ℕ) →
    Writes dim f points tail out r last → r ≡ refused_with n p → (one_of (1 ∷ 7 ∷ 8 ∷ 11 ∷ 15 ∷ []) n ≡ true) × (p ≡ 0) × (last ≡ out)
write_refused = writes.write_refused

-- and the writer of texts
pub write_text_refused : (dim : ℕ) (f : Fields) (t : Text) (characters triples tail out : List ℕ) (r : Result ℕ Refusal) (last : List ℕ) (n p : ℕ) →
    WritesText dim f t characters triples tail out r last → r ≡ refused_with n p → (one_of (1 ∷ 20 ∷ 8 ∷ 11 ∷ 15 ∷ []) n ≡ true) × (p ≡ 0) × (last ≡ out)
write_text_refused = writes_text.write_text_refused

-- a journal to blocks with 1 or 15 at 0; blocks to a journal also with 22 at one of the blocks; and the buffer stays as it was
pub to_blocks_refused : ToRefused
to_blocks_refused = blocks_refused.to_refused

pub from_blocks_refused : FromRefused
from_blocks_refused = blocks_refused.from_refused

---- demand 1: the functions for C

-- of the functions for C, whose contracts are `Replied`: a refusal changes no number of the lent slice
pub refusal_leaves : {A : Type 0} (needed : ℕ) (q : Reply A) (s t : List A) (n : ℕ) → Replied needed q s n t → n ≢ 0 → t ≡ s
refusal_leaves = answers.refusal_leaves

-- nor of a slice that is lent beside it, as numbers, floats or entries are
pub refusal_leaves_beside : {A S : Type 0} (needed : ℕ) (q : Reply A) (s t : List A) (n : ℕ) (made was : S) → Replied needed q s n t → n ≢ 0 →
    if_done (with_room needed q s) made was ≡ was
refusal_leaves_beside = answers.refusal_leaves_beside

-- and a caller reads each answer as it is meant: 0 and the numbers, or a number that is taken apart into the refusal's number and
-- its detail, where every refusal is small
pub read_as : {A : Type 0} (needed : ℕ) (q : Reply A) (s t : List A) (n : ℕ) → SmallReply q → Replied needed q s n t → ReadAs (with_room needed q s) s n t
read_as = answers.read_as

-- as each is: its number is one from 1 to 22, its detail, a place or a count, at most 524,288
pub judge_small : (dim : ℕ) (s : List ℕ) → SmallReply (judge_reply (judge_of dim s))
judge_small = dgn.judge_small

pub find_small : (w : Wanted) (dim : ℕ) (s t : List ℕ) → SmallReply (find_reply (find_of w dim s t))
find_small = dgn.find_small

pub index_small : (dim : ℕ) (s : List ℕ) (used size : ℕ) → SmallReply (index_reply (built_by (judge_of dim s) used size))
index_small = dgn_index.index_small

pub look_up_small : (dim : ℕ) (s index : List ℕ) (used : ℕ) (t : List ℕ) → SmallReply (look_reply (live_look_up_of dim s index used t))
look_up_small = dgn_index.live_look_small

pub look_up_with_deleted_small : (s : List ℕ) (used : ℕ) (t : List ℕ) → SmallReply (look_reply (look_up_of s used t))
look_up_with_deleted_small = dgn_index.look_small

pub extent_small : (dim : ℕ) (s : List ℕ) (at : ℕ) → SmallReply (extent_reply (extent_answer dim s at))
extent_small = dgn_places.extent_small

pub point_small : (dim : ℕ) (s : List ℕ) (at k : ℕ) → SmallReply (point_reply (point_of dim s at k))
point_small = dgn_places.point_small

pub view_small : (dim : ℕ) (s : List ℕ) (at : ℕ) → SmallReply (view_reply at (view_of dim s at))
view_small = dgn_views.view_small

pub in_range_small : (dim : ℕ) (s : List ℕ) (at : ℕ) → SmallReply (in_range_reply (in_range_of dim s at))
in_range_small = small_ranges.in_range_small

pub linkage_small : (dim : ℕ) (s : List ℕ) (at k : ℕ) → SmallReply (linkage_reply (linkage_of dim s at k))
linkage_small = dgn_linkages.linkage_small

pub pack_small : (t : List ℕ) → SmallReply (pack_reply (packed t))
pack_small = dgn_names.pack_small

pub unpack_small : (a b : ℕ) → SmallReply (unpack_reply (unpacked a b))
unpack_small = dgn_names.unpack_small

pub write_small : (dim : ℕ) (f points : List ℤ) (tail : List ℕ) (room size : ℕ) → SmallReply (write_reply (written_by (given_fault dim f points tail room) size))
write_small = dgn_writer.write_small

pub write_text_small : (dim : ℕ) (f l : List ℤ) (characters triples tail : List ℕ) (room size : ℕ) →
    SmallReply (write_reply (written_by (given_text_fault dim f l characters triples tail room) size))
write_text_small = dgn_text_writer.write_text_small

pub views_small : (dim : ℕ) (s : List ℕ) (k room : ℕ) → SmallReply (views_reply dim s k room)
views_small = small_views.views_small

pub text_small : (dim : ℕ) (s : List ℕ) (at : ℕ) → SmallReply (text_reply dim at (text_read dim s at))
text_small = small_text.text_reply_small

pub characters_small : (dim : ℕ) (s : List ℕ) (at : ℕ) → SmallReply (characters_reply (characters_of dim s at))
characters_small = small_text.characters_reply_small

pub field_small : (dim : ℕ) (s : List ℕ) (at k : ℕ) → SmallReply (field_reply (field_of dim s at k))
field_small = small_text.field_reply_small

pub points_small : (dim : ℕ) (s : List ℕ) (k room : ℕ) → SmallReply (points_reply dim s k room)
points_small = small_points.points_small

pub texts_small : (dim : ℕ) (s : List ℕ) (k room : ℕ) → SmallReply (texts_reply dim s k room)
texts_small = small_texts.texts_small

pub curve_small : (dim : ℕ) (s : List ℕ) (at : ℕ) (floats : List Float) → SmallReply (with_floats (curve_reply (curve_of dim s at)) floats)
curve_small = small_curve.curve_reply_small

pub curves_small : (dim : ℕ) (s : List ℕ) (k room : ℕ) → SmallReply (curves_reply dim s k room)
curves_small = small_curves.curves_small

pub ranges_small : (dim : ℕ) (s : List ℕ) (k room : ℕ) → SmallReply (ranges_reply dim s k room)
ranges_small = small_ranges.ranges_small

pub plate_small : (dim : ℕ) (s : List ℕ) (at : ℕ) → SmallReply (plate_reply (plate_of dim s at))
plate_small = small_plates.plate_small

pub plates_small : (dim : ℕ) (s : List ℕ) (k room : ℕ) → SmallReply (plates_reply dim s k room)
plates_small = small_plates.plates_small

pub record_small : (journal : List ℕ) (used : ℕ) → SmallReply (record_reply journal used)
record_small = small_record.record_small

pub to_blocks_small : (j : List ℕ) (room : ℕ) → SmallReply (moved_reply (to_blocks j room))
to_blocks_small = small_blocks.to_small

pub from_blocks_small : (s : List ℕ) (room : ℕ) → SmallReply (moved_reply (from_blocks s room))
from_blocks_small = small_blocks.from_small

-- the cells of a file, building an index, and the look-up in one of any length in memory
pub cells_small : (dim : ℕ) (s : List ℕ) (count : ℕ) → SmallReply (cells_reply (judge_of dim s) count)
cells_small = dgn_index.cells_small

-- the numbers that dgn_views, dgn_points, dgn_ranges and dgn_record put into their slices
pub views_within : ViewsWithin
views_within = small_views.views_within

pub points_within : PointsWithin
points_within = small_points.points_within

pub ranges_within : RangesWithin
ranges_within = small_ranges.ranges_within

pub record_within : RecordWithin
record_within = small_record.record_within

-- reading all views: calls from element 0 on, each from where the last one stopped, with any slices and any answers and numbers that
-- the contract of dgn_views allows, give the views of the elements up to there, once each, in file order; and of all elements where as
-- many of the calls as there are elements have slices that hold a view and the answer
pub all_views : AllViews
all_views = whole.all_views

-- the same of all points by dgn_points: of each element that has any its place, how many, and the coordinates that the calls for point
-- 0, 1, .. give; 305 numbers hold any element
pub all_points : AllPoints
all_points = every_point.all_points

-- and of all texts by dgn_texts: of each its place, whether it is deleted, its depth, and the numbers that the call for it gives
pub all_texts : AllTexts
all_texts = every_text.all_texts

-- and of all ellipses and arcs by dgn_curves: of each its place, whether it is deleted, and the numbers and floats that the call for it
-- gives
pub all_curves : AllCurves
all_curves = every_curve.all_curves

-- and by dgn_ranges the place of each element of which the check answers no
pub all_ranges : AllRanges
all_ranges = every_range.all_ranges

-- and of the plates of all cells by dgn_plates: of each its place, whether it is deleted, and the numbers that the call for it gives
pub all_plates : AllPlates
all_plates = every_plate.all_plates

-- every number of a view is from -2,147,483,648 to 2,147,483,647
pub view_within : (dim : ℕ) (s : List ℕ) (at : ℕ) (e : Element) → Below 256 s → view_of dim s at ≡ Ok e → Within 2147483648 (view_given at e)
view_within = shown.view_within

---- demand 2: accepted exactly when the structure holds, with one reading

-- a file is accepted, with these numbers, exactly where it is of the grammar and they are its elements' and marker's; the
-- grammar states the rules of an element in its own words, and elements-are says that its elements are those of the list
pub accepted_exactly : (dim : ℕ) (s : List ℕ) (e d k : ℕ) → (judge_of dim s ≡ accepted_with e d k) ↔ Reading dim s e d k
accepted_exactly = exact.accepted_exactly

-- every file of the grammar, of an allowed length and dimension, is accepted
pub every_file : (dim : ℕ) (s : List ℕ) (xs : List Spot) (k : ℕ) → call_ok dim s ≡ true → File dim (words s) xs k → judge_of dim s ≡ accepted_with (length xs) (deepest xs) k
every_file = exact.is_accepted

-- a refused file of an allowed length and dimension is no file of the grammar
pub refused_is_none : (dim : ℕ) (s : List ℕ) (n p : ℕ) → judge_of dim s ≡ refused_with n p → call_ok dim s ≡ true → (xs : List Spot) (k : ℕ) → File dim (words s) xs k → ⊥
refused_is_none = exact.refused_is_none

-- the first fault decides: a file of an allowed length and dimension is refused, with this number and place, exactly where they are its first fault's
pub refused_exactly : (dim : ℕ) (s : List ℕ) (n p : ℕ) → call_ok dim s ≡ true → (judge_of dim s ≡ refused_with n p) ↔ FirstFault dim (words s) n p
refused_exactly = faults.refused_exactly

-- words have one first fault at most
pub one_fault : (dim : ℕ) (ws : List ℕ) (n p m q : ℕ) → FirstFault dim ws n p → FirstFault dim ws m q → (n ≡ m) × (p ≡ q)
one_fault = faults.one_fault

-- a file of another length or dimension, and no other, is refused with 1 at 0
pub refused_call : (dim : ℕ) (s : List ℕ) → (judge_of dim s ≡ refused_with 1 0) ↔ (call_ok dim s ≡ false)
refused_call = faults.refused_call

-- a refusal is 1 at 0, 2 at the file's end, or a number from 3 to 12, 20 or 21 at a word of the file
pub refusal_place : (dim : ℕ) (s : List ℕ) (n p : ℕ) → judge_of dim s ≡ refused_with n p → RefusalIn (length (words s)) n p
refusal_place = faults.refusal_place

-- the elements of a file of the grammar are the one list spotsOf, over which the calls are stated
pub elements_are : (dim : ℕ) (ws : List ℕ) (xs : List Spot) (k : ℕ) → File dim ws xs k → xs ≡ spots_of dim ws
elements_are = exact.elements_are

-- words have one reading at most: the same elements with the same extents, depths and headers, and the same marker
pub one_reading : (dim : ℕ) (ws : List ℕ) (xs ys : List Spot) (k j : ℕ) → File dim ws xs k → File dim ws ys j → (xs ≡ ys) × (k ≡ j)
one_reading = exact.one_reading

-- words after the marker do not matter
pub after_marker : (dim : ℕ) (s t : List ℕ) (e d k : ℕ) → judge_of dim s ≡ accepted_with e d k → call_ok dim t ≡ true →
    take (k + 1) (words t) ≡ take (k + 1) (words s) → judge_of dim t ≡ accepted_with e d k
after_marker = exact.judged_after_marker

-- the count that judging reports is the length of the list of elements in file order
pub count_is_length : (dim : ℕ) (s : List ℕ) (e d k : ℕ) → judge_of dim s ≡ accepted_with e d k → e ≡ length (spots_of dim (words s))
count_is_length = exact.count_is_length

-- the lines along the walk, between the heading and the end, are the listing of celllist, and the walk is then at the marker
pub listing_is : (s : List ℕ) (e d m : ℕ) → length s ≤ 65536 → judge_of 2 s ≡ accepted_with e d m →
    (heading_line ++ (walk_lines e (words s) walk_start ++ end_line m) ≡ listing_of s) × (walk_place e (words s) walk_start ≡ m)
listing_is = listing.listing_is

-- the lines of texts along the same walk are the listing of textlist: a line for each text of the file, in file order
pub text_listing_is : (s : List ℕ) (e d m : ℕ) → length s ≤ 65536 → judge_of 2 s ≡ accepted_with e d m →
    text_heading ++ (walk_texts e s walk_start ++ end_line m) ≡ text_listing_of s
text_listing_is = listing.text_listing_is

-- the lines along the same walk of what is found by extents alone are the listing of platelist: the plate of each live cell of the file,
-- in file order, as the call for it gives it
pub plate_listing_is : (s : List ℕ) (e d m : ℕ) → length s ≤ 65536 → judge_of 2 s ≡ accepted_with e d m → walk_plates e (words s) walk_start ≡ plate_listing_of s
plate_listing_is = listing.plate_listing_is

-- whatever the characters are, a text's line is bytes that print, and a line feed
pub text_one_line : TextOneLine
text_one_line = told.text_one_line

-- and it tells the text: two texts with the same line have the same place, depth, state and characters
pub text_told : TextTold
text_told = told.text_told

-- the test that linkages fill an attribute part is their meaning
pub linkages_are : (n : ℕ) (ws : List ℕ) (at end : ℕ) → at ≤ end → end ≤ length ws → fill_from n ws at end ≡ true →
    Linkages (take (end - at) (drop at ws))
linkages_are = meaning.fills_is

pub are_linkages : {xs : List ℕ} → Linkages xs → (pre post : List ℕ) → linkages_fill (pre ++ (xs ++ post)) (length pre) (length pre + length xs) ≡ true
are_linkages = meaning.is_fills

-- linkage k of those that fill a part is the k-th of them: its kind, its place behind those before it, its size and its id;
-- and there is none for any other k
pub linkage_is : (xs : List (List ℕ)) (ws : List ℕ) (at end : ℕ) → FilledBy xs ws at end → (k : ℕ) → linkage_in ws at end k ≡ kth xs at k
linkage_is = listed.linkage_is

-- the linkages of an accepted element with attributes fill its attribute part, and the call for linkage k gives the k-th of them, 13
-- at 0 for any other k
pub linkage_by_number : (dim : ℕ) (s : List ℕ) (place e d m : ℕ) (x : Spot) → judge_of dim s ≡ accepted_with e d m → spot_in (spots_of dim (words s)) place ≡ some x →
    has_attributes (words s) place ≡ true → ByNumber dim s place
linkage_by_number = numbered.by_number

-- a view accepts each place in the list of elements, and no other place
pub view_accepts : (dim : ℕ) (s : List ℕ) (p e d m : ℕ) → judge_of dim s ≡ accepted_with e d m →
    (Starts (spots_of dim (words s)) p → Accepts (view_of dim s p)) × (Accepts (view_of dim s p) → Starts (spots_of dim (words s)) p)
view_accepts = starts.view_accepts

-- of the element in the list that starts at a place, an extent ends where it does, and a view shows its depth and its header
pub found_is : (dim : ℕ) (s : List ℕ) (at e d m : ℕ) (x : Spot) → judge_of dim s ≡ accepted_with e d m → spot_in (spots_of dim (words s)) at ≡ some x →
    Found dim s at x
found_is = reads.found_is

-- of an accepted file, a view and an extent are refused, with 13 at 0, exactly where no element starts
pub view_none : (dim : ℕ) (s : List ℕ) (at e d m : ℕ) → judge_of dim s ≡ accepted_with e d m →
    (view_of dim s at ≡ refused_with 13 0) ↔ (Starts (spots_of dim (words s)) at → ⊥)
view_none = seen.view_none

pub extent_none : (dim : ℕ) (s : List ℕ) (at e d m : ℕ) → judge_of dim s ≡ accepted_with e d m →
    (extent_answer dim s at ≡ refused_with 13 0) ↔ (Starts (spots_of dim (words s)) at → ⊥)
extent_none = seen.extent_none

---- demand 2: the finder, where deleted cells are passed over (Live) and where they are not (WithDeleted)

-- it finds the first in file order that has the name and is wanted; its count is that element's ordinal plus one, passed ones among
-- them, and 13 carries the count of all elements
pub finder_count : (w : Wanted) (dim : ℕ) (s t : List ℕ) (e d m a b : ℕ) → judge_of dim s ≡ accepted_with e d m → packed t ≡ packed_to a b →
    Finds w (words s) a b (spots_of dim (words s)) (find_of w dim s t)
finder_count = named.finder_count

-- 13 exactly where no element has the name and is wanted
pub no_such_exactly : (w : Wanted) (dim : ℕ) (s t : List ℕ) (e d m a b : ℕ) → judge_of dim s ≡ accepted_with e d m → packed t ≡ packed_to a b →
    (find_of w dim s t ≡ missed_with 13 0 (length (spots_of dim (words s)))) ↔ NoneNamed w (words s) a b (spots_of dim (words s))
no_such_exactly = named.no_such_exactly

-- where deleted cells are passed over, the cell that is found is live
pub found_live : (dim : ℕ) (s t : List ℕ) (place looked : ℕ) → find_of Live dim s t ≡ found_with place looked → deleted_of (word_at (words s) place) ≡ 0
found_live = named.found_live

-- asked for them too, it answers of every input as it did before any were passed over
pub asked_as_base : (dim : ℕ) (s t : List ℕ) → find_of WithDeleted dim s t ≡ base.find_of dim s t
asked_as_base = as_before.asked_as_base

-- the stored name of the cell that is found unpacks to the text, so 00417 never finds 417
pub never_another : (w : Wanted) (dim : ℕ) (s t : List ℕ) (place looked : ℕ) → find_of w dim s t ≡ found_with place looked →
    Stored (words s) place (λ x y. unpacked x y ≡ Ok (text_answer t))
never_another = named.never_another

-- two texts that find the same place, each in either way, are the same text
pub one_text : (w v : Wanted) (dim : ℕ) (s t u : List ℕ) (place n k : ℕ) → find_of w dim s t ≡ found_with place n → find_of v dim s u ≡ found_with place k → t ≡ u
one_text = named.one_text

---- demand 2: an index of a file's cells, and the look-up in it

-- it has the entry of each cell, as often as there is such a cell, and no other, in order; and it is the only such list
pub index_holds : IndexHolds
index_holds = indexed.index_holds

pub index_only : IndexOnly
index_only = indexed.index_only

-- the order of entries as numbers is that by the first word, then the second, then the place, of cells whose words are words and whose
-- places are longs, as those of an accepted file are; and cells with one entry are one cell
pub entry_order : EntryOrder
entry_order = beside.entry_order

pub cells_ok : CellsOk
cells_ok = beside.cells_ok

pub entries_apart : EntriesApart
entries_apart = beside.entries_apart

-- over the index of a file the look-up with the file finds the live cell that the finder finds, or refuses as it does; the look-up that
-- is lent no file the one that the finder finds with deleted cells
pub live_look_up_finds : LiveLookUpFinds
live_look_up_finds = indexed.live_look_up_file

pub look_up_finds : LookUpFinds
look_up_finds = indexed.look_up_file

-- over any bytes the look-up without a file looks at most once more than the number of entries has binary digits
pub looks_bound : LooksBound
looks_bound = indexed.looks_any

-- the other passes over the entries of the name whose places start no live cell, a look for each more than the first; so its looks
-- are bounded by those and the entries of the name
pub passed_counted : PassedCounted
passed_counted = passing.passed_counted

pub live_looks_bound : LiveLooksBound
live_looks_bound = passing.live_looks_any

---- demand 2: the characters of a text and its fields

-- the characters handed back are the bytes of the file from byte 60 of the text on, 76 in 3D, as many as it counts, within its own
-- words, which no other element has a word of
pub characters_own : CharactersOwn
characters_own = own_characters.characters_own

-- so the characters of two texts have no byte in common
pub texts_apart : TextsApart
texts_apart = own_characters.texts_apart

-- a field that is given lies in the characters, with a justification of -1, 0 or 1
pub fields_within : FieldsWithin
fields_within = text_fields.fields_within

---- demand 2: ellipses and arcs, and their floats

-- each float of a file of the grammar is a number: a file with one that is refused is none
pub floats_numbers : FloatsNumbers
floats_numbers = curve_calls.floats_numbers

-- of an accepted file the call for an ellipse or an arc gives each of them, by its layout
pub curve_given : CurveGiven
curve_given = curve_calls.curve_given

-- over whole numbers: the float that four words are read as is m / 8 to the nearest, ties to even, of the words' sign and scaled by their E
pub float_rounded : FloatRounded
float_rounded = floats.float_rounded

-- there is one nearest number
pub nearest_only : NearestOnly
nearest_only = floats.nearest_only

-- and where another is as near, it is even
pub ties_even : TiesEven
ties_even = floats.ties_even

-- of all finite 64-bit floats none is nearer to the exact number
pub float_nearest : FloatNearest
float_nearest = floats.float_nearest

-- it is what IEEE 754 rounds the exact number to
pub float_standard : FloatStandard
float_standard = floats.float_standard

-- it is exact where the low three bits of the fraction are zero
pub float_exact : FloatExact
float_exact = floats.float_exact

-- with E = 0 it is +0
pub float_zero : FloatZero
float_zero = floats.float_zero

-- it is never a NaN and never an infinity
pub float_held : FloatHeld
float_held = floats.float_held

-- so is each float that the call for an ellipse or an arc gives, whatever the bytes
pub curve_held : CurveHeld
curve_held = curve_calls.curve_held

-- 16512, 0, 0, 0 is 1
pub float_one : FloatOne
float_one = floats.float_one

---- demand 2: whether all points of an element of type 3, 4, 6 or 11 lie in its range

-- yes exactly where each point that the call for a point gives lies in the range that the view shows, ends included; no exactly where
-- some point does not
pub yes_exactly : YesExactly
yes_exactly = lying.yes_exactly

pub no_exactly : NoExactly
no_exactly = lying.no_exactly

-- 6 at the element exactly where its type is another
pub other_exactly : OtherExactly
other_exactly = lying.other_exactly

---- demand 2: the plates of cells

-- the direct components of an element stand one behind another, each with its extent, from the end of its own words to the end of its
-- extent, which holds its fixed part
pub components_are : ComponentsAre
components_are = library.components_are

-- of an accepted file the call gives the plate of each cell, deleted or not, and 18 at 0 of any other element; going over extents alone
-- gives the same
pub plate_given : PlateGiven
plate_given = plates.plate_given

-- the six counts add up to the number of live direct components
pub counts_add_up : CountsAddUp
counts_add_up = plates.counts_add_up

-- each live direct component is counted in exactly one kind
pub counted_once : CountedOnce
counted_once = plates.counted_once

-- levels are at most 64, and every number of a plate is below 65,536
pub levels_most : LevelsMost
levels_most = plates.levels_most

pub plate_within : PlateWithin
plate_within = plates.plate_within

-- a plate depends on nothing outside its cell's extent: cells whose extents have the same bytes have the same plate, in whatever files and at
-- whatever places
pub plate_local : PlateLocal
plate_local = plates.plate_local

-- marking a component deleted, which leaves every element where it is, lowers exactly one count of its cell by one
pub mark_elements : MarkElements
mark_elements = library.mark_elements

pub mark_lowers : MarkLowers
mark_lowers = plates.mark_lowers

---- demand 2: what is written reads back the same, and what was accepted rewrites to the same bytes

-- what the writer leaves in its buffer, put into an accepted file as its C and its type allow, makes an accepted file, and
-- view, points or text with its characters and fields, linkages and the extent's bytes give back what was handed in
pub reads_back : ReadsBack
reads_back = back.reads_back

-- writing what view, points or text with its characters and fields, and the extent's bytes give of an accepted element of type 3, 4, 6,
-- 11 or 17 makes the same bytes
pub rewrites : Rewrites
rewrites = again.rewrites

-- and each element of such a type in an accepted file of bytes gives them
pub every_given : EveryGiven
every_given = given.every_given

---- demand 2 and demand 3: the worked cases that RULES.md marks with *, its table of fixed parts, and cases of its rules, of
---- its orders of checks, of sessions and of stored journals, as one list

pub starred_hold : all_hold starred ≡ true
starred_hold = worked.starred_hold

-- a case of 8, at the outermost header that would grow too large, before the buffer's room counts
pub growth_first : (rest : List ℕ) → length rest ≡ 130880 → (step 2 full (put_large rest)).answer ≡ refused_with 8 2
growth_first = growth.growth_first

-- 1,048,576 bytes may be lent: a file of that length with the marker first is accepted, and a session whose two buffers have it
-- opens, its undo finding nothing
pub longest_judged : (dim : ℕ) (rest : List ℕ) → dim_ok dim ≡ true → length rest ≡ 1048574 → judge_of dim (255 ∷ 255 ∷ rest) ≡ accepted_with 0 0 0
longest_judged = lengths.longest_judged

pub longest_edited : (dim : ℕ) (rest journal : List ℕ) → dim_ok dim ≡ true → length rest ≡ 1048574 → length journal ≡ 1048576 →
    (step dim (record { file = 255 ∷ 255 ∷ rest; used = 2; journal = journal; jused = 0; index = none }) undo_call).answer ≡ refused_with 17 0
longest_edited = lengths.longest_edited

-- more is refused with 1: a file, a buffer of a session in every call, the piece of an insert
pub longer_judged : (dim : ℕ) (s : List ℕ) → 1048576 < length s → judge_of dim s ≡ refused_with 1 0
longer_judged = lengths.longer_judged

pub longer_edited : (dim : ℕ) (s : Session) (c : Call) → (1048576 < length s.file) ⊎ (1048576 < length s.journal) → (step dim s c).answer ≡ refused_with 1 0
longer_edited = lengths.longer_edited

pub longer_piece : (dim : ℕ) (s : Session) (h : Option ℕ) (p : ℕ) (piece : List ℕ) → 1048576 < length piece →
    (step dim s (insert_call h p piece)).answer ≡ refused_with 1 0
longer_piece = lengths.longer_piece

-- a journal of 1,048,576 bytes may be stored, in 1,057,280 bytes; more of either is refused with 1
pub longest_stored : (j : List ℕ) → length j ≡ 1048576 → to_blocks j 1057280 ≡ Ok 1057280
longest_stored = lengths.longest_stored

pub longer_stored : (j : List ℕ) (room : ℕ) → 1048576 < length j → to_blocks j room ≡ refused_with 1 0
longer_stored = lengths.longer_stored

pub longer_blocks : (s : List ℕ) (room : ℕ) → 1057280 < length s → from_blocks s room ≡ refused_with 1 0
longer_blocks = lengths.longer_blocks

---- demand 2: texts and stored names match one to one

-- unpacking what a text packs to gives that text, and packing the text of two accepted words gives those words
pub text_back : (t : List ℕ) (a b : ℕ) → packed t ≡ packed_to a b → unpacked a b ≡ Ok (text_answer t)
text_back = names.unpack_pack

pub words_back : (a b : ℕ) → name_ok a b ≡ true → packed (text_of a b) ≡ packed_to a b
words_back = names.pack_unpack

-- a text packs to two words exactly where they unpack to it
pub one_to_one : (t : List ℕ) (a b : ℕ) → packed t ≡ packed_to a b ↔ unpacked a b ≡ Ok (text_answer t)
one_to_one = names.one_to_one

-- no two part codes share a stored name
pub no_two_part_codes : (t u : List ℕ) (a b : ℕ) → packed t ≡ packed_to a b → packed u ≡ packed_to a b → t ≡ u
no_two_part_codes = names.no_two_share

---- demand 3, one theorem over every list of calls

-- every accepted file opens a session: its bytes through the marker at the front of a buffer, and an empty journal
pub accepted_opens : AcceptedOpens
accepted_opens = start.accepted_opens

-- over the definitions that the five contracts are equations with
pub demand_three : EveryRun
demand_three = every.demand_three

-- a run may begin with what building of its file's used bytes answers and leaves of a buffer
pub built_opens : BuiltOpens
built_opens = beside.built_opens

-- and after every list of calls building of the used bytes, in any buffer as long as the index's, gives just the index as it then is
pub index_as_built : IndexAsBuilt
index_as_built = beside.index_as_built

-- of the calls themselves, with any answers and bytes that their contracts allow, each lent what the last one left
pub every_call : EveryCall
every_call = runs.every_call

-- of the exported functions, the five without an index and the five with one, refusals by a short slice or a flag that is neither 0
-- nor 1 among them, each lent the buffers that the last one left, the index's too, and the used lengths that the slice then held;
-- where it was refused, the last ones
pub every_export : EveryExport
every_export = exported.every_export

-- so a host may keep the used lengths, two or with an index three, in that slice alone: whatever a call answers, it then holds those
-- of the next one
pub kept_in_out : KeptInOut
kept_in_out = exported.kept_in_out

-- and demand 3 holds of lists of calls, with any answers and bytes that their contracts allow, where each is lent the slice as the last
-- one left it and the used lengths that it holds
pub every_in_slice : EveryInSlice
every_in_slice = exported.every_in_slice

-- what dgn_record answers stands at the end of the used bytes, and the used length before it may be handed in next
pub record_ends : EndsThere
record_ends = ends.ends_there

-- so it gives a history, newest first: an edit that is made puts its record in front of what was there, and an undo takes the
-- newest off
pub edit_shown : EditShown
edit_shown = history.edit_shown

pub undo_shown : UndoShown
undo_shown = history.undo_shown

-- walking back from the used length, each time by the one before the record that was given, with any answers that dgn_record's contract
-- allows, gives the records of the book's edits, those made and not undone, each once, newest first, and then 17
pub every_history : EveryHistory
every_history = walked_back.every_history

-- an edit is made exactly where nothing refuses it, and answers the used lengths after it
pub made_exactly : MadeExactly
made_exactly = allowed.made_exactly

pub edits_made : EditsMade
edits_made = allowed.edits_made

-- in plain facts, of a session that opens: a mark is made where an element starts at the place, its flag is not as wanted and 12
-- bytes of the journal are free, with two for each sixteen elements of its extent, a part of sixteen too; a rename where it is a cell
-- and the text a name, with 16 bytes; an insert where place and piece have no fault and the file's buffer has room, with 12 bytes; a
-- remove with 12 bytes and those of the extent
pub mark_made : MarkMade
mark_made = plain.mark_made

pub rename_made : RenameMade
rename_made = plain.rename_made

pub insert_made : InsertMade
insert_made = plain.insert_made

pub remove_made : RemoveMade
remove_made = plain.remove_made

-- after a mark that is made every element in the extent has the flag and no other word of the file changed, and judging answers
-- the same of the file
pub mark_marks : MarkMarks
mark_marks = marks.mark_marks

pub mark_judged : MarkJudged
mark_judged = marks.mark_judged

-- a mark and its undo give the same bytes, whatever mixture of flags the extent had; and its record gives the words back whatever
-- flags stand in the extent then
pub mark_undone : MarkUndone
mark_undone = marks.mark_undone

pub flags_back : FlagsBack
flags_back = marks.flags_back

---- stored journals: a journal in blocks, each with a check

-- the blocks of every journal that may be stored are accepted and give the journal; all accepted bytes are the blocks of the journal that
-- they give; so what is accepted is exactly what is the blocks of some journal
pub journal_back : JournalBack
journal_back = kept_blocks.journal_back

pub blocks_back : BlocksBack
blocks_back = kept_blocks.blocks_back

pub stored_exactly : StoredExactly
stored_exactly = kept_blocks.stored_exactly

-- accepted are the bytes for which from blocks answers by the room alone
pub blocks_accepted_exactly : AcceptedExactly
blocks_accepted_exactly = blocks_refused.accepted_exactly

-- a journal that may be stored is written as blocks where there is room for them, and its blocks as the journal where there is room for it
pub stored_with_room : StoredWithRoom
stored_with_room = there.stored_with_room

pub given_with_room : GivenWithRoom
given_with_room = there.given_with_room

-- with any answers and bytes that the contracts of the two calls allow: what the first one wrote is handed to the second
pub journal_moved_back : JournalMovedBack
journal_moved_back = there.journal_moved_back

pub blocks_moved_back : BlocksMovedBack
blocks_moved_back = there.blocks_moved_back

-- damage that is always seen, with the block that is named: one changed word, an end inside a block, and anything behind a last block that is
-- part full, also that block a second time; such a block moved forward
pub word_changed : WordChanged
word_changed = changed.word_changed

pub cut_inside : CutInside
cut_inside = damage.cut_inside

pub behind_part_full : BehindPartFull
behind_part_full = damage.behind_part_full

pub part_full_moved : PartFullMoved
part_full_moved = joined.part_full_moved

-- and exactly one changed word of some block, whatever the other blocks are: at that block or before it
pub word_of_block_changed : WordOfBlockChanged
word_of_block_changed = changed.word_of_block_changed

-- blocks that are too long together: a 2,065th that uses more than 64 bytes is named, more blocks are refused with 1
pub above_limit : AboveLimit
above_limit = limit.above_limit

pub joined_too_long : JoinedTooLong
joined_too_long = limit.joined_too_long

-- and damage that is not seen, since what is left is the blocks of another journal that may be stored: blocks missing at the end, and full
-- blocks that are missing, replaced, in another order, or doubled where the journal is then not too long
pub cut_between : CutBetween
cut_between = joined.cut_between

pub full_blocks : FullBlocks
full_blocks = joined.full_blocks

pub swapped : Swapped
swapped = joined.swapped

---- words, signed longs and coordinates of ranges: what is stored is read back, and every other word stays

pub word_put : (s : List ℕ) (i w : ℕ) → w < 65536 → i < length s / 2 → word_at (words (put_word s i w)) i ≡ w
word_put = stores.word_put

pub word_put_other : (s : List ℕ) (i j w : ℕ) → w < 65536 → j ≢ i → word_at (words (put_word s i w)) j ≡ word_at (words s) j
word_put_other = stores.word_put_other

pub signed_put : (s : List ℕ) (i : ℕ) (z : ℤ) → mag z < 2147483648 → i + 1 < length s / 2 → signed (long_at (words (put_long s i (unsigned z))) i) ≡ z
signed_put = signs.signed_put

pub coordinate_put : (s : List ℕ) (i : ℕ) (z : ℤ) → mag z < 2147483648 → i + 1 < length s / 2 → coordinate (long_at (words (put_long s i (stored z))) i) ≡ z
coordinate_put = spans.coordinate_put

-- each coordinate has its stored long, and each long its coordinate
pub stored_back : (z : ℤ) → mag z < 2147483648 → coordinate (stored z) ≡ z
stored_back = spans.coordinate_stored

pub coordinate_back : (n : ℕ) → stored (coordinate n) ≡ n
coordinate_back = spans.stored_coordinate
