-- The tests are the definition's, in its order (`and_no`, `and_on`).
use borrow.Author.Tests.{le-leb, lt-leb}
use Rattle.fields.proofs.Bounds.{and_no, and_on}
use Rattle.writer.specs.Writing.{header_fits}
use Rattle.writer.proofs.header_fits.Goals as goal

pub returns-then-room-lt36 : goal.returns-then-room-lt36
unfolding header_fits
returns-then-room-lt36 c = and_no _ (lt-leb _ _ c.if-room-lt36.true)

pub returns-then-size-lt2 : goal.returns-then-size-lt2
unfolding header_fits
returns-then-size-lt2 c = and_on (le-leb _ _ c.if-room-lt36.false) (and_no _ (lt-leb _ _ c.if-size-lt2.true))

pub returns-then-size-gt65535 : goal.returns-then-size-gt65535
unfolding header_fits
returns-then-size-gt65535 c = and_on (le-leb _ _ c.if-room-lt36.false) (and_on (le-leb _ _ c.if-size-lt2.false) (and_no _ (lt-leb _ _ c.if-size-gt65535.true)))

pub returns-then-fields-gt127 : goal.returns-then-fields-gt127
unfolding header_fits
returns-then-fields-gt127 c = and_on (le-leb _ _ c.if-room-lt36.false) (and_on (le-leb _ _ c.if-size-lt2.false) (and_on (le-leb _ _ c.if-size-gt65535.false) (and_no _ (lt-leb _ _ c.if-fields-gt127.true))))

pub returns : goal.returns
unfolding header_fits
returns c =
    and_on (le-leb _ _ c.if-room-lt36.false) (and_on (le-leb _ _ c.if-size-lt2.false) (and_on (le-leb _ _ c.if-size-gt65535.false) (and_on (le-leb _ _ c.if-fields-gt127.false) c.fields_ok.ensures)))
