-- `listing::put_name` meets its contract: nothing for an empty name, else a space and its first six letters.
use mathlib.Core.Path.{refl, sym}
use native.Mathlib.Omega.{arith}
use lib.Seq.{take_all, length-take-le}
use Rattle.listing.proofs.Laws.{no_name, some_name}
use Rattle.listing.proofs.put_name.Goals as goal

pub returns-then-name-eq0 : goal.returns-then-name-eq0
returns-then-name-eq0 c = no_name _ c.args.name.now _ c.if-name-eq0.true

pub slice_bounds-put_bytes-end : goal.slice_bounds-put_bytes-end
slice_bounds-put_bytes-end c =
    sym (length-take-le 6 c.args.name.now (omega arith))

pub put_bytes-requires : goal.put_bytes-requires
put_bytes-requires c =
    omega (arith, length-take-le 6 c.args.name.now (omega arith))

pub returns-then-name-gt6 : goal.returns-then-name-gt6
returns-then-name-gt6 c =
    some_name _ _ _ c.args.name.now _ _ _ _ c.if-name-eq0.false refl c.put_byte-next.ensures c.put_bytes.ensures

pub returns : goal.returns
returns c =
    let six = take_all _ _ c.if-name-gt6.false in
    some_name _ _ _ c.args.name.now _ _ _ _ c.if-name-eq0.false (sym six) c.put_byte-next.ensures c.put_bytes-2.ensures
