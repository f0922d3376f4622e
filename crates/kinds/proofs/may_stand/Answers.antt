-- A header by `header_stands`; of the other types only 17 stands under 7 (`stands`).
use mathlib.Core.Path.{sym, ◌∙◌}
use borrow.Author.Tests.{ne_eqb}
use Rattle.kinds.proofs.Types.{stands}
use Rattle.kinds.proofs.may_stand.Goals as goal

pub is_header-requires : goal.is_header-requires
is_header-requires c = tt

pub header_stands-requires : goal.header_stands-requires
header_stands-requires c = sym c.is_header.ensures ∙ c.if-is_header.true

pub returns-then-is_header : goal.returns-then-is_header
returns-then-is_header c = c.header_stands.ensures

pub is_unread-requires : goal.is_unread-requires
is_unread-requires c = tt

pub returns-then-is_unread : goal.returns-then-is_unread
returns-then-is_unread c =
    simp (
      stands c.args.dim c.args.under c.args.t
          (sym c.is_header.ensures ∙ c.if-is_header.false),
      sym c.is_unread.ensures,
      c.if-is_unread.true,
    )

pub returns-then-under-eq7 : goal.returns-then-under-eq7
returns-then-under-eq7 c =
    sym
    (stands c.args.dim c.args.under c.args.t
    (sym c.is_header.ensures ∙ c.if-is_header.false) ∙ simp
    (sym c.is_unread.ensures, c.if-is_unread.false, c.if-under-eq7.true))

pub returns : goal.returns
returns c =
    simp (
      stands c.args.dim c.args.under c.args.t
          (sym c.is_header.ensures ∙ c.if-is_header.false),
      sym c.is_unread.ensures,
      c.if-is_unread.false,
      ne_eqb _ _ c.if-under-eq7.false,
    )
