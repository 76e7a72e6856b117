use Rattle.dbc_keep.proofs.Common.{◌≡◌, true, sym, ap, ◌∙◌}
use Rattle.std.specs.Prelude.{nat_le}
use Rattle.can_id.specs.Ident.{extended_flag}
use Rattle.dbc_sheet.specs.Messages.{number_of}
use Rattle.dbc_keep.proofs.Appended.{three}
use Rattle.dbc_keep.proofs.j1939.format_value.Goals as goal

pub returns : goal.returns
returns c =
    let long : nat_le extended_flag (number_of c.args.message.now) ≡ true =
    ap (nat_le extended_flag) (sym c.number-number.ensures) ∙ sym c.is_extended.ensures ∙ c.if-not-is_extended.false in
    rw long
    (three c.args.text.now.items _ _ _ c.in_ok-extend_from_slice.ensures.items
    (rw c.number-number.ensures at c.in_ok-decimal.ensures)
    c.in_ok-extend_from_slice-2.ensures.items)
