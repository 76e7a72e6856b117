use Rattle.std.proofs.Common.{sym, ap, ◌∙◌}
use Rattle.office_types.specs.Free.{is_taken}
use Rattle.office_signals.proofs.Used.{used_is_usable}
use Rattle.office_signals.proofs.spn.same_spn.Goals as goal

pub usable_spn-requires : goal.usable_spn-requires
usable_spn-requires c =
    let number = c.args.number in
    let used = c.as_slice-used.ensures in
    used_is_usable number c.args.book.now.used (ap (is_taken number) (sym used.numbers) ∙ sym c.is_used.ensures
    ∙ c.if-is_used.true) used.used.numbers_are
