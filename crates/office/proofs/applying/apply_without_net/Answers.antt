use Rattle.office.proofs.Common.{◌≡◌, ◌∙◌, [], ap, sym, Office}
use Rattle.std.proofs.lemmas.List.{nil_from_length}
use Rattle.office.specs.OfficeApplied.{office_applied}
use Rattle.office.proofs.AppliedToOffice.{nothing_applied}
use Rattle.office.proofs.applying.apply_without_net.Goals as goal

pub returns-in-0-clause-ok : goal.returns-in-0-clause-ok
returns-in-0-clause-ok c =
    let o : Office = record { nets = c.args.nets.now.items; book = c.args.book.now } in
    let none : c.args.changes ≡ [] = sym c.as_slice.ensures ∙ nil_from_length c.as_slice.result.now c.in-0.is in
    nothing_applied o c.args.name.now c.requires.sorted ∙ ap (office_applied o c.args.name.now) (sym none)
