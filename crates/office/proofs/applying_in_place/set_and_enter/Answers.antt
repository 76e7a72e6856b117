use Rattle.office.proofs.Common.{◌∙◌, Some, sym, EnterSpn, SetSpn}
use Rattle.office.proofs.CarriedThere.{two_there}
use Rattle.office.proofs.applying_in_place.set_and_enter.Goals as goal

pub returns-clause-ok : goal.returns-clause-ok
returns-clause-ok c =
    let net = c.args.net.now in
    let book = c.args.book.now in
    let left = c.set_spn_in.ensures.net in
    let used = c.in_ok-enter.ensures.ok in
    (λ i. record { net = Some (left i); book = record { blocks = book.blocks; used = used i } })
    ∙ sym (two_there c.args.name.now (SetSpn c.args.path.now c.args.spn) (EnterSpn c.args.entered) net book)
