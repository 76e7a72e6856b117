use Rattle.office.proofs.Common.{◌∷◌, [], ◌∙◌, List, sym, ap, on_ok_weaker, SpnBlock, Change, Office}
use Rattle.office.specs.OfficeApplied.{office_applied}
use Rattle.office.proofs.AppliedToOffice.{block_applied, number_applied}
use Rattle.office.proofs.applying.apply_one.Goals as goal

pub returns-in-SetSpnBlock-clause-ok : goal.returns-in-SetSpnBlock-clause-ok
returns-in-SetSpnBlock-clause-ok c =
    let o : Office = record { nets = c.args.nets.now.items; book = c.args.book.now } in
    let name = c.args.name.now in
    on_ok_weaker c.put_item.result
    (λ e. ap (λ (bs : List SpnBlock). record { nets = o.nets; book = record { blocks = bs; used = o.book.used } }) e
    ∙ block_applied o name c.requires.sorted c.in-SetSpnBlock.block
    ∙ ap (λ (ch : Change). office_applied o name (ch ∷ [])) (sym c.in-SetSpnBlock.is))
    c.put_item.ensures.ok

pub returns-in-EnterSpn-clause-ok : goal.returns-in-EnterSpn-clause-ok
returns-in-EnterSpn-clause-ok c =
    let o : Office = record { nets = c.args.nets.now.items; book = c.args.book.now } in
    let name = c.args.name.now in
    on_ok_weaker c.enter.result
    (λ e. ap (λ used. record { nets = o.nets; book = record { blocks = o.book.blocks; used = used } }) e
    ∙ number_applied o name c.requires.sorted c.in-EnterSpn.spn
    ∙ ap (λ (ch : Change). office_applied o name (ch ∷ [])) (sym c.in-EnterSpn.is))
    c.enter.ensures.ok
