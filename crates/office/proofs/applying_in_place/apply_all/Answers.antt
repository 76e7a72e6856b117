use Rattle.office.proofs.Common.{◌∙◌, ap, sym, subst, AllFit, NetAndBook, all_applied}
use Rattle.office.proofs.CarriedThere.{stays_there}
use Rattle.office.proofs.applying_in_place.apply_all.Goals as goal

pub change_all-requires : goal.change_all-requires
change_all-requires c = subst (λ (d : NetAndBook). AllFit c.args.name.now c.args.changes d) (sym c.in_ok-draft.ensures)
    c.requires.fit

pub unreachable-requires : goal.unreachable-requires
unreachable-requires c =
    stays_there c.args.name.now c.args.changes c.args.net.now c.args.book.now c.change_all.new.draft
    (c.in_ok-change_all.ensures ∙ ap (all_applied c.args.name.now c.args.changes) c.in_ok-draft.ensures)
    (sym c.into_parts-after.ensures.0 ∙ c.in-None.is)
