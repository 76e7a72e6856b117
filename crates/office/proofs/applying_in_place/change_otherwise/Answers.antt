use Rattle.office.proofs.Common.{◌∙◌, sym, subst}
use Rattle.office.specs.Indexed.{IsIndexIfThere}
use Rattle.office.proofs.CarriedThere.{index-either}
use Rattle.office.proofs.applying_in_place.change_otherwise.Goals as goal
use Rattle.office.proofs.applying_in_place.change_otherwise.Goals.{then-is_of_messages+in-Some-1}
use Rattle.office.proofs.applying_in_place.change_otherwise.Goals.{then-is_of_messages+in-None-1, else-is_of_messages}

pub returns-clause-index : goal.returns-clause-index
returns-clause-index c =
    let n = c.change_net.new.net in
    elim c.if-is_of_messages.branch [
      | then-is_of_messages+in-Some-1 w ↦ subst (λ o. IsIndexIfThere o n) (sym w.index-is) tt
      | then-is_of_messages+in-None-1 w ↦ subst (λ o. IsIndexIfThere o n) (sym w.index-is) tt
      | else-is_of_messages w ↦
          subst (λ o. IsIndexIfThere o n) (sym w.index-is)
          (index-either c.change_net.result c.args.index.now c.args.net.now n c.args.change
          (sym c.is_of_messages.ensures ∙ w.if-is_of_messages.false)
          c.requires.index c.change_net.ensures.ok c.change_net.ensures.err)
    ]
