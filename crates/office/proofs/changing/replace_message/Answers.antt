use Rattle.office.proofs.Common.{◌≡◌, ◌∙◌, List, get_or, ap, sym, subst, LiveMessage}
use Rattle.office.specs.Indexed.{IsIndexIfThere, indexed_alike}
use Rattle.office.proofs.Indexes.{index-replaced}
use Rattle.office.proofs.changing.replace_message.Goals as goal
use Rattle.office.proofs.changing.replace_message.Goals.{then-not-are_indexed_alike+in-Some-1}
use Rattle.office.proofs.changing.replace_message.Goals.{then-not-are_indexed_alike+in-None-1}
use Rattle.office.proofs.changing.replace_message.Goals.{else-not-are_indexed_alike}

pub returns-clause-index : goal.returns-clause-index
returns-clause-index c =
    let net = c.args.net.now in
    let at = c.args.at in
    let m = c.args.message in
    let y = c.index-as_slice-at.result in
    let here : y ≡ get_or net.live at y = c.index-as_slice-at.is
    ∙ ap (λ (l : List LiveMessage). get_or l at y) c.as_slice.ensures in
    elim c.if-not-are_indexed_alike.branch [
      | then-not-are_indexed_alike+in-Some-1 w ↦ subst
          (λ o. IsIndexIfThere o (record net { live = c.replace.new.self })) (sym w.index-is) tt
      | then-not-are_indexed_alike+in-None-1 w ↦ subst
          (λ o. IsIndexIfThere o (record net { live = c.replace.new.self })) (sym w.index-is) tt
      | else-not-are_indexed_alike w ↦
          subst (λ o. IsIndexIfThere o (record net { live = c.replace.new.self })) (sym w.index-is)
          (subst (λ (l : List LiveMessage). IsIndexIfThere c.args.index.now (record net { live = l }))
          (sym c.replace.ensures)
          (index-replaced c.args.index.now net at y m c.requires.within
          (ap (λ z. indexed_alike z m) (sym here) ∙ sym c.are_indexed_alike.ensures ∙ w.if-not-are_indexed_alike.false)
          c.requires.index))
    ]
