use Rattle.office.proofs.Common.{◌∙◌, ◌&&◌, not, refl, ap, get, text_cmp, is_taken}
use Rattle.office.specs.Indexed.{has_form_and_number}
use Rattle.office.specs.declared.net_index.NetIndex.{NetIndex}
use Rattle.office.proofs.Indexes.{index-removed, numbers_apart}
use Rattle.office.proofs.net_index.NetIndex.remove.Goals as goal

pub returns : goal.returns
returns c = λ net at gone is.
    let old : NetIndex = c.args.self.now in
    let mid : NetIndex = record old { names = c.remove.new.self } in
    let ident = c.args.ident.now in
    index-removed net at c.args.name.now ident gone old c.remove_number.new.self is
    (λ q. ap (λ ns. get text_cmp ns q) c.remove_number.ensures.names ∙ c.remove.ensures.updates.0 q)
    (λ form n. c.remove_number.ensures.numbers form n
    ∙ ap (λ ns. not (has_form_and_number form n ident) && is_taken n ns) (numbers_apart mid old refl refl form))
