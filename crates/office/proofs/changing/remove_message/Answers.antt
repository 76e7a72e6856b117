use Rattle.office.proofs.Common.{◌∙◌, List, ap, sym, subst, list_any, IsStrictlySortedBy, get_or_from_slice_get}
use Rattle.office.proofs.Common.{by_number, LiveMessage, has_ident, live_name}
use Rattle.office.specs.Indexed.{IsIndexIfThere, IsFoundAt}
use Rattle.office.proofs.Changed.{none_without, removable, without_found}
use Rattle.office.proofs.Looked.{live_rises}
use Rattle.office.proofs.changing.remove_message.Goals as goal

pub find_ident-requires : goal.find_ident-requires
find_ident-requires c = subst (λ (l : List LiveMessage). IsStrictlySortedBy by_number l) (sym c.as_slice.ensures)
    (live_rises c.args.net.now c.requires.net)

pub returns-in-None-clause-net : goal.returns-in-None-clause-net
returns-in-None-clause-net c =
    let net = c.args.net.now in
    let ident = c.args.ident.now in
    sym (ap (λ (l : List LiveMessage). record net { live = l })
    (none_without (has_ident ident) net.live
    (ap (list_any (has_ident ident)) (sym c.as_slice.ensures) ∙ c.in-None.ensures)))

pub returns-in-Some-clause-net : goal.returns-in-Some-clause-net
returns-in-Some-clause-net c =
    let net = c.args.net.now in
    let ident = c.args.ident.now in
    let at = c.in-Some.at in
    let found = subst (λ (l : List LiveMessage). IsFoundAt l ident at) c.as_slice.ensures c.in-Some.ensures in
    ap (λ (l : List LiveMessage). record net { live = l })
    (c.remove-removed.ensures.rest ∙ without_found net.live ident at found)

pub returns-in-Some-clause-index : goal.returns-in-Some-clause-index
returns-in-Some-clause-index c =
    let net = c.args.net.now in
    let ident = c.args.ident.now in
    let at = c.in-Some.at in
    let removed = c.remove-removed.result in
    let found = subst (λ (l : List LiveMessage). IsFoundAt l ident at) c.as_slice.ensures c.in-Some.ensures in
    subst (λ (l : List LiveMessage). IsIndexIfThere c.with_removed.result (record net { live = l }))
    (sym c.remove-removed.ensures.rest)
    (c.with_removed.ensures.follows net at
    (removable net c.requires.net ident at found removed.message.name
    (λ d. ap live_name (get_or_from_slice_get net.live at removed d c.remove-removed.ensures.item)))
    (subst (λ o. IsIndexIfThere o net) (sym c.replace-before.ensures.value) c.requires.index))
