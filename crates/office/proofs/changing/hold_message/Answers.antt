use Rattle.office.proofs.Common.{◌∙◌, List, ap, sym, subst, get_or_from_slice_get, IsAt, IsGap, dbc_number, Ident}
use Rattle.office.proofs.Common.{LiveMessage, live_name}
use Rattle.office.specs.Indexed.{IsIndexIfThere}
use Rattle.office.proofs.Changed.{gap_there, hold_insert, removable, without_found}
use Rattle.office.proofs.changing.hold_message.Goals as goal

pub unreachable-requires : goal.unreachable-requires
unreachable-requires c =
    let net = c.args.net.now in
    let j = c.in-Ok.field-0 in
    gap_there net c.requires.net c.args.ident.now c.args.at c.requires.found c.to_dbc.ensures.identifier j
    (subst (λ (hs : List Ident). IsAt dbc_number hs (dbc_number c.args.ident.now) j) c.as_slice.ensures
    (subst (λ k. IsAt dbc_number c.as_slice.result.now k j) c.to_dbc.ensures.number c.in-Ok.ensures.found))

pub returns-clause-ok : goal.returns-clause-ok
returns-clause-ok c =
    let net = c.args.net.now in
    let ident = c.args.ident.now in
    let gap = c.in-Err.gap in
    let there : IsGap dbc_number net.held (dbc_number ident) gap =
    subst (λ (hs : List Ident). IsGap dbc_number hs (dbc_number ident) gap) c.as_slice.ensures
    (subst (λ k. IsGap dbc_number c.as_slice.result.now k gap) c.to_dbc.ensures.number c.in-Err.ensures.absent) in
    let live = c.remove-removed.ensures.rest ∙ without_found net.live ident c.args.at c.requires.found in
    let held = c.in_ok-insert-in-Err.ensures.ok ∙ sym (hold_insert net.held ident gap there) in
    λ i. record {
      name = net.name;
      head = net.head;
      live = live i;
      blocks = net.blocks;
      held = held i;
      approvals = net.approvals;
      releases = net.releases;
    }

pub returns-clause-index : goal.returns-clause-index
returns-clause-index c =
    let net = c.args.net.now in
    let ident = c.args.ident.now in
    let at = c.args.at in
    let removed = c.remove-removed.result in
    subst (λ (p : List LiveMessage × List Ident). IsIndexIfThere c.with_moved.result
    (record net { live = p.0; held = p.1 }))
    (λ i. (sym c.remove-removed.ensures.rest i, sym c.in_ok-insert-in-Err.ensures.ok i))
    (c.with_moved.ensures.follows net at c.in-Err.gap ident
    (removable net c.requires.net ident at c.requires.found removed.message.name
    (λ d. ap live_name (get_or_from_slice_get net.live at removed d c.remove-removed.ensures.item)))
    (subst (λ o. IsIndexIfThere o net) (sym c.replace-before.ensures.value) c.requires.index))
