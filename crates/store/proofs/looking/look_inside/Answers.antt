use Rattle.store.proofs.Common.{Some, ap, subst, sym, Look}
use Rattle.store.specs.Looking.{IsShown}
use Rattle.store.proofs.looking.look_inside.Goals as goal

pub returns-in_ok-nets_text-in-Nets-clause-found : goal.returns-in_ok-nets_text-in-Nets-clause-found
returns-in_ok-nets_text-in-Nets-clause-found g c clean office h holds =
    let kept = c.histories_leave_offices.ensures.kept h holds.holds.office holds.holds.in_range holds.holds.legal in
    subst (λ (q : Look). IsShown h holds.holds.office q (Some c.in_ok-nets_text-in-Nets.field-0.items))
    (sym c.in-Nets.is) (ap Some (c.in_ok-nets_text-in-Nets.ensures.found clean office holds.holds.office.nets
    (record { ascending = kept.rising; each = holds.holds.nets })))
