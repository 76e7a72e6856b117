use Rattle.store_net.proofs.Common.{◌≡◌, sym, subst, IfOk-weaker}
use Rattle.store_net.specs.SignalParts.{signals_in}
use Rattle.store_net.proofs.message.signals_for.Goals as goal

pub returns-in-All-clause-found : goal.returns-in-All-clause-found
returns-in-All-clause-found g c clean office =
    IfOk-weaker c.signals_at.result _ _
    (λ signals one others are. subst (λ detail. signals ≡ signals_in detail others) (sym c.in-All.is)
    (one others are)) (c.signals_at.ensures.found clean office)

pub returns-in-Received-clause-found : goal.returns-in-Received-clause-found
returns-in-Received-clause-found g c clean office =
    IfOk-weaker c.received_signals_at.result _ _
    (λ signals one others are. subst (λ detail. signals ≡ signals_in detail others) (sym c.in-Received.is)
    (one others are)) (c.received_signals_at.ensures.found clean office)
