use Rattle.store_looks.proofs.Common.{◌≡◌, ◌∙◌, [], sym, subst, IfOk-weaker, option_map, net_read}
use Rattle.store_looks.proofs.Seeing.{whole_read}
use Rattle.store_looks.proofs.view.net_for.Goals as goal

pub returns-in-Nothing-clause-found : goal.returns-in-Nothing-clause-found
returns-in-Nothing-clause-found g c clean office =
    IfOk-weaker c.outline_at.result _ _
    (λ found is net at. subst (λ messages. found ≡ option_map (net_read messages []) net) (sym c.in-Nothing.is)
    (is net at))
    (c.outline_at.ensures.found clean office)

pub returns-in-Rows-clause-found : goal.returns-in-Rows-clause-found
returns-in-Rows-clause-found g c clean office =
    IfOk-weaker c.partial_net_at.result _ _
    (λ found is net at. subst (λ messages. found ≡ option_map (net_read messages []) net) (sym c.in-Rows.is)
    (is net at))
    (c.partial_net_at.ensures.found clean office)

pub returns-in-Received-clause-found : goal.returns-in-Received-clause-found
returns-in-Received-clause-found g c clean office =
    IfOk-weaker c.partial_net_at-in-Received.result _ _
    (λ found is net at. subst (λ messages. found ≡ option_map (net_read messages []) net) (sym c.in-Received.is)
    (is net at))
    (c.partial_net_at-in-Received.ensures.found clean office)

pub returns-in-Whole-clause-found : goal.returns-in-Whole-clause-found
returns-in-Whole-clause-found g c clean office =
    IfOk-weaker c.partial_net_at-in-Whole.result _ _
    (λ found is net at. subst (λ messages. found ≡ option_map (net_read messages []) net) (sym c.in-Whole.is)
    (is net at ∙ whole_read net))
    (c.partial_net_at-in-Whole.ensures.found clean office)
