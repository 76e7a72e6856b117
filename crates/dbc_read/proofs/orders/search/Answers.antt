use Rattle.dbc_read.proofs.Common.{[], Some, None, get_or, refl, rules, bytes_eq, always_returns_same, text_cmp, Signal}
use Rattle.dbc_read.specs.Orders.{signal_names}
use Rattle.dbc_read.proofs.LookingUp.{index_meant}
use Rattle.dbc_read.proofs.Ordered.{absent, found}
use Rattle.dbc_read.proofs.orders.search.Goals as goal

pub returns-in-Ok : goal.returns-in-Ok
returns-in-Ok c =
    let name = c.args.name.now in
    let names = signal_names c.args.signals.now in
    let facts = c.in-Ok.ensures in
    index_meant (λ (s : Signal). s.name) (λ (s : Signal). bytes_eq s.name name) (λ n. bytes_eq n name) (λ s. refl)
    c.args.signals.now (Some c.from.result)
    (found names c.args.order.now c.requires name c.in-Ok.at c.from.result facts.bound c.from.ensures
    (facts.position (λ i. text_cmp (get_or names i []) name)
    (always_returns_same _ _ _ (λ a r f called. (search rules, search rules)))))

pub returns-in-Err : goal.returns-in-Err
returns-in-Err c =
    let name = c.args.name.now in
    let names = signal_names c.args.signals.now in
    let facts = c.in-Err.ensures in
    index_meant (λ (s : Signal). s.name) (λ (s : Signal). bytes_eq s.name name) (λ n. bytes_eq n name) (λ s. refl)
    c.args.signals.now None
    (absent names c.args.order.now c.requires name c.in-Err.field-0
    (facts.position (λ i. text_cmp (get_or names i []) name)
    (always_returns_same _ _ _ (λ a r f called. (search rules, search rules)))))
