use Rattle.store_changes.proofs.Common.{sym, subst, IfOk-weaker, IsAfter}
use Rattle.store_rows.proofs.LastPlace.{last_shown, none_shown}
use Rattle.store_changes.proofs.one_signal.place_after.Goals as goal

pub returns-in-None : goal.returns-in-None
returns-in-None c net number t selected = none_shown net number t c.args.rows.now selected 0 c.in-None.ensures.value

pub returns-in_ok-number_at-in-Some : goal.returns-in_ok-number_at-in-Some
returns-in_ok-number_at-in-Some c =
    IfOk-weaker c.number_above.result _ _
    (λ k is net number t selected. subst (IsAfter net number t) (sym is)
    (last_shown net number t c.args.rows.now selected c.in-Some.row.now c.in_ok-number_at-in-Some.field-0
    c.in-Some.ensures.value c.in_ok-number_at-in-Some.ensures))
    c.number_above.ensures
