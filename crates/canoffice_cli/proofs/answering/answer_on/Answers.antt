use Rattle.canoffice_cli.proofs.Common.{◌≡◌, ◌∙◌, inl, inr, subst, sym, arith, false≢true, state, HasCleanDisk, Holding}
use Rattle.canoffice_cli.proofs.Common.{in_form, office_in_form, older_in_form, IsLegalHistory, on_err_weaker}
use Rattle.canoffice_cli.proofs.Reported.{begins_on, begun_is_legal, history_at_first}
use Rattle.canoffice_cli.proofs.Opened.{held_or_none, none_answered}
use Rattle.canoffice_cli.proofs.Told.{tells_nothing}
use Rattle.canoffice_cli.proofs.answering.answer_on.Goals as goal

pub returns-in-Ok-clause-held : goal.returns-in-Ok-clause-held
returns-in-Ok-clause-held g c clean h holding is_open =
    let reported = c.answer_all-reported.ensures in
    let same : c.close.result ≡ c.answer_all-reported.new.office.conn = c.close.ensures.same in
    let clean_now : HasCleanDisk (state g.S.Store c.answer_all-reported.new.office.conn) = rw (← same) clean in
    let early : HasCleanDisk (state g.S.Store c.in-Ok.office.conn) = omega (arith, reported.clean, clean_now) in
    let begun = c.in-Ok.ensures.begun early h (inl (in_form h (state g.S.Store c.args.conn) holding)) in
    rw same (reported.held clean_now h begun (rw (← same) is_open))

pub returns-in-Ok-clause-begun : goal.returns-in-Ok-clause-begun
returns-in-Ok-clause-begun g c clean h begins is_open =
    let reported = c.answer_all-reported.ensures in
    let same : c.close.result ≡ c.answer_all-reported.new.office.conn = c.close.ensures.same in
    let clean_now : HasCleanDisk (state g.S.Store c.answer_all-reported.new.office.conn) = rw (← same) clean in
    let early : HasCleanDisk (state g.S.Store c.in-Ok.office.conn) = omega (arith, reported.clean, clean_now) in
    rw same (held_or_none _ _ c.answer_all-reported.result
    (reported.held clean_now h (c.in-Ok.ensures.begun early h begins) (rw (← same) is_open)))

pub returns-in-Ok-clause-older : goal.returns-in-Ok-clause-older
returns-in-Ok-clause-older g c clean h holding =
    let reported = c.answer_all-reported.ensures in
    let same : c.close.result ≡ c.answer_all-reported.new.office.conn = c.close.ensures.same in
    let clean_now : HasCleanDisk (state g.S.Store c.answer_all-reported.new.office.conn) = rw (← same) clean in
    let early : HasCleanDisk (state g.S.Store c.in-Ok.office.conn) = omega (arith, reported.clean, clean_now) in
    absurd (false≢true (c.in-Ok.ensures.older early h holding))

pub returns-in-Ok-clause-legal : goal.returns-in-Ok-clause-legal
returns-in-Ok-clause-legal g c clean h begins =
    let reported = c.answer_all-reported.ensures in
    let same : c.close.result ≡ c.answer_all-reported.new.office.conn = c.close.ensures.same in
    let clean_now : HasCleanDisk (state g.S.Store c.answer_all-reported.new.office.conn) = rw (← same) clean in
    let early : HasCleanDisk (state g.S.Store c.in-Ok.office.conn) = omega (arith, reported.clean, clean_now) in
    reported.legal clean_now h (c.in-Ok.ensures.begun early h begins)

pub returns-in-Err-clause-held : goal.returns-in-Err-clause-held
returns-in-Err-clause-held g c clean h holding is_open =
    subst (λ k. Holding k (state g.S.Store c.in-Err.conn))
    (history_at_first h c.args.arrivals.now _ c.nothing_answered.ensures.answers)
    (c.in-Err.ensures.held clean h holding is_open)

pub returns-in-Err-clause-begun : goal.returns-in-Err-clause-begun
returns-in-Err-clause-begun g c clean h begins is_open =
    inr (
      none_answered _ _ _ c.nothing_answered.ensures.lost c.nothing_answered.ensures.answers,
      c.in-Err.ensures.back clean (begins_on h (state g.S.Store c.args.conn) begins) is_open,
    )

pub returns-in-Err-clause-older : goal.returns-in-Err-clause-older
returns-in-Err-clause-older g c clean h holding =
    let old = state g.S.Store c.args.conn in (
      none_answered _ _ _ c.nothing_answered.ensures.lost c.nothing_answered.ensures.answers,
      c.in-Err.ensures.back clean (inl (office_in_form h old (older_in_form h old holding))),
    )

pub returns-in-Err-clause-legal : goal.returns-in-Err-clause-legal
returns-in-Err-clause-legal g c clean h begins =
    subst IsLegalHistory (history_at_first h c.args.arrivals.now _ c.nothing_answered.ensures.answers)
    (begun_is_legal c.histories_grow.ensures h _ begins)

pub returns-in-Ok-clause-statistics : goal.returns-in-Ok-clause-statistics
returns-in-Ok-clause-statistics g c clean h begins is_open =
    let reported = c.answer_all-reported.ensures in
    let same : c.close.result ≡ c.answer_all-reported.new.office.conn = c.close.ensures.same in
    let clean_now : HasCleanDisk (state g.S.Store c.answer_all-reported.new.office.conn) = rw (← same) clean in
    let early : HasCleanDisk (state g.S.Store c.in-Ok.office.conn) = omega (arith, reported.clean, clean_now) in
    let begun = c.in-Ok.ensures.begun early h begins in
    rw same (reported.statistics clean_now h begun (rw (← same) is_open)
    ∙ c.in-Ok.ensures.statistics early h begins begun.is_open)

-- nothing was answered, so the office is as it was opened
pub returns-in-Ok-clause-err : goal.returns-in-Ok-clause-err
returns-in-Ok-clause-err g c clean h begins =
    let reported = c.answer_all-reported.ensures in
    let same : c.close.result ≡ c.answer_all-reported.new.office.conn = c.close.ensures.same in
    let clean_now : HasCleanDisk (state g.S.Store c.answer_all-reported.new.office.conn) = rw (← same) clean in
    let early : HasCleanDisk (state g.S.Store c.in-Ok.office.conn) = omega (arith, reported.clean, clean_now) in
    let held = c.in-Ok.ensures.begun early h begins in
    on_err_weaker c.answer_all-reported.result
    (λ (stays : c.answer_all-reported.new.office ≡ c.in-Ok.office).
    rw same (subst (λ o. Holding h (state g.S.Store o.conn)) (sym stays) held))
    reported.err

pub returns-in-Err-clause-told : goal.returns-in-Err-clause-told
returns-in-Err-clause-told g c have = tells_nothing _ c.args.reasons.now
