use Rattle.canoffice_cli.proofs.Common.{inl}
use Rattle.canoffice_cli.proofs.Sent.{sent_in_turn, sent_unprinted}
use Rattle.canoffice_cli.proofs.Unprinted.{whatever}
use Rattle.canoffice_cli.proofs.jobs.sending.sent_report.Goals as goal

pub returns-in_err-sent-clause-lost : goal.returns-in_err-sent-clause-lost
returns-in_err-sent-clause-lost g c = whatever c.from_residual-in_err-sent.result (inl c.in_err-sent.ensures.none)

pub returns-clause-sent : goal.returns-clause-sent
returns-clause-sent g c =
    let sent = c.in_ok-sent.field-0 in
    sent_in_turn (g.K.Desks.known c.args.desks.now) _ c.args.sending c.args.arrivals.now c.args.requests.now
    sent.answers.items sent.lost c.requires c.in_ok-sent.ensures.far c.in_ok-sent.ensures.came c.report.result
    c.report.ensures

pub returns-clause-lost : goal.returns-clause-lost
returns-clause-lost g c =
    let sent = c.in_ok-sent.field-0 in
    sent_unprinted (g.K.Desks.known c.args.desks.now) _ c.args.sending c.args.arrivals.now c.args.requests.now
    sent.answers.items sent.lost c.requires c.in_ok-sent.ensures.far c.in_ok-sent.ensures.came c.report.result
