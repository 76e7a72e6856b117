use Rattle.canoffice_cli.proofs.Sent.{sent_unprinted_of, unsendable}
use Rattle.canoffice_cli.proofs.jobs.sending.send_script.Goals as goal

pub returns-clause-sent : goal.returns-clause-sent
returns-clause-sent g c =
    let desks = g.K.Desks.known c.args.desks.now in
    unsendable desks desks c.args.sending (g.F.FileSource.held c.args.files.now) c.args.script.now
    c.in-Ok.arrivals.items c.in-Err-2.index c.line_of.result c.bad_line.result
    c.in-Ok.ensures.requested (rw (c.in-Err-2.is, c.deref.ensures.value) at c.in_ok-requests.ensures.unsent)
    c.line_of.ensures c.bad_line.ensures (λ earlier was. was)

pub returns-in-Ok-2-clause-lost : goal.returns-in-Ok-2-clause-lost
returns-in-Ok-2-clause-lost g c =
    sent_unprinted_of (g.K.Desks.known c.args.desks.now) _ c.args.sending (g.F.FileSource.held c.args.files.now)
    c.args.script.now c.in-Ok.arrivals.items c.sent_report.result c.in-Ok.ensures.requested
    (rw c.deref-in-Ok-2.ensures.value at c.sent_report.ensures.lost)
