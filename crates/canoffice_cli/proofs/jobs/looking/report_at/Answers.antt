use Rattle.canoffice_cli.proofs.Common.{rules, result_map_both}
use Rattle.desk_client.specs.Received.{seen}
use Rattle.canoffice_cli.specs.Desks.{asked_outcome}
use Rattle.canoffice_cli.specs.Jobs.Looked.{IsLookedAt}
use Rattle.canoffice_cli.proofs.Unprinted.{all_done}
use Rattle.canoffice_cli.proofs.jobs.looking.report_at.Goals as goal

pub returns-in_ok-target-in-Desk-clause-lost : goal.returns-in_ok-target-in-Desk-clause-lost
returns-in_ok-target-in-Desk-clause-lost g c =
    let earlier = g.K.Desks.known c.args.desks.now in
    let later = g.K.Desks.known c.ask.new.self in
    let databases = g.D.Databases.known c.args.databases.now in
    let o = asked_outcome c.in-Desk.port (result_map_both seen (λ fault. fault) c.ask.result) in
    let done : IsLookedAt earlier later databases databases c.args.place c.args.look.now o = search rules in
    all_done earlier later (IsLookedAt earlier later databases databases c.args.place c.args.look.now) o
    c.asked_report.result done
