use Rattle.canoffice_cli.proofs.Common.{refl, subst}
use Rattle.canoffice_cli.specs.Jobs.Compared.{IsReleasesOutcome, judged}
use Rattle.canoffice_cli.specs.Jobs.Looked.{IsLookOutcome}
use Rattle.canoffice_cli.proofs.Unprinted.{done_as, whatever}
use Rattle.canoffice_cli.proofs.jobs.comparing.compare_releases_report.Goals as goal

pub returns-in_err-report-clause-lost : goal.returns-in_err-report-clause-lost
returns-in_err-report-clause-lost g c =
    let earlier = g.K.Desks.known c.args.desks.now in
    let later = g.K.Desks.known c.look_report.new.desks in
    let before = g.D.Databases.known c.args.databases.now in
    let after = g.D.Databases.known c.look_report.new.databases in
    let place = c.args.place in
    whatever c.from_residual-in_err-report.result
    (done_as earlier later (IsLookOutcome earlier later before after place c.in_ok-look.look)
    (IsReleasesOutcome earlier later before after place c.args.net.now c.args.old c.args.new c.args.json)
    (judged c.args.json)
    (λ o is. (o, subst (λ look. IsLookOutcome earlier later before after place look o) c.in_ok-look.ensures is, refl))
    c.in_err-report.ensures.lost)
