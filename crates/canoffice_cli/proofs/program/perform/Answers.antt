use Rattle.canoffice_cli.proofs.Common.{map, is_some}
use Rattle.canoffice_cli.proofs.Performed.{performed}
use Rattle.canoffice_cli.proofs.program.perform.Goals as goal

pub returns : goal.returns
returns g c =
    performed (map (λ s. s.now) c.args.words.now) (g.F.FileSource.held c.args.files.now)
    (g.F.StandardInput.given c.args.files.now) (is_some c.args.progress.now.to)
    (g.K.Desks.known c.args.desks.now) _ _ _ _ _ c.deliver.result
    c.answer-report.result c.answer-report.ensures.answered c.answer-report.ensures.lost
    c.deliver.ensures
