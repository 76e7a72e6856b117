use Rattle.canoffice_cli.proofs.Common.{Ok, map, is_some}
use Rattle.canoffice_cli.specs.Jobs.{IsDone}
use Rattle.canoffice_cli.specs.Performance.{IsEnteredAnswer}
use Rattle.canoffice_cli.proofs.Unprinted.{done_more}
use Rattle.canoffice_cli.proofs.program.answer_entered.Goals as goal

pub returns-in-Ok-clause-lost : goal.returns-in-Ok-clause-lost
returns-in-Ok-clause-lost g c =
    let files = g.F.FileSource.held c.args.files.now in
    let given = g.F.StandardInput.given c.args.files.now in
    let terminal = is_some c.args.progress.now.to in
    let earlier = g.K.Desks.known c.args.desks.now in
    let later = g.K.Desks.known c.report_of.new.desks in
    let before = g.D.Databases.known c.args.databases.now in
    let after = g.D.Databases.known c.report_of.new.databases in
    done_more earlier later (IsDone files given terminal earlier later before after c.in-Ok.job)
    (IsEnteredAnswer (map (λ s. s.now) c.args.words.now) files given terminal earlier later before after)
    c.report_of.result (λ o done. (Ok c.in-Ok.job, c.in-Ok.ensures.job, done)) c.report_of.ensures.lost
