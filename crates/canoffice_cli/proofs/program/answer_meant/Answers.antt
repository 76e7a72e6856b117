use Rattle.canoffice_cli.proofs.Common.{◌≡◌, map, true, sym, ◌∙◌, is_some, lint_entered}
use Rattle.canoffice_cli.proofs.Performed.{check_entered, lost_of, others_entered}
use Rattle.canoffice_cli.proofs.program.answer_meant.Goals as goal

pub returns-then-is_check-clause-lost : goal.returns-then-is_check-clause-lost
returns-then-is_check-clause-lost g c =
    let words = map (λ s. s.now) c.args.words.now in
    let given : map (λ s. s.now) c.deref.result.now ≡ lint_entered true words =
    rw c.deref.ensures.value c.in_ok-entered.ensures in
    lost_of (g.F.FileSource.held c.args.files.now) (g.F.StandardInput.given c.args.files.now)
    (is_some c.args.progress.now.to) (g.K.Desks.known c.args.desks.now) (g.K.Desks.known c.answer_entered.new.desks)
    (g.D.Databases.known c.args.databases.now) (g.D.Databases.known c.answer_entered.new.databases)
    _ _ c.answer_entered.result
    (check_entered words _ (sym c.is_check.ensures ∙ c.if-is_check.true) given) c.answer_entered.ensures.lost

pub returns-clause-lost : goal.returns-clause-lost
returns-clause-lost g c =
    let words = map (λ s. s.now) c.args.words.now in
    lost_of (g.F.FileSource.held c.args.files.now) (g.F.StandardInput.given c.args.files.now)
    (is_some c.args.progress.now.to) (g.K.Desks.known c.args.desks.now) (g.K.Desks.known c.answer_entered-2.new.desks)
    (g.D.Databases.known c.args.databases.now) (g.D.Databases.known c.answer_entered-2.new.databases)
    _ _ c.answer_entered-2.result
    (others_entered words (sym c.is_check.ensures ∙ c.if-is_check.false)) c.answer_entered-2.ensures.lost
