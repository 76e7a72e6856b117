use Rattle.canoffice_cli.proofs.Common.{map, sym, ap, ◌∙◌, is_some, entered}
use Rattle.std.specs.Prelude.{option_map}
use Rattle.canoffice_cli.proofs.Performed.{help_meant, lost_of, words_stay}
use Rattle.canoffice_cli.proofs.program.answer.Goals as goal

pub returns-in-Some-clause-lost : goal.returns-in-Some-clause-lost
returns-in-Some-clause-lost g c =
    let words = map (λ s. s.now) c.args.words.now in
    let found = sym c.name_before_help.ensures ∙ ap (option_map (λ name. name.now)) c.in-Some.is in
    lost_of (g.F.FileSource.held c.args.files.now) (g.F.StandardInput.given c.args.files.now)
    (is_some c.args.progress.now.to) (g.K.Desks.known c.args.desks.now) (g.K.Desks.known c.answer_meant.new.desks)
    (g.D.Databases.known c.args.databases.now) (g.D.Databases.known c.answer_meant.new.databases)
    _ _ c.answer_meant.result
    (ap entered (help_meant words c.in-Some.name.now found)) c.answer_meant.ensures.lost

pub returns-in-None-clause-lost : goal.returns-in-None-clause-lost
returns-in-None-clause-lost g c =
    let words = map (λ s. s.now) c.args.words.now in
    let found = sym c.name_before_help.ensures ∙ ap (option_map (λ name. name.now)) c.in-None.is in
    lost_of (g.F.FileSource.held c.args.files.now) (g.F.StandardInput.given c.args.files.now)
    (is_some c.args.progress.now.to) (g.K.Desks.known c.args.desks.now)
    (g.K.Desks.known c.answer_meant-in-None.new.desks)
    (g.D.Databases.known c.args.databases.now) (g.D.Databases.known c.answer_meant-in-None.new.databases)
    _ _ c.answer_meant-in-None.result
    (ap entered (words_stay words found)) c.answer_meant-in-None.ensures.lost
