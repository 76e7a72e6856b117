use Rattle.canoffice_cli.proofs.Common.{[], Some, inl, inr, sym, ap, subst, ◌∙◌, Holding, Memory, state, over_memory}
use Rattle.canoffice_cli.specs.Answered.{InDatabase, answered_with}
use Rattle.canoffice_cli.specs.Databases.{known_of}
use Rattle.canoffice_cli.proofs.Opened.{closed_in_memory, err_of, if_err, if_ok, none_answered, none_reported, ok_of}
use Rattle.canoffice_cli.proofs.Opened.{reported_in, unanswered_in}
use Rattle.canoffice_cli.proofs.Reported.{reported_none}
use Rattle.canoffice_cli.proofs.Told.{tells_nothing}
use Rattle.canoffice_cli.proofs.databases.memory.MemoryDatabaseDatabases.answer.Goals as goal

pub returns-in-Err-clause-goes_on : goal.returns-in-Err-clause-goes_on
returns-in-Err-clause-goes_on g c =
    let lost = c.nothing_answered.result in
    let arrivals = c.args.arrivals.now in
    let was = known_of c.args.self.now.conn in
    subst (λ d. InDatabase was (known_of d.conn) c.args._path.now (answered_with arrivals lost.answers.items) lost.lost)
    (sym c.in-Err.ensures.err)
    (none_reported was c.args._path.now (answered_with arrivals lost.answers.items) lost.lost
    (none_answered _ _ _ c.nothing_answered.ensures.lost
    (ap (answered_with arrivals) c.nothing_answered.ensures.answers ∙ reported_none arrivals)))

pub returns-in-Ok-clause-goes_on : goal.returns-in-Ok-clause-goes_on
returns-in-Ok-clause-goes_on g c =
    let arrivals = c.args.arrivals.now in
    let path = c.args._path.now in
    let end = c.answer_on-reported.result.1 in
    let ran = c.answer_on-reported.ensures in
    let taken = c.in-Ok.ensures in
    if_ok _ c.answer_on-reported.result.0 (λ reported was.
    reported_in (known_of c.args.self.now.conn) (known_of (Some end)) path _ _
    (record {
      held = taken.held path;
      in_form = taken.in_form path;
      older = taken.older path;
      none = taken.none path;
      rows = taken.statistics path;
    })
    (closed_in_memory end path) (answered_with arrivals reported.answers.items) reported.lost
    (λ clean h holding is_open. ok_of _ _ reported was (ran.held clean h holding is_open))
    (λ clean h begins is_open. elim (ok_of _ _ reported was (ran.begun clean h begins is_open)) [
      | inl holding ↦ inl holding
      | inr none ↦ inr ((none.0.0, ap (answered_with arrivals) none.0.1 ∙ reported_none arrivals), none.1.0)
    ])
    (λ clean h holding is_open.
    let older = ran.older clean h holding in
    let none = ok_of _ _ reported was older.0 in
    ((none.0, ap (answered_with arrivals) none.1 ∙ reported_none arrivals), (older.1 is_open).0))
    ran.statistics)

pub returns-in-Err-clause-told : goal.returns-in-Err-clause-told
returns-in-Err-clause-told g c have = tells_nothing _ c.args.reasons.now

pub returns-in-Ok-clause-err : goal.returns-in-Ok-clause-err
returns-in-Ok-clause-err g c =
    let path = c.args._path.now in
    let end = c.answer_on-reported.result.1 in
    let ran = c.answer_on-reported.ensures in
    let taken = c.in-Ok.ensures in
    let r = c.answer_on-reported.result.0 in
    if_err (InDatabase (known_of c.args.self.now.conn) (known_of (Some end)) path [] (Some Memory)) r (λ e was.
    unanswered_in (known_of c.args.self.now.conn) (known_of (Some end)) path _ (state over_memory end)
    (record {
      held = taken.held path;
      in_form = taken.in_form path;
      older = taken.older path;
      none = taken.none path;
      rows = taken.statistics path;
    })
    (closed_in_memory end path)
    (λ clean h begins. err_of (Holding h (state over_memory end)) r e was (ran.err clean h begins))
    (λ clean h holding is_open. (ran.older clean h holding).1 is_open)
    ran.statistics)
