use Rattle.canoffice_cli.proofs.Common.{[], Some, inl, inr, refl, Memory}
use Rattle.canoffice_cli.specs.Answered.{InDatabase, answers_outcome}
use Rattle.canoffice_cli.specs.Databases.{AreKept}
use Rattle.canoffice_cli.proofs.Applied.{amiss, answered, applied, unanswered}
use Rattle.canoffice_cli.proofs.Opened.{kept_same}
use Rattle.canoffice_cli.proofs.Unprinted.{whatever}
use Rattle.canoffice_cli.proofs.jobs.apply.apply_in_database.Goals as goal

pub returns-in_ok-reported-in-Ok-clause-done : goal.returns-in_ok-reported-in-Ok-clause-done
returns-in_ok-reported-in-Ok-clause-done g c =
    let before = g.D.Databases.known c.args.databases.now in
    let after = g.D.Databases.known c.answer-reported.new.self in
    let reported = c.in_ok-reported-in-Ok.field-0 in
    let ran = rw c.deref-in-Ok.ensures.value at c.in_ok-reported-in-Ok.ensures in
    applied (g.F.FileSource.held c.args.files.now) _ c.args.manner (InDatabase before after c.args.path.now)
    (AreKept before after) c.args.script.now c.in-Ok.arrivals.items reported.answers.items reported.lost
    c.report.result c.args.reasons.now c.answer-reported.new.reasons c.in-Ok.ensures.requested ran.far ran.goes_on
    ran.told (rw c.deref-in-Ok-2.ensures.value at c.report.ensures)

pub returns-in_ok-reported-in-Ok-clause-lost : goal.returns-in_ok-reported-in-Ok-clause-lost
returns-in_ok-reported-in-Ok-clause-lost g c =
    let before = g.D.Databases.known c.args.databases.now in
    let after = g.D.Databases.known c.answer-reported.new.self in
    let arrivals = c.in-Ok.arrivals.items in
    let reported = c.in_ok-reported-in-Ok.field-0 in
    let ran = rw c.deref-in-Ok.ensures.value at c.in_ok-reported-in-Ok.ensures in
    whatever c.report.result
    (inr (
      answers_outcome c.args.manner arrivals reported.answers.items reported.lost,
      reported.answers.items,
      answered (g.F.FileSource.held c.args.files.now) _ c.args.manner (InDatabase before after c.args.path.now)
          (AreKept before after) c.args.script.now arrivals reported.answers.items reported.lost _
          c.in-Ok.ensures.requested ran.far ran.goes_on refl,
    ))

pub returns-in_err-reported-in-Ok-clause-lost : goal.returns-in_err-reported-in-Ok-clause-lost
returns-in_err-reported-in-Ok-clause-lost g c =
    let before = g.D.Databases.known c.args.databases.now in
    let after = g.D.Databases.known c.answer-reported.new.self in
    whatever c.from_residual-in_err-reported-in-Ok.result
    (inr (
      answers_outcome c.args.manner c.in-Ok.arrivals.items [] (Some Memory),
      [],
      unanswered (g.F.FileSource.held c.args.files.now) _ c.args.manner (InDatabase before after c.args.path.now)
          (AreKept before after) c.args.script.now c.in-Ok.arrivals.items c.in-Ok.ensures.requested
          c.in_err-reported-in-Ok.ensures.err,
    ))

pub returns-in-Err-clause-done : goal.returns-in-Err-clause-done
returns-in-Err-clause-done g c =
    let known = g.D.Databases.known c.args.databases.now in
    amiss (g.F.FileSource.held c.args.files.now) _ c.args.manner (InDatabase known known c.args.path.now)
    (AreKept known known)
    c.args.script.now c.in-Err.fault c.amiss_report.result c.args.reasons.now c.in-Err.ensures.fault (kept_same known)
    c.amiss_report.ensures

pub returns-in-Err-clause-lost : goal.returns-in-Err-clause-lost
returns-in-Err-clause-lost g c =
    whatever c.amiss_report.result (inl (kept_same (g.D.Databases.known c.args.databases.now)))
