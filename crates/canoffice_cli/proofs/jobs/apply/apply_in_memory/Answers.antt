use Rattle.canoffice_cli.proofs.Common.{⊤}
use Rattle.canoffice_cli.specs.Answered.{InMemory}
use Rattle.canoffice_cli.proofs.Applied.{amiss, applied}
use Rattle.canoffice_cli.proofs.jobs.apply.apply_in_memory.Goals as goal

pub returns-in_ok-reported-in-Ok : goal.returns-in_ok-reported-in-Ok
returns-in_ok-reported-in-Ok g c =
    let reported = c.in_ok-reported-in-Ok.field-0 in
    let ran = rw c.deref-in-Ok.ensures.value at c.in_ok-reported-in-Ok.ensures in
    applied (g.F.FileSource.held c.args.files.now) _ c.args.manner InMemory ⊤ c.args.script.now
    c.in-Ok.arrivals.items reported.answers.items reported.lost c.report.result c.args.reasons.now
    c.answer_in_memory-reported.new.reasons c.in-Ok.ensures.requested ran.far ran.goes_on ran.told
    (rw c.deref-in-Ok-2.ensures.value at c.report.ensures)

pub returns-in-Err : goal.returns-in-Err
returns-in-Err g c = amiss (g.F.FileSource.held c.args.files.now) _ c.args.manner InMemory ⊤ c.args.script.now
    c.in-Err.fault c.amiss_report.result c.args.reasons.now c.in-Err.ensures.fault tt c.amiss_report.ensures
