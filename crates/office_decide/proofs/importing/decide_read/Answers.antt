use Rattle.office_decide.proofs.Common.{refl, IfOk-weaker, Reading, Unreadable}
use Rattle.dbc_read.proofs.ReadFaults.{read_fault}
use Rattle.office_decide.specs.Imported.{IsReadDecision}
use Rattle.office_decide.proofs.importing.decide_read.Goals as goal

pub returns-in-Ok : goal.returns-in-Ok
returns-in-Ok c =
    IfOk-weaker c.decide_import.result _ (IsReadDecision c.args.team.now c.args.net.now c.args.file.now)
    (λ d h. record { reading = Reading c.in-Ok.reading.sheet; read = (_, c.in-Ok.ensures.reads); decides = h })
    c.decide_import.ensures

pub returns-in-Some : goal.returns-in-Some
returns-in-Some c =
    let other = c.in-Some.ensures.other in
    let given = read_fault c.args.file.now c.in-Err.fault _ refl other (c.in-Err.ensures.none other)
    c.in-Err.ensures.within c.in-Err.ensures.tokens in
    record {
      reading = Unreadable c.in-Some.reported;
      read = record { fault = c.in-Err.fault; given = given; reports = c.in-Some.ensures };
      decides = c.decide_unreadable.ensures c.args.team.now;
    }
