use Rattle.canoffice_cli.proofs.StatedMore.{faults_of_nothing, left_of_sheet}
use Rattle.canoffice_cli.proofs.jobs.explaining.stated_of_format.Goals as goal

pub returns-in-Ok : goal.returns-in-Ok
returns-in-Ok c =
    let source = c.args.source in
    left_of_sheet (λ stated. stated.items) c.args.keep source.name.now source.text.now c.stated_of_reading.result
    c.in-Ok.reading.sheet c.in-Ok.reading.passed c.in-Ok.ensures.reads c.stated_of_reading.ensures

pub returns-in_default : goal.returns-in_default
returns-in_default c =
    let source = c.args.source in
    faults_of_nothing (λ stated. stated.items) c.args.keep source.name.now source.text.now c.explained.result
    (c.in-Err.ensures.none c.in_default.not-Memory) c.explained.ensures
