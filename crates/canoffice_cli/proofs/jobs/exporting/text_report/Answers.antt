use Rattle.canoffice_cli.proofs.Common.{ap}
use Rattle.std.proofs.Common.{option_map}
use Rattle.dbc_keep.specs.Completed.{named_text}
use Rattle.canoffice_cli.proofs.CompletedTexts.{with_attributes, with_original}
use Rattle.canoffice_cli.proofs.jobs.exporting.text_report.Goals as goal

pub returns-in-Some : goal.returns-in-Some
returns-in-Some c =
    let besides = c.args.besides in
    with_original c.args.text.items c.completed_report.result (option_map named_text besides.original) _ besides.j1939
    (ap (option_map named_text) c.in-Some.is) c.completed_report.ensures

pub returns-then-besides : goal.returns-then-besides
returns-then-besides c =
    let besides = c.args.besides in
    with_attributes c.args.text.items c.completed_report-then-besides.result (option_map named_text besides.original)
    besides.j1939 c.if-besides.true c.completed_report-then-besides.ensures
