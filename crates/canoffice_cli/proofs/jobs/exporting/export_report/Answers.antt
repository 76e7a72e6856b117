use Rattle.canoffice_cli.proofs.Common.{Some, shown_path}
use Rattle.canoffice_cli.specs.Databases.{AreKept}
use Rattle.canoffice_cli.specs.Jobs.Exported.{IsExportWith}
use Rattle.canoffice_cli.specs.Holding.{source_at}
use Rattle.canoffice_cli.proofs.CompletedTexts.{of_original}
use Rattle.canoffice_cli.proofs.FileJobs.{of_bytes, unread}
use Rattle.canoffice_cli.proofs.Opened.{kept_same}
use Rattle.canoffice_cli.proofs.jobs.exporting.export_report.Goals as goal

pub returns-in_ok-shown-in-Ok : goal.returns-in_ok-shown-in-Ok
returns-in_ok-shown-in-Ok g c =
    let files = g.F.FileSource.held c.args.files.now in
    let input = g.F.StandardInput.given c.args.files.now in
    let before = g.D.Databases.known c.args.databases.now in
    let after = g.D.Databases.known c.export_with-in-Ok.new.databases in
    let file = c.in-Some.file.now in
    let extras = c.args.extras in
    of_original files input before after c.args.path.now c.args.net.now c.args.number extras.original c.in-Some.file
    extras.j1939 c.export_with-in-Ok.result c.in-Some.is (
    of_bytes (AreKept before after)
    (λ bytes. IsExportWith before after c.args.path.now c.args.net.now c.args.number
    (Some (record { name = shown_path file; bytes = bytes })) extras.j1939) file (source_at files input file)
    c.in-Ok.bytes.items c.export_with-in-Ok.result c.in-Ok.ensures.bytes
    (rw (c.deref.ensures.value, c.as_bytes.ensures.value, c.in_ok-shown-in-Ok.ensures.shown) at
    c.export_with-in-Ok.ensures)
    )

pub returns-in-Err : goal.returns-in-Err
returns-in-Err g c =
    let files = g.F.FileSource.held c.args.files.now in
    let input = g.F.StandardInput.given c.args.files.now in
    let known = g.D.Databases.known c.args.databases.now in
    let file = c.in-Some.file.now in
    let extras = c.args.extras in
    of_original files input known known c.args.path.now c.args.net.now c.args.number extras.original c.in-Some.file
    extras.j1939 c.unreadable_report.result c.in-Some.is (
    unread (AreKept known known)
    (λ bytes. IsExportWith known known c.args.path.now c.args.net.now c.args.number
    (Some (record { name = shown_path file; bytes = bytes })) extras.j1939) file (source_at files input file)
    c.in-Err.fault c.unreadable_report.result (kept_same known) c.in-Err.ensures.fault c.unreadable_report.ensures
    )
