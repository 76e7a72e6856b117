use Rattle.canoffice_cli.proofs.jobs.file_jobs.full_report.Goals as goal

pub returns : goal.returns
returns g c = rw (c.as_bytes.ensures.value, c.in_ok-shown.ensures.shown) at c.explained_report.ensures
