use Rattle.canoffice_cli.proofs.jobs.file_jobs.stated_of_job.Goals as goal

pub returns : goal.returns
returns g c = rw (c.as_bytes.ensures.value, c.in_ok-shown.ensures.shown) at c.stated.ensures
