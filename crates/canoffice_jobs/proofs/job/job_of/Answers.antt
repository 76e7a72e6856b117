use Rattle.canoffice_jobs.proofs.Common.{map, app_of}
use Rattle.clap.specs.Words.{kind_of}
use Rattle.canoffice_jobs.proofs.CommandLine.{line_fault_by, value_fault_of}
use Rattle.canoffice_jobs.proofs.EnteredLine.{job_of_read, line_is_read, value_fault_read}
use Rattle.canoffice_jobs.proofs.job.job_of.Goals as goal

pub job_in-requires : goal.job_in-requires
job_in-requires c =
    let found = c.in-Ok-try_get_matches_from in
    (line_is_read (app_of c.in-Ok.command) (map (λ s. s.now) c.args.words.now) found.matches c.in-Ok.ensures.0
    found.ensures.kinds found.ensures.matches).entered

pub returns-in-Ok-job_in-clause-job : goal.returns-in-Ok-job_in-clause-job
returns-in-Ok-job_in-clause-job c =
    let found = c.in-Ok-try_get_matches_from in
    let words = map (λ s. s.now) c.args.words.now in
    job_of_read words found.matches c.in-Ok-job_in.job
    (line_is_read (app_of c.in-Ok.command) words found.matches c.in-Ok.ensures.0 found.ensures.kinds
    found.ensures.matches) c.in-Ok-job_in.ensures.job

pub returns-in-Ok-try_get_matches_from-clause-fault : goal.returns-in-Ok-try_get_matches_from-clause-fault
returns-in-Ok-try_get_matches_from-clause-fault c =
    let found = c.in-Ok-try_get_matches_from in
    let words = map (λ s. s.now) c.args.words.now in
    value_fault_of words c.in-Err-job_in.fault c.value_fault.result
    (value_fault_read words found.matches c.in-Err-job_in.fault
    (line_is_read (app_of c.in-Ok.command) words found.matches c.in-Ok.ensures.0 found.ensures.kinds
    found.ensures.matches) c.in-Err-job_in.ensures.fault) c.value_fault.ensures.memory c.value_fault.ensures.usage

pub returns-clause-fault : goal.returns-clause-fault
returns-clause-fault c =
    line_fault_by (app_of c.in-Ok.command) (map (λ s. s.now) c.args.words.now) (kind_of c.in-Err.error)
    c.line_fault.result c.in-Ok.ensures.0 c.in-Err.ensures.kinds c.line_fault.ensures
