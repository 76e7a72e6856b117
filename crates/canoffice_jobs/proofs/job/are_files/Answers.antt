use Rattle.canoffice_jobs.proofs.Common.{◌∙◌, found_of}
use Rattle.canoffice_jobs.proofs.CommandLine.{files_in_rows}
use Rattle.canoffice_jobs.proofs.job.are_files.Goals as goal

pub returns : goal.returns
returns c =
    let found = found_of c.args.found.now in
    c.are_absent.ensures ∙ files_in_rows found _ _ _ c.get_str.ensures c.get_str-2.ensures c.get_str-3.ensures
