use Rattle.canoffice_cli.proofs.Common.{inl}
use Rattle.canoffice_cli.proofs.Applied.{in_memory}
use Rattle.canoffice_cli.proofs.Opened.{kept_same}
use Rattle.canoffice_cli.proofs.Unprinted.{whatever}
use Rattle.canoffice_cli.proofs.jobs.apply.apply_script.Goals as goal

pub returns-in-None-clause-done : goal.returns-in-None-clause-done
returns-in-None-clause-done g c =
    rw c.in-None.is (in_memory (g.F.FileSource.held c.args.files.now) c.args.manner
    (g.D.Databases.known c.args.databases.now) c.args.script.now c.args.reasons.now c.apply_in_memory.new.reasons
    c.apply_in_memory.result c.apply_in_memory.ensures)

pub returns-in-None-clause-lost : goal.returns-in-None-clause-lost
returns-in-None-clause-lost g c =
    whatever c.apply_in_memory.result (inl (kept_same (g.D.Databases.known c.args.databases.now)))

pub returns-in-Some-clause-done : goal.returns-in-Some-clause-done
returns-in-Some-clause-done g c = rw c.in-Some.is c.apply_in_database.ensures.done

pub returns-in-Some-clause-lost : goal.returns-in-Some-clause-lost
returns-in-Some-clause-lost g c = rw c.in-Some.is c.apply_in_database.ensures.lost
