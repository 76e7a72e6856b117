use Rattle.std.proofs.Common.{rules}
use Rattle.office_fields.proofs.Paths.{is_path, no_path}
use Rattle.office_fields.proofs.path.FilePath.of.Goals as goal

pub returns-in_ok-from_str-in-Ok : goal.returns-in_ok-from_str-in-Ok
returns-in_ok-from_str-in-Ok c = rw (← is_path c.args.bytes.now c.in-Ok.ensures.cases.1) (search rules)

pub returns-in-Err : goal.returns-in-Err
returns-in-Err c = no_path c.args.bytes.now c.in-Err.ensures.cases.0
