use Rattle.std.proofs.Common.{refl}
use Rattle.office_script.proofs.filling.read_import.Goals as goal

pub returns-in-Err-Unreadable : goal.returns-in-Err-Unreadable
returns-in-Err-Unreadable g c = record {
  named = rw c.into_path.ensures refl;
  unreadable = rw c.into_path.ensures
      (rw (c.as_str.ensures, c.in-Err-Unreadable.field-0-is) at c.in-Err-Unreadable.ensures.fault);
}
