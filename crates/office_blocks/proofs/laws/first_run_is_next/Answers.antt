use Rattle.office_blocks.proofs.Next.{first_run_is}
use Rattle.office_blocks.proofs.laws.first_run_is_next.Goals as goal

pub returns : goal.returns
returns c = first_run_is
