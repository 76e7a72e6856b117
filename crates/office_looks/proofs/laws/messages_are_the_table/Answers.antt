use Rattle.office_looks.proofs.Common.{refl}
use Rattle.office_looks.proofs.laws.messages_are_the_table.Goals as goal

pub returns : goal.returns
returns c = record { columns = refl; row = λ view p. refl }
