use Rattle.std.proofs.Common.{subst}
use Rattle.store_bodies.specs.ReadText.{IsReadAs, TextRead}
use Rattle.store_bodies.proofs.read_texts.ReadText.is_of.Goals as goal

pub returns-clause-read : goal.returns-clause-read
returns-clause-read c = subst (λ (read : TextRead). IsReadAs read.text read.sheet) c.self.view_is c.self.invariant
