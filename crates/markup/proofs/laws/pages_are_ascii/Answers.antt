use Rattle.markup.proofs.Ascii.{are_ascii}
use Rattle.markup.proofs.laws.pages_are_ascii.Goals as goal

pub returns : goal.returns
returns c = are_ascii
