use Rattle.html.proofs.ReadBack.{are_read_back}
use Rattle.html.proofs.laws.escaped_texts_read_back.Goals as goal

pub returns : goal.returns
returns c = are_read_back
