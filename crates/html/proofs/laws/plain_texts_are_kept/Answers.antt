use Rattle.html.proofs.Plain.{kept}
use Rattle.html.proofs.laws.plain_texts_are_kept.Goals as goal

pub returns : goal.returns
returns c = kept
