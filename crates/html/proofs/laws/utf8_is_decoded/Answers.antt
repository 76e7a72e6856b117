use Rattle.html.proofs.Utf8.{all_encoded}
use Rattle.html.proofs.laws.utf8_is_decoded.Goals as goal

pub returns : goal.returns
returns c = all_encoded
