use Rattle.dbc_decode.proofs.Positions.{layouts_apart}
use Rattle.dbc_decode.proofs.laws.layouts_tell_apart.Goals as goal

pub returns : goal.returns
returns c = layouts_apart
