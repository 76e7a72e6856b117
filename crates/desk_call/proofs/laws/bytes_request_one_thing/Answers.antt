use Rattle.desk_call.proofs.One.{bytes_request_one_thing}
use Rattle.desk_call.proofs.laws.bytes_request_one_thing.Goals as goal

pub returns : goal.returns
returns c = bytes_request_one_thing
