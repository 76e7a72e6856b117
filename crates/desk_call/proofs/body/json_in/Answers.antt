use Rattle.desk_call.proofs.Common.{◌≡◌, Some, read, view}
use Rattle.desk_call.proofs.Texts.{is_json, no_json}
use Rattle.desk_call.proofs.body.json_in.Goals as goal

pub returns-in_default : goal.returns-in_default
returns-in_default c = no_json c.args.bytes.now c.in_default.ensures.cases.0

pub returns-in-Ok-from_str : goal.returns-in-Ok-from_str
returns-in-Ok-from_str c =
    let same = c.in-Ok.ensures.cases.0 in
    let reads : read c.args.bytes.now ≡ Some (view c.in-Ok-from_str.value) = rw (← same) c.in-Ok-from_str.ensures.ok in
    is_json c.args.bytes.now _ c.in-Ok.ensures.cases.1 reads
