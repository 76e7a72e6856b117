use Rattle.std.proofs.Common.{◌≡◌, length, arith}
use Rattle.httparse.specs.Spans.{IsResponseOf}
use Rattle.desk_head.specs.Limits.{header_limit}
use Rattle.desk_client.proofs.Receiving.{receives_head}
use Rattle.desk_client.proofs.received.response_in.Goals as goal

pub returns-in-Ok-Complete-clause-is : goal.returns-in-Ok-Complete-clause-is
returns-in-Ok-Complete-clause-is c =
    let spans = c.in-Ok-Complete.spans in
    let headers = c.parse_response.new.headers in
    let found : IsResponseOf c.deref.result.now headers spans =
    rw c.in-Ok-Complete.field-0-is at c.in-Ok-Complete.ensures.complete in
    let of : IsResponseOf c.args.text.items headers spans = rw c.deref.ensures.value at found in
    let room : length headers ≡ header_limit = omega arith in
    receives_head _ headers spans _ of room (omega arith) c.received_at.ensures
