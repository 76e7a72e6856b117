use Rattle.desk_send.proofs.Common.{◌≡◌, ◌≤◌, Some, sym, arith, length, body_limit}
use Rattle.desk_send.specs.Body.{body_of}
use Rattle.desk_send.specs.Request.{request_bytes}
use Rattle.desk_send.specs.Target.{target_of}
use Rattle.desk_send.proofs.RequestsBack.{is_sent_as}
use Rattle.desk_send.proofs.request.post_request.Goals as goal

pub returns-clause-request : goal.returns-clause-request
returns-clause-request c =
    let a = c.args.arrival.now in
    let body = c.in-Some.body.items in
    let command = a.request.command in
    let there : body_of command ≡ Some body = sym (rw c.in-Some.is at c.in_ok-body.ensures.body) in
    let len = c.len.ensures in
    let within = c.if-len.false in
    let fits : length body ≤ body_limit = omega (arith, len, within) in
    let text : c.in_ok-request_text.field-0.items ≡ request_bytes (target_of command) a.team a.key body =
    rw (
      c.deref.ensures.value,
      c.deref-2.ensures.value,
      c.in_ok-target.ensures,
      c.as_bytes-team.ensures.bytes,
      c.as_bytes-key.ensures.bytes,
    )
    at c.in_ok-request_text.ensures in
    is_sent_as a body c.in_ok-request_text.field-0.items c.as_bytes-team.ensures.keeps c.as_bytes-key.ensures.keeps
    c.command_is_in_range.ensures.net there (rw c.in-Some.is at c.in_ok-body.ensures.back) fits text
