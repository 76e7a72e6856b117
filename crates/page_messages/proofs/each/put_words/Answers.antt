use Rattle.page_messages.proofs.Common.{◌++◌, ℕ, List, [], subst, Becomes, adding, whole, added}
use Rattle.page_messages.specs.Each.{comment_html, facts_html, facts_id, paragraph, route_html}
use Rattle.page_messages.proofs.each.put_words.Goals as goal

pub returns : goal.returns
returns c =
    let m = c.args.message.now in
    let begun = c.put_facts_line.new.page in
    let routed = c.put_route_line.new.page in
    let new = c.put_comment.new.page in
    let facts = paragraph (facts_id m.name) (facts_html c.args.subject.now.is_j1939 m) in
    let route = paragraph [] (route_html m.transmitter (whole c.args.receivers)) in
    let comment : Becomes new (adding (comment_html m.comment) routed) =
    subst (λ (v : List ℕ). Becomes new (adding (comment_html v) routed)) c.as_bytes.ensures.bytes c.put_comment.ensures in
    added c.args.page.now facts (route ++ comment_html m.comment) c.put_facts_line.ensures
    (added begun route (comment_html m.comment) c.put_route_line.ensures comment)
