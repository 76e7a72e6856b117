use Rattle.page_messages.proofs.Common.{◌≡◌, ◌∙◌, ℕ, [], true, ap, codes, cond, subst, sym, Becomes, adding}
use Rattle.can_id.specs.J1939.{format_of, is_pdu1, pgn_of}
use Rattle.page_messages.specs.Each.{destination_fact, fact}
use Rattle.page_messages.proofs.Adding.{added_as}
use Rattle.page_messages.proofs.facts.put_destination.Goals as goal

pub returns-then-has_destination : goal.returns-then-has_destination
returns-then-has_destination c =
    let f = c.args.fields in
    let page = c.args.page.now in
    let new = c.put_number_fact.new.page in
    let one = fact (codes "destination ") f.ps in
    let test : is_pdu1 (format_of (pgn_of f)) ≡ true =
    sym (ap (λ n. is_pdu1 (format_of n)) c.pgn.ensures.value) ∙ sym c.has_destination.ensures
    ∙ c.if-has_destination.true in
    added_as one (destination_fact f) page new (sym (ap (λ b. cond b one []) test))
    (subst (λ (n : ℕ). Becomes new (adding (fact (codes "destination ") n) page)) (c.from.ensures ∙ c.ps.ensures)
    c.put_number_fact.ensures)
