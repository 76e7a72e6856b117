use Rattle.page_messages.proofs.Common.{◌==◌, ◌∙◌, ℕ, List, Some, ap, arith, codes, length, subst, refl, sym, []}
use Rattle.page_messages.proofs.Common.{enumerate_from, take_all, length-enumerate_from, Message}
use Rattle.markup.specs.declared.tag.Tag.TheVariants as tag
use Rattle.page_parts.specs.Frames.{heading_html}
use Rattle.page_messages.specs.Each.{AreCards, IsCard}
use Rattle.page_messages.proofs.Adding.{enclosed_after, nothing_added}
use Rattle.page_messages.proofs.Cards.{adds_numbered, all_cards, no_card}
use Rattle.page_messages.proofs.each.put_each.Goals as goal

pub returns-then-is_empty : goal.returns-then-is_empty
returns-then-is_empty c =
    no_card c.args.subject.now c.args.marks.now c.args.page.now
    (ap (λ (v : List Message). length v == 0) (sym c.messages-messages.ensures) ∙ sym c.is_empty.ensures ∙ c.if-is_empty.true)

pub loop-index-init : goal.loop-index-init
loop-index-init c = ([], refl, nothing_added _)

pub loop-index-preserved : goal.loop-index-preserved
loop-index-preserved c =
    adds_numbered (λ p. IsCard c.args.subject.now c.args.marks.now p.0 p.1) c.messages-messages.result.now
    c.loop-index.index c.index-messages-index.result _ c.loop-index.page c.put_message.new.page c.loop-index-test.true
    c.index-messages-index.is c.loop-index.invariant c.in_ok-put_message.ensures

pub returns : goal.returns
returns c =
    let subject = c.args.subject.now in
    let marks = c.args.marks.now in
    let messages = c.messages-messages.result.now in
    let done = c.loop-index.invariant in
    let counted = length-enumerate_from 0 messages in
    let all = take_all c.loop-index.index (enumerate_from 0 messages) (omega (arith, c.loop-index-test.false)) in
    all_cards subject marks done.0 c.args.page.now _
    (ap (λ (v : List Message). length v == 0) (sym c.messages-messages.ensures) ∙ sym c.is_empty.ensures ∙ c.if-is_empty.false)
    (subst (λ (v : List Message). AreCards subject marks (enumerate_from 0 v) done.0) c.messages-messages.ensures
    (subst (λ (v : List (ℕ × Message)). AreCards subject marks v done.0) all done.1))
    (enclosed_after tag.Section (codes " id=\"each\"") (heading_html (codes "Each message")
    (Some (codes "signals by their number in the table; 15:8 are bits of the raw value"))) done.0 c.args.page.now _ _ _
    c.open_part.ensures done.2 c.close.ensures)
