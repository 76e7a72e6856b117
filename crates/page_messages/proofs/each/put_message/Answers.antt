use Rattle.page_messages.proofs.Common.{◌++◌, Bool, List, codes, length, nat_lt, refl, subst, Becomes, adding}
use Rattle.page_messages.proofs.Common.{beginning, whole, added, Message}
use Rattle.page_parts.specs.Marks.{state_at}
use Rattle.page_parts.specs.Subjects.{names_of, owner_at}
use Rattle.page_parts.specs.declared.marks.State.{State}
use Rattle.page_messages.specs.Each.{card_html, card_tag, card_title, is_folded, title_html, title_of, words_html}
use Rattle.page_messages.specs.declared.each.TheConstants.{SHOWN_MESSAGES}
use Rattle.page_messages.proofs.Adding.{enclosed_after}
use Rattle.page_messages.proofs.each.put_message.Goals as goal

pub returns : goal.returns
returns c =
    let m = c.args.message.now in
    let subject = c.args.subject.now in
    let marks = c.args.marks.now in
    let i = c.args.index in
    let page = c.args.page.now in
    let opened = c.open_card.new.page in
    let P : Bool → State → Type 0 = λ b s. Becomes opened
    (adding (card_title b (title_html (names_of subject) (owner_at subject i) s m.name))
    (beginning (card_tag b) (codes " class=\"card\"") page)) in
    let first : P (is_folded subject) (state_at marks i) =
    subst (λ (v : List Message). P (nat_lt SHOWN_MESSAGES (length v)) (state_at marks i)) c.messages.ensures
    (subst (λ (s : State). P (nat_lt SHOWN_MESSAGES (length c.messages.result.now)) s) c.state_at.ensures
    c.open_card.ensures) in
    let tables = c.in_ok-put_tables_of.ensures in
    let receivers = whole c.in_ok-receivers.receivers in
    let said = words_html subject.is_j1939 m receivers in
    let title = title_of subject marks i m in (
      card_html (is_folded subject) title (said ++ tables.0),
      record {
        receivers = receivers;
        tables = tables.0;
        has_tables = tables.1;
        is = refl;
      },
      enclosed_after (card_tag (is_folded subject)) (codes " class=\"card\"") (card_title (is_folded subject) title)
          (said ++ tables.0) page opened _ _ first (added opened said tables.0 c.put_words.ensures tables.2) c.close.ensures,
    )
