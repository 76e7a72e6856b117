use Rattle.office_looks.proofs.Common.{◌≡◌, ◌+◌, ◌<◌, ◌++◌, List, ℕ, ◌∷◌, length, drop, filter, map, get_or, refl, sym}
use Rattle.office_looks.proofs.Common.{ap, ◌∙◌, arith, Message, owned}
use Rattle.office_looks.specs.Messages.{message_row}
use Rattle.office_looks.specs.Who.{is_sought, live_rows}
use Rattle.office_looks.proofs.Owning.{element, failing, item_more, owned_at, passing}
use Rattle.office_looks.proofs.who.live_rows.Goals as goal
use Rattle.office_looks.proofs.who.live_rows.Goals.{then-is_sought+in_ok-push_message, else-is_sought}

pub loop-index-preserved : goal.loop-index-preserved
loop-index-preserved c =
    let view = c.args.view.now in
    let s = c.args.sought.now in
    let i = c.loop-index.index in
    let test = λ (p : Message × List ℕ). is_sought s p.0.ident p.0.name in
    let row = message_row view in
    let rest = drop (i + 1) (owned view) in
    let within : i < length (owned view) = omega arith in
    let in_messages : i < length view.sheet.messages = omega arith in
    let in_owners : i < length view.owners = omega arith in
    let m = c.index-messages-index.result in
    let is_m : m ≡ get_or view.sheet.messages i m =
    c.index-messages-index.is ∙ ap (λ v. get_or v i m) c.messages-messages.ensures.messages in
    let tested : c.is_sought.result ≡ is_sought s m.ident m.name =
    c.is_sought.ensures ∙ ap (is_sought s m.ident) c.as_bytes.ensures.bytes in
    let before = c.loop-index.rows in
    elim c.if-is_sought.branch [
      | then-is_sought+in_ok-push_message w ↦
          let o = w.index-owners-index.result in
          let is_o : o ≡ get_or view.owners i o =
          w.index-owners-index.is ∙ ap (λ v. get_or v i o) c.as_slice-owners.ensures in
          let here : drop i (owned view) ≡ (m, o) ∷ rest = owned_at view i m o within in_messages in_owners is_m is_o in
          item_more row (m, o) (filter test rest) (live_rows s view) before (row (m, o)) c.if-is_sought.rows
          (c.loop-index.invariant
          ∙ ap (λ v. before ++ map row (filter test v)) here
          ∙ ap (λ v. before ++ map row v) (passing test (m, o) rest (sym tested ∙ w.if-is_sought.true)))
          refl (w.rows-is ∙ w.in_ok-push_message.ensures)
      | else-is_sought w ↦
          let (o, is_o) = element view.owners i in_owners in
          let here : drop i (owned view) ≡ (m, o) ∷ rest = owned_at view i m o within in_messages in_owners is_m is_o in
          c.loop-index.invariant
          ∙ ap (λ v. before ++ map row (filter test v)) here
          ∙ ap (λ v. before ++ map row v) (failing test (m, o) rest (sym tested ∙ w.if-is_sought.false))
          ∙ ap (λ v. v ++ map row (filter test rest)) (sym w.rows-is)
    ]
