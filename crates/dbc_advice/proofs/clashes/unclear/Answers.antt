use Rattle.dbc_advice.proofs.Common.{◌≡◌, ◌<◌, ◌-◌, ℕ, List, ◌++◌, length, take, get_or, refl, ap, subst, ◌∙◌, arith}
use Rattle.dbc_advice.proofs.Common.{Message}
use Rattle.dbc_advice.specs.Clashes.{IsClashLine}
use Rattle.dbc_advice.specs.Limits.{clashes_reported}
use Rattle.dbc_advice.specs.ReportedLine.{AreLinesOf}
use Rattle.dbc_advice.specs.declared.reasons.ClashReason.{ClashReason}
use Rattle.dbc_advice.proofs.ClashLines.{all_reported, count_more, cut_reported, message_more}
use Rattle.dbc_advice.proofs.clashes.unclear.Goals as goal

pub returns-then-len-room : goal.returns-then-len-room
returns-then-len-room c =
    let source = c.args.source in
    let old = c.loop-message in
    let i = old.message-index in
    let messages = c.args.sheet.now.messages in
    let m = c.message-item.result in
    let same = c.messages-message-items.ensures.messages in
    let lt : i < length messages = subst (λ (ms : List Message). i < length ms) same c.loop-message-test.true in
    let item : m ≡ get_or messages i m = c.message-item.is ∙ ap (λ (ms : List Message). get_or ms i m) same in
    cut_reported source.name.now source.text.now messages i old.reported (clashes_reported - old.reported)
    old.lines.items c.in_ok-last.last.items c.extend_from_slice.new.self.items m c.in_ok-reasons.reasons.items _
    lt item c.in_ok-reasons.ensures old.invariant.lines old.invariant.reported old.invariant.few refl
    (omega (arith, c.if-len-room.true, c.len.ensures))
    (ap (λ (rs : List ClashReason). take (clashes_reported - old.reported) rs) c.deref-then-len-room.ensures.value)
    c.in_ok-last.ensures
    (c.in_ok-extend_from_slice.ensures.items
    ∙ ap (λ (v : List ℕ). old.lines.items ++ v) c.deref-then-len-room-2.ensures.value)

pub loop-message-preserved : goal.loop-message-preserved
loop-message-preserved c =
    let source = c.args.source in
    let old = c.loop-message in
    let i = old.message-index in
    let messages = c.args.sheet.now.messages in
    let m = c.message-item.result in
    let reasons = c.in_ok-reasons.reasons.items in
    let same = c.messages-message-items.ensures.messages in
    let lt : i < length messages = subst (λ (ms : List Message). i < length ms) same c.loop-message-test.true in
    let item : m ≡ get_or messages i m = c.message-item.is ∙ ap (λ (ms : List Message). get_or ms i m) same in
    let here = subst (λ (rs : List ClashReason). AreLinesOf
    (λ (r : ClashReason). IsClashLine source.name.now source.text.now (m, r)) rs c.in_ok-all.all.items)
    c.deref-in-loop-message-2.ensures.value c.in_ok-all.ensures in
    record {
      lines = message_more source.name.now source.text.now messages i old.lines.items c.in_ok-all.all.items
          c.extend_from_slice-in-loop-message.new.self.items m reasons
          lt item c.in_ok-reasons.ensures (omega (arith, c.if-len-room.false, c.len.ensures, old.invariant.few))
          old.invariant.lines here
          (c.in_ok-extend_from_slice-2.ensures.items
          ∙ ap (λ (v : List ℕ). old.lines.items ++ v) c.deref-in-loop-message-3.ensures.value);
      reported = omega (
        arith,
        c.len-reported.ensures,
        count_more messages i old.reported m reasons lt item
            c.in_ok-reasons.ensures (omega (arith, c.if-len-room.false, c.len.ensures, old.invariant.few))
            old.invariant.reported,
      );
      few = omega (arith, c.len-reported.ensures, c.len.ensures, c.if-len-room.false, old.invariant.few);
    }

pub returns : goal.returns
returns c =
    let old = c.loop-message in
    all_reported c.args.source.name.now c.args.source.text.now c.args.sheet.now.messages old.message-index old.reported
    old.lines.items
    (omega (arith, c.loop-message-test.false, ap length c.messages-message-items.ensures.messages)) old.invariant.lines
    old.invariant.reported old.invariant.few
