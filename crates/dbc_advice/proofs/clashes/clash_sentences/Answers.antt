use Rattle.dbc_advice.proofs.Common.{◌≡◌, ◌<◌, ◌≤◌, ◌-◌, ◌++◌, List, length, map, take, get_or, refl, ap, subst, ◌∙◌}
use Rattle.dbc_advice.proofs.Common.{arith, length-map, Message}
use Rattle.std.proofs.lemmas.List.{length-append}
use Rattle.dbc_advice.specs.Clashes.{bytes_of, clash_sentence}
use Rattle.dbc_advice.specs.Limits.{clashes_reported, reasons_reported}
use Rattle.dbc_advice.specs.declared.reasons.ClashReason.{ClashReason}
use Rattle.dbc_advice.proofs.ClashSentences.{told_all, told_cut, told_more}
use Rattle.dbc_advice.proofs.clashes.clash_sentences.Goals as goal

pub returns-then-len-room : goal.returns-then-len-room
returns-then-len-room c =
    let old = c.loop-message in
    let i = old.message-index in
    let messages = c.args.sheet.now.messages in
    let m = c.message-item.result in
    let same = c.messages-message-items.ensures.messages in
    let lt : i < length messages = subst (λ (ms : List Message). i < length ms) same c.loop-message-test.true in
    let item : m ≡ get_or messages i m = c.message-item.is ∙ ap (λ (ms : List Message). get_or ms i m) same in
    let room = clashes_reported - c.len-room.result in
    told_cut messages i c.len-room.result room m c.in_ok-reasons.reasons.items
    (map bytes_of old.sentences.items) (map bytes_of c.add_sentences.new.sentences.items) lt item
    c.in_ok-reasons.ensures (omega (arith, length-map old.sentences.items bytes_of, c.len-room.ensures))
    (omega (arith, c.len-room.ensures, old.invariant.few)) refl
    (omega (arith, c.if-len-room.true, c.len.ensures)) old.invariant.told
    (c.in_ok-add_sentences.ensures
    ∙ ap (λ (rs : List ClashReason). map bytes_of old.sentences.items
    ++ map (λ (r : ClashReason). clash_sentence (m, r)) (take room rs))
    c.deref.ensures.value)

pub loop-message-preserved : goal.loop-message-preserved
loop-message-preserved c =
    let old = c.loop-message in
    let i = old.message-index in
    let messages = c.args.sheet.now.messages in
    let m = c.message-item.result in
    let reasons = c.in_ok-reasons.reasons.items in
    let same = c.messages-message-items.ensures.messages in
    let lt : i < length messages = subst (λ (ms : List Message). i < length ms) same c.loop-message-test.true in
    let item : m ≡ get_or messages i m = c.message-item.is ∙ ap (λ (ms : List Message). get_or ms i m) same in
    let e = c.in_ok-add_sentences-2.ensures
    ∙ ap (λ (rs : List ClashReason). map bytes_of old.sentences.items ++ map (λ (r : ClashReason). clash_sentence (m, r)) rs)
    c.deref-in-loop-message.ensures.value in
    let few : length reasons ≤ reasons_reported =
    omega (arith, c.if-len-room.false, c.len.ensures, c.len-room.ensures, old.invariant.few) in
    let sentences = c.add_sentences-in-loop-message.new.sentences.items in
    let n1 = length-map sentences bytes_of in
    let n2 = ap length e in
    let n3 = length-append (map bytes_of old.sentences.items)
    (map (λ (r : ClashReason). clash_sentence (m, r)) reasons) in
    let n4 = length-map old.sentences.items bytes_of in
    let n5 = length-map reasons (λ (r : ClashReason). clash_sentence (m, r)) in
    record {
      told = told_more messages i m reasons (map bytes_of old.sentences.items) (map bytes_of sentences) lt item
          c.in_ok-reasons.ensures few old.invariant.told e;
      few = omega (
        arith,
        n1,
        n2,
        n3,
        n4,
        n5,
        c.if-len-room.false,
        c.len.ensures,
        c.len-room.ensures,
        old.invariant.few,
      );
    }

pub returns : goal.returns
returns c =
    let old = c.loop-message in
    told_all c.args.sheet.now.messages old.message-index (map bytes_of old.sentences.items)
    (omega (arith, c.loop-message-test.false, ap length c.messages-message-items.ensures.messages))
    (omega (arith, length-map old.sentences.items bytes_of, old.invariant.few)) old.invariant.told
