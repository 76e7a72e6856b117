use Rattle.store_net.proofs.Common.{◌≡◌, ◌+◌, ◌++◌, [], List, IsPermutation, append-nil, drop, sym, ap, subst, ◌∙◌, put}
use Rattle.store_net.proofs.Common.{by_number, Message, Sheet, live_messages, LiveMessage}
use Rattle.std.proofs.Math.ListN.{drop_of_length-le}
use Rattle.store_net.proofs.LiveSheet.{next_put, sheet_is}
use Rattle.store_net.proofs.live.live_sheet.Goals as goal

pub loop-one-preserved : goal.loop-one-preserved
loop-one-preserved c =
    let live = c.args.live.now in
    let old = c.loop-one.sheet in
    let index = c.loop-one.one-index in
    let start = c.frame_of-sheet.result in
    let message = c.in_ok-duplicate.field-0 in
    let new = c.add_message.new.sheet in
    let ok : new ≡ record old { messages = put by_number message old.messages } = c.in_ok-add_message.ensures.ok in
    record {
      all = subst (λ (l : List Message). IsPermutation (live_messages live)
          (l ++ live_messages (drop (index + 1) live))) (sym (ap (λ (s : Sheet). s.messages) ok))
          (next_put live old.messages index c.one-item.result message c.loop-one-test.true c.one-item.is
          c.in_ok-duplicate.ensures c.in_ok-add_message.ensures.absent c.loop-one.invariant.all);
      rest = ok ∙ ap (λ (s : Sheet). record s { messages = put by_number message old.messages })
          c.loop-one.invariant.rest
          ∙ sym (ap (λ (s : Sheet). record start { messages = s.messages }) ok);
    }

pub returns : goal.returns
returns c sorted =
    let live = c.args.live.now in
    let sheet = c.loop-one.sheet in
    let ended : drop c.loop-one.one-index live ≡ [] = drop_of_length-le live c.loop-one-test.false in
    let all = subst (λ (l : List LiveMessage). IsPermutation (live_messages live) (sheet.messages ++ live_messages l))
    ended c.loop-one.invariant.all in
    sheet_is c.args.head.frame sheet live sorted c.messages-ascending.ensures.together
    (subst (λ (l : List Message). IsPermutation (live_messages live) l) (append-nil sheet.messages) all)
    (c.loop-one.invariant.rest ∙ ap (λ (s : Sheet). record s { messages = sheet.messages }) c.frame_of-sheet.ensures)
