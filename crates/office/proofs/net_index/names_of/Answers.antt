use Rattle.office.proofs.Common.{◌≡◌, ◌∙◌, ◌+◌, ◌-◌, ◌<◌, ◌∷◌, List, Some, cond, length, drop, get_or, sym, ap, subst}
use Rattle.office.proofs.Common.{arith, get, is_eq, drop_more, text_cmp, LiveMessage}
use Rattle.office.proofs.Indexes.{AreNames, names-first}
use Rattle.office.proofs.net_index.names_of.Goals as goal

pub loop-at-preserved : goal.loop-at-preserved
loop-at-preserved c =
    let live = c.args.live.now in
    let at = c.loop-at.at in
    let before = c.loop-at.names in
    let m : LiveMessage = get_or live (at - 1) c.index-live-at.result in
    let le = c.loop-at.invariant.within in
    let within : at - 1 < length live = omega arith in
    let next : at - 1 + 1 ≡ at = omega arith in
    let here : drop (at - 1) live ≡ m ∷ drop at live = drop_more live (at - 1) c.index-live-at.result within
    ∙ ap (λ k. m ∷ drop k live) next in
    record {
      within = omega arith;
      names = subst (λ (ms : List LiveMessage). AreNames c.insert.new.self ms) (sym here)
          (names-first before c.insert.new.self (drop at live) c.loop-at.invariant.names m (λ q.
          c.in_ok-insert.ensures.updates.0 q
          ∙ ap (λ k. cond (is_eq (text_cmp k q)) (Some c.number.result) (get text_cmp before q)) c.in_ok-name.ensures
          ∙ ap (λ v. cond (is_eq (text_cmp m.message.name q)) (Some v) (get text_cmp before q)) c.number.ensures));
    }
