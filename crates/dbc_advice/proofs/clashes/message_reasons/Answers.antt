use Rattle.dbc_advice.proofs.Common.{◌≡◌, None, not, sym, ap, ◌∙◌, first_clash_of, places_of}
use Rattle.bitlayout.proofs.Collisions.{none_from_test}
use Rattle.dbc_advice.proofs.ClearReasons.{no_reasons}
use Rattle.dbc_advice.proofs.clashes.message_reasons.Goals as goal

pub returns-then-is_none : goal.returns-then-is_none
returns-then-is_none c =
    let message = c.args.message.now in
    let shown = c.deref.result.now in
    let none : c.first_clash.result ≡ None =
    none_from_test c.first_clash.result (ap not c.is_none.ensures ∙ ap (λ b. not (not b)) c.if-is_none.true) in
    let clear : first_clash_of (places_of message.signals) message.length ≡ None =
    ap (λ ps. first_clash_of ps message.length) (sym (c.deref.ensures.value ∙ c.in_ok-places.ensures))
    ∙ ap (λ n. first_clash_of shown n) (sym c.bytes-bytes.ensures.value)
    ∙ sym c.first_clash.ensures.computed ∙ none in
    rw c.new.ensures.items (no_reasons message.length (places_of message.signals) clear)
