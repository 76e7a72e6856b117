use Rattle.std.proofs.Common.{List, ◌∙◌, ap, sym}
use Rattle.std.specs.Option.{is_some}
use Rattle.bitlayout.specs.Clash.{first_clash_of}
use Rattle.bitlayout.specs.declared.place.Place.{Place}
use Rattle.dbc_sheet.specs.Signals.{places_of}
use Rattle.office_signals.proofs.Reordered.{added_reordered}
use Rattle.office_signals.proofs.start.clashes.Goals as goal

pub returns : goal.returns
returns c =
    let message = c.args.message.now in
    let all = c.deref.ensures.value ∙ c.in_ok-push.ensures.items in
    c.is_some.ensures ∙ ap is_some
    (c.first_clash.ensures.computed ∙ ap (first_clash_of c.deref.result.now) c.bytes.ensures.value)
    ∙ ap (λ (ps : List Place). is_some (first_clash_of ps message.length)) all
    ∙ sym (added_reordered (places_of message.signals) _ c.in_ok-places.ensures.same message.length c.args.place)
