use Rattle.std.proofs.Common.{List, ℕ, ◌∙◌, ap, sym}
use Rattle.bitlayout.specs.Start.{least_start_of}
use Rattle.bitlayout.specs.declared.place.Place.{Place}
use Rattle.dbc_sheet.specs.Signals.{places_of}
use Rattle.office_signals.proofs.Reordered.{start_reordered}
use Rattle.office_signals.proofs.start.least_start_in.Goals as goal

pub returns : goal.returns
returns c =
    let message = c.args.message.now in
    let take = c.args.command.now in
    c.least_start.ensures.computed ∙ ap (λ (n : ℕ). least_start_of c.deref.result.now n take.size take.order take.mux)
    c.bytes-length.ensures.value
    ∙ ap (λ (ps : List Place). least_start_of ps message.length take.size take.order take.mux) c.deref.ensures.value
    ∙ sym (start_reordered (places_of message.signals) _ c.in_ok-places.ensures.same message.length take.size take.order
    take.mux)
