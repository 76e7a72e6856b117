use Rattle.store_net.proofs.Common.{sym, ◌∙◌, canonical_text}
use Rattle.store_net.proofs.LiveSheet.{nothing_reported, reported}
use Rattle.store_net.proofs.live.live_text.Goals as goal

pub returns-in_default-clause-found : goal.returns-in_default-clause-found
returns-in_default-clause-found g c clean office net there =
    nothing_reported canonical_text net (sym c.in_default.is ∙ c.in_ok-sheet.ensures.found clean office net there)

pub returns-clause-found : goal.returns-clause-found
returns-clause-found g c clean office net there =
    reported canonical_text net c.in-Some.sheet c.in_ok-text_of.field-0.items
    (sym c.in-Some.is ∙ c.in_ok-sheet.ensures.found clean office net there) c.in_ok-text_of.ensures.text
