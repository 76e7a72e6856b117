use Rattle.store_net.proofs.Common.{ap, ◌∙◌, slice_get}
use Rattle.store_rows.proofs.Reading.{heads_shown}
use Rattle.store_net.specs.Parts.{heads}
use Rattle.store_net.proofs.First.{head_found, no_head}
use Rattle.store_net.proofs.parts.head_of.Goals as goal

pub returns-in-Some-clause-found : goal.returns-in-Some-clause-found
returns-in-Some-clause-found g c clean office other listed =
    head_found other c.in_ok-rows.rows.items c.in-Some.row.now c.in_ok-from_row-in-Some.field-0
    (heads_shown c.args.name.now _ _ (heads other) listed
    (rw c.as_bytes.ensures.bytes at (c.in_ok-rows.ensures.found clean office)))
    (c.in-Some.ensures.value ∙ ap (λ l. slice_get l 0) c.deref.ensures.value) c.in_ok-from_row-in-Some.ensures

pub returns-clause-found : goal.returns-clause-found
returns-clause-found g c clean office other listed =
    no_head other c.in_ok-rows.rows.items
    (heads_shown c.args.name.now _ _ (heads other) listed
    (rw c.as_bytes.ensures.bytes at (c.in_ok-rows.ensures.found clean office)))
    (c.in-None.ensures.value ∙ ap (λ l. slice_get l 0) c.deref.ensures.value)
