use Rattle.page_changes.proofs.Common.{OnOk, List, ◌∙◌, ap, map, subst, sym, flat_map, Becomes, adding, Difference}
use Rattle.std.proofs.lemmas.List.{take-map}
use Rattle.page_changes.specs.Changes.{list_of}
use Rattle.page_changes.specs.Since.{message_item}
use Rattle.page_changes.specs.declared.since.TheConstants.{LISTED}
use Rattle.page_changes.proofs.since.put_items.Goals as goal

pub returns : goal.returns
returns c =
    subst (λ (ms : List (List Difference)). OnOk c.put_each.result (Becomes c.put_each.new.page
    (adding (flat_map message_item ms) c.args.page.now)))
    (ap (map list_of) c.listed.ensures ∙ sym (take-map list_of LISTED c.args.messages.now)) c.put_each.ensures
