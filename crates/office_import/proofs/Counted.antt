-- How many messages of a file are new, and how many are live already.
use Rattle.office_import.proofs.Common.{◌≡◌, ◌+◌, List, length, refl, Message, Net, live_already, new_messages}
use Rattle.std.proofs.lemmas.List.Filters.{length-filter_both}
use Rattle.office_rules.specs.Facts.{is_live}

-- together all of them
pub counted : (net : Net) (ms : List Message) → length (live_already net ms) + length (new_messages net ms) ≡ length ms
counted net ms = length-filter_both (λ m. is_live net m.ident) _ (λ m. refl) ms
