use Rattle.sqlite.proofs.ListingLemmas.{empty_is_sound}
use Rattle.store_tables.specs.Schema.{no_schema}
use Rattle.store_tables.proofs.OneSchema.{sound_once}
use Rattle.store_tables.proofs.opening.knows_none.Goals as goal

pub returns : goal.returns
returns g c is_open none = sound_once _ no_schema _ (c.schema-schema.ensures.live is_open).0 (empty_is_sound _ none)
