use Rattle.store_tables.proofs.OneSchema.{sound_once}
use Rattle.store_tables.proofs.opening.knows_tables.Goals as goal

pub returns : goal.returns
returns g c is_open schema sound = sound_once _ schema _ (c.schema-schema.ensures.live is_open).0 sound
