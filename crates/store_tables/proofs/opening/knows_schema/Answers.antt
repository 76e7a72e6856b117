use Rattle.store_tables.proofs.Common.{sym, subst}
use Rattle.store_tables.specs.Schema.{IsCurrentSchema}
use Rattle.store_tables.proofs.OneSchema.{sound_once}
use Rattle.store_tables.proofs.opening.knows_schema.Goals as goal

pub returns : goal.returns
returns g c is_open office =
    let same = sound_once _ office.schema _ (c.schema-schema.ensures.live is_open).0 office.sound in
    record { schema = subst IsCurrentSchema (sym same) office.current; trees = office; listed = sym same }
