-- What is known by what is kept of a network.
use Rattle.std.specs.Prelude.{Some, None}
use Rattle.store_looks.specs.Seen.{Known}
use Rattle.store_looks.specs.declared.remembered.Kept.{Kept}
use Rattle.store_looks.specs.declared.remembered.Kept.TheVariants as kept

-- all of the network, until something may have changed
abbrev pub known_of : Kept → Known
known_of (kept.Known known) = Some known
known_of _ = None
