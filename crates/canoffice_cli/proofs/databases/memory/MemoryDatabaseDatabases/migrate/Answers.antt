use Rattle.canoffice_cli.proofs.Common.{Some}
use Rattle.canoffice_cli.specs.Databases.{known_of}
use Rattle.canoffice_cli.proofs.Opened.{closed_in_memory, migrated_at}
use Rattle.canoffice_cli.proofs.databases.memory.MemoryDatabaseDatabases.migrate.Goals as goal

pub returns : goal.returns
returns g c =
    let path = c.args._path.now in
    let end = c.migrate_on-done.result.1 in
    let migrated = c.migrate_on-done.ensures in
    let taken = c.in_ok-conn.ensures in
    migrated_at (known_of c.args.self.now.conn) (known_of (Some end)) path _ _
    (record {
      held = taken.held path;
      in_form = taken.in_form path;
      older = taken.older path;
      none = taken.none path;
      rows = taken.statistics path;
    })
    (closed_in_memory end path) c.migrate_on-done.result.0 migrated.carried migrated.left migrated.held migrated.made
    migrated.statistics migrated.statistics_new
