use Rattle.canoffice_cli.proofs.Common.{Some, sym, ◌∙◌}
use Rattle.std.proofs.Common.{true≢false}
use Rattle.store.specs.Looking.{bytes_of}
use Rattle.canoffice_cli.specs.Databases.{known_of}
use Rattle.canoffice_cli.proofs.Opened.{closed_in_memory, looked, none_looked_up}
use Rattle.canoffice_cli.proofs.databases.memory.MemoryDatabaseDatabases.look.Goals as goal

pub returns-then-is_new : goal.returns-then-is_new
returns-then-is_new c =
    none_looked_up (known_of c.args.self.now.conn) c.args._path.now c.args.look.now
    (λ h holds. true≢false (sym c.if-is_new.true ∙ c.is_new.ensures.no c.args._path.now h holds))

pub returns : goal.returns
returns c =
    let path = c.args._path.now in
    let end = c.look_on-shown.result.1 in
    let look = c.look_on-shown.ensures in
    let taken = c.in_ok-conn.ensures in
    looked (known_of c.args.self.now.conn) (known_of (Some end)) path _ _
    (record {
      held = taken.held path;
      in_form = taken.in_form path;
      older = taken.older path;
      none = taken.none path;
      rows = taken.statistics path;
    })
    (closed_in_memory end path) bytes_of c.args.look.now c.look_on-shown.result.0
    (λ new. absurd (true≢false (sym (c.is_new.ensures.yes path new) ∙ c.if-is_new.false)))
    look.shown look.held look.kept look.left look.older look.statistics
