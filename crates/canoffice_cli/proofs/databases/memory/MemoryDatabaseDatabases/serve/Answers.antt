use Rattle.canoffice_cli.proofs.Common.{[], inr, refl, sym, subst, zero-le, append-nil}
use Rattle.canoffice_cli.specs.Databases.{known_of}
use Rattle.canoffice_cli.proofs.databases.memory.MemoryDatabaseDatabases.serve.Goals as goal

pub returns : goal.returns
returns c = record {
  goes_on = λ h holds sound.
      ([], zero-le, subst ((known_of c.args.self.now.conn).holds c.args._path.now) (sym (append-nil h)) holds);
  completed = λ h holds sound. inr holds;
  older = λ h holds sound. (refl, holds);
  made = λ new sound. inr new;
  statistics = λ begun sound rows has. has;
  unheard = λ is h holds sound. holds;
  unheard_left = λ is h holds sound. holds;
}
