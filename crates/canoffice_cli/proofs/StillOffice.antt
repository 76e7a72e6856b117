-- Offices on tables that are read between two arrivals.
use Rattle.canoffice_cli.proofs.Common.{Result, Ok, Err, refl, sym, ◌∙◌, arith, false≢true, Lost, Memory, Store}
use Rattle.sqlite_trees.specs.declared.store.Store.{Ghosts}
use Rattle.store.specs.Calls.{HoldsOnErr, HoldsOnOk, IsOfficeCall, KeepsStatistics}
use Rattle.store.specs.Office.{OfficeView}
use Rattle.store.specs.declared.lost.Lost.TheVariants.{NewerProfile, OlderProfile}
use Rattle.canoffice_cli.specs.Reasons.{StaysAnOffice}

-- nothing was read
pub untouched : {S : Type 0} (g : Ghosts S) (office : OfficeView S) → StaysAnOffice g office office
untouched g office = record {
  clean = omega arith;
  refused = λ failed. refl;
  held = λ clean h holding works. holding;
  held_open = λ clean h holding opened. holding;
  statistics = λ clean tables opened. record { same_schema = refl; statistics = refl };
}

-- a call of the office that changes nothing
pub still_office : {S X : Type 0} (g : Ghosts S) (old new : OfficeView S) (r : Result X Lost)
    → IsOfficeCall g old new r → HoldsOnOk g old.conn new.conn r → HoldsOnErr g old.conn new.conn r
    → KeepsStatistics g old.conn new.conn → StaysAnOffice g old new
still_office g old new (Ok found) call ok err statistics = record {
  clean = call.clean;
  refused = call.refused;
  held = λ clean h holding works. ok clean h holding;
  held_open = λ clean h holding opened. ok clean h holding;
  statistics = statistics;
}
still_office g old new (Err Memory) call ok err statistics = record {
  clean = call.clean;
  refused = call.refused;
  held = λ clean h holding works. err clean h holding (call.memory clean refl);
  held_open = λ clean h holding opened. err clean h holding opened;
  statistics = statistics;
}
still_office g old new (Err Store) call ok err statistics = record {
  clean = call.clean;
  refused = call.refused;
  held = λ clean h holding works. absurd (false≢true (sym works ∙ call.failed.1 refl));
  held_open = λ clean h holding opened. err clean h holding opened;
  statistics = statistics;
}
still_office g old new (Err NewerProfile) call ok err statistics = absurd (call.named.0 refl)
still_office g old new (Err OlderProfile) call ok err statistics = absurd (call.named.1 refl)
