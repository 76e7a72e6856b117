use Rattle.canoffice_cli.proofs.Common.{◌≡◌, Bool, true, false, Option, refl, subst, Held, MemStore}
use Rattle.canoffice_cli.specs.Databases.{HoldsInSomeForm, known_of}
use Rattle.canoffice_cli.proofs.Opened.{no_office_is_new, some_form}
use Rattle.canoffice_cli.proofs.databases.memory.MemoryDatabase.is_new.Goals as goal

pub returns-in-Some-clause-no : goal.returns-in-Some-clause-no
returns-in-Some-clause-no c path h holds = by c.is_new.result refl
  where
    by : (b : Bool) → c.is_new.result ≡ b → c.is_new.result ≡ false
    by false is = is
    by true is =
        let holding = some_form h _
        (subst (λ (o : Option (Held MemStore)). HoldsInSomeForm (known_of o) path h) c.in-Some.is holds) in
        absurd (no_office_is_new h _ holding (c.knows_tables.ensures holding.is_open _ holding.keeps.2.sound)
        (c.is_new.ensures.0 is))
