-- What a command goes on with is there where no test refuses.
use Rattle.office_law.proofs.Common.{◌≡◌, true, false, ℕ, List, Option, Some, None, refl, sym, is_none, is_some}
use Rattle.office_law.proofs.Common.{false≢true, Place, Sheet, SpnBook, TakeBits, TakeIdent, TakeSpn, Net, NumberFacts}
use Rattle.office_law.proofs.Common.{FileReading, Reading, Unreadable, file_tests, number_given, take_ident_tests}
use Rattle.office_law.proofs.Common.{take_pgn_tests, want_tests, on_net, on_message, spn_given, spn_tests, start_given}
use Rattle.office_law.proofs.Common.{start_tests}
use Rattle.office_law.specs.Missing.{NothingIsMissing}
use Rattle.office_law.proofs.NoTestHolds.{NoneHolds, NoneHolds-from_none}
use Rattle.office_law.proofs.PassedTests.{group_passed, ident_passed}

there_from : {A : Type 0} (o : Option A) → is_none o ≡ false → is_some o ≡ true
there_from None h = absurd (false≢true (sym h))
there_from (Some x) h = refl

ident_there : (team : List ℕ) (facts : NumberFacts) (c : TakeIdent) (want : Option ℕ)
    → NoneHolds (want_tests team facts (record c { want = want }))
    → is_some (number_given team facts (record c { want = want })) ≡ true
ident_there team facts c (Some n) h = refl
ident_there team facts c None h = there_from _ h.0

spn_there : (team name : List ℕ) (book : SpnBook) (c : TakeSpn) (same : Option ℕ)
    → NoneHolds (spn_tests team name book (record c { same = same }))
    → is_some (spn_given team name book (record c { same = same })) ≡ true
spn_there team name book c (Some n) h = refl
spn_there team name book c None h = there_from _ h.1.0

start_there : (places : List Place) (bytes : ℕ) (c : TakeBits) (start : Option ℕ)
    → NoneHolds (start_tests places bytes (record c { start = start }))
    → is_some (start_given places bytes (record c { start = start })) ≡ true
start_there places bytes c (Some n) h = refl
start_there places bytes c None h = there_from _ h.0

sheet_there : (team : List ℕ) (net : Net) (reading : FileReading) → NoneHolds (file_tests team net reading)
    → (s : Sheet) × (reading ≡ Reading s)
sheet_there team net (Reading s) h = (s, refl)
sheet_there team net (Unreadable f) h = absurd (false≢true (sym h.0))

pub nothing_is_missing : NothingIsMissing
nothing_is_missing = record {
  net = λ net tests h. there_from net (NoneHolds-from_none (on_net net tests) h).0;
  message = λ team facts tests h. there_from facts.found (NoneHolds-from_none (on_message team facts tests) h).1.0;
  ident = λ team facts c h. ident_there team facts c c.want
      (ident_passed team facts c (NoneHolds-from_none (take_ident_tests team facts c) h)).want;
  group = λ team facts c h. there_from _
      (group_passed team facts c (NoneHolds-from_none (take_pgn_tests team facts c) h)).given;
  spn = λ team name book c h. spn_there team name book c c.same (NoneHolds-from_none (spn_tests team name book c) h);
  start = λ places bytes c h. start_there places bytes c c.start (NoneHolds-from_none (start_tests places bytes c) h);
  sheet = λ team net reading h. sheet_there team net reading (NoneHolds-from_none (file_tests team net reading) h);
}
