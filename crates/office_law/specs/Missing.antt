-- Where no test of a command refuses, there is what the command goes on with: none of its other refusals ever comes.
use Rattle.std.specs.Prelude.{◌≡◌, true, ℕ, List, Option, None, is_some}
use Rattle.base.specs.Refusing.{Test, first_refusal}
use Rattle.bitlayout.specs.declared.place.Place.{Place}
use Rattle.dbc_sheet.specs.declared.sheet.Sheet.{Sheet}
use Rattle.office_types.specs.declared.book.SpnBook.{SpnBook}
use Rattle.office_types.specs.declared.command.TakeBits.{TakeBits}
use Rattle.office_types.specs.declared.command.TakeIdent.{TakeIdent}
use Rattle.office_types.specs.declared.command.TakePgn.{TakePgn}
use Rattle.office_types.specs.declared.command.TakeSpn.{TakeSpn}
use Rattle.office_types.specs.declared.refusal.Refusal.{Refusal}
use Rattle.office_types.specs.declared.state.LiveMessage.{LiveMessage}
use Rattle.office_types.specs.declared.state.Net.{Net}
use Rattle.office_rules.specs.Facts.{MessageFacts, NumberFacts}
use Rattle.office_rules.specs.Importing.{FileReading, Reading, file_tests}
use Rattle.office_rules.specs.Numbers.{group_given, number_given, take_ident_tests, take_pgn_tests}
use Rattle.office_rules.specs.Outcome.{on_net}
use Rattle.office_rules.specs.Signals.{on_message, spn_given, spn_tests, start_given, start_tests}

-- no test of the list refuses
abbrev pub Passes : List (Test Refusal) → Type 0
Passes tests = first_refusal tests ≡ None

pub record NothingIsMissing : Type 0 where
  pub net : (net : Option Net) (tests : Net → List (Test Refusal)) → Passes (on_net net tests) → is_some net ≡ true
  pub message : (team : List ℕ) (facts : MessageFacts) (tests : LiveMessage → List (Test Refusal))
      → Passes (on_message team facts tests) → is_some facts.found ≡ true
  pub ident : (team : List ℕ) (facts : NumberFacts) (c : TakeIdent) → Passes (take_ident_tests team facts c)
      → is_some (number_given team facts c) ≡ true
  pub group : (team : List ℕ) (facts : NumberFacts) (c : TakePgn) → Passes (take_pgn_tests team facts c)
      → is_some (group_given team facts c) ≡ true
  pub spn : (team name : List ℕ) (book : SpnBook) (c : TakeSpn) → Passes (spn_tests team name book c)
      → is_some (spn_given team name book c) ≡ true
  pub start : (places : List Place) (bytes : ℕ) (c : TakeBits) → Passes (start_tests places bytes c)
      → is_some (start_given places bytes c) ≡ true
  pub sheet : (team : List ℕ) (net : Net) (reading : FileReading) → Passes (file_tests team net reading) → (s : Sheet)
      × (reading ≡ Reading s)
