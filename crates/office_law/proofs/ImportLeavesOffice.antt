-- An import leaves its network and the book as they have to be.
use Rattle.office_law.proofs.Common.{◌≡◌, ℕ, true, false, List, [], ◌∷◌, ◌++◌, Option, Some, None, refl, sym, not}
use Rattle.office_law.proofs.Common.{flat_map, false≢true, All-filter, All-nil, All-weaker, first_clash_of, Clash}
use Rattle.office_law.proofs.Common.{clear_from_none, IsMessage, IsSheet, IsClearMessage, places_of, Message, Sheet}
use Rattle.office_law.proofs.Common.{SpnBook, Reply, Net, in_review, is_live, FileReading, Reading, Unreadable}
use Rattle.office_law.proofs.Common.{file_imported, import_tests, file_tests, import, new_messages, spns_entered}
use Rattle.office_law.proofs.Common.{clear_tests, is_too_large, message_import_tests, imported, Entries, given_or, when}
use Rattle.office_types.specs.declared.refusal.Refusal.TheVariants as no
use Rattle.office_rules.specs.Importing.{reported_clash}
use Rattle.office_law.proofs.KeptBook.{IsBook-used}
use Rattle.office_law.proofs.KeptEntered.{IsEntered-imported, are_spns}
use Rattle.office_law.proofs.KeptImport.{IsNet-imported}
use Rattle.office_law.proofs.NoTestHolds.{leaves_unless, NoneHolds, NoneHolds-append, each_passed}
use Rattle.office_law.proofs.ChangesByTests.{CanImport}
use Rattle.office_law.proofs.WhatCommandsLeave.{Allowed, Goes, IsWellLeft}

-- the sheet of a reading is a sheet
abbrev pub IsReadingSheet : FileReading → Type 0
IsReadingSheet (Reading s) = IsSheet s
IsReadingSheet (Unreadable f) = Unit {0}

module _ (team name : List ℕ) (book : SpnBook) (net : Net) where
  abbrev way : Type 0 → Reply → Net → Entries → Type 0
  way inside r n e = Allowed team name book net inside → IsWellLeft name book n e

  clear_one : (m : Message) → NoneHolds (clear_tests m) → IsClearMessage m
  clear_one m h = by_clash (first_clash_of (places_of m.signals) m.length) refl h
    where
      by_clash : (o : Option Clash) → first_clash_of (places_of m.signals) m.length ≡ o
          → NoneHolds (elim o [ Some clash ↦ when true (no.FileFault (reported_clash m clash)) ∷ [] | None ↦ [] ])
          → IsClearMessage m
      by_clash None e k = clear_from_none (places_of m.signals) m.length e
      by_clash (Some clash) e k = absurd (false≢true (sym k.0))

  -- a reading is looked at in draft alone
  abbrev pub IsReadInDraft : FileReading → Type 0
  IsReadInDraft reading = in_review net.head.phase ≡ false → IsReadingSheet reading

  imported_well : (s : Sheet) → {inside : Type 0} → Allowed team name book net inside → CanImport team net s
      → IsWellLeft name book (imported team net s) (spns_entered net s)
  imported_well s ok can = record {
    net = IsNet-imported team net s ok.net_is can;
    named = ok.named;
    book_is = IsBook-used book (spns_entered net s).numbers ok.book_is (are_spns (new_messages net s.messages)
        (All-filter (λ m. not (is_live net m.ident)) IsMessage s.messages can.sheet.messages));
    numbers = IsEntered-imported book.used team net s ok.numbers;
    home = All-nil (λ b. b.net ≡ name);
  }

  goes_file : (reading : FileReading) → in_review net.head.phase ≡ false → NoneHolds (file_tests team net reading)
      → Goes team name book net (IsReadInDraft reading) (file_imported team net reading)
  goes_file (Unreadable f) draft h = tt
  goes_file (Reading s) draft h =
      let parts = NoneHolds-append
      (flat_map clear_tests s.messages ++ flat_map (message_import_tests team net) s.messages)
      (when (is_too_large net s) no.TooMany ∷ []) h in
      let each = NoneHolds-append (flat_map clear_tests s.messages)
      (flat_map (message_import_tests team net) s.messages) parts.0 in
      λ ok. imported_well s ok (record {
        sheet = ok.fields draft;
        clear = All-weaker (λ m. NoneHolds (clear_tests m)) IsClearMessage clear_one s.messages
            (each_passed clear_tests s.messages each.0);
        owner = ok.team_is;
        each = each_passed (message_import_tests team net) s.messages each.1;
        fits = parts.1.0;
      })

  pub goes_import : (reading : FileReading)
      → Goes team name book net (IsReadInDraft reading) (import team (Some net) reading)
  goes_import reading =
      leaves_unless (way (IsReadInDraft reading)) (import_tests team (Some net) reading)
      (given_or no.NoNet (Some net) (λ n. file_imported team n reading))
      (λ free. goes_file reading free.1.0 free.1.1)
