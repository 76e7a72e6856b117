-- Worked examples, computed from the definitions.
use Rattle.store_changes.proofs.Common.{◌≡◌, [], ◌∷◌, pos, codes, None, Some, refl, Int, Text, Blob, Bundle, Counts}
use Rattle.store_changes.proofs.Common.{Number, Refused, Net, IsPermutation-refl, Answered}
use Rattle.dbc_sheet.specs.Sheet.{empty_sheet}
use Rattle.office_types.specs.declared.command.NetKind.TheVariants.{Can}
use Rattle.office_types.specs.declared.refusal.Refusal.TheVariants as no
use Rattle.office_types.specs.declared.reply.PartReply.TheVariants as part
use Rattle.office_types.specs.declared.state.Phase.TheVariants.{Draft}
use Rattle.office_rules.specs.Opening.{bare_net}
use Rattle.office_rules.specs.Profile.{Two}
use Rattle.std.proofs.lemmas.List.Sorted.{IsPermutation-to_front}
use Rattle.office_history.specs.declared.arrival.Answer.TheVariants as answer
use Rattle.office_rules.proofs.TeamCommand.{engine, takes}
use Rattle.store_changes.specs.Kept.{AreKept, AreKeptParts, kept_row, part_rows}
use Rattle.store_changes.specs.Writing.{next_number}

-- the row of a request for an identifier, which got 256
number_row : kept_row (codes "engine") (codes "a1") (codes "take E1") (Number 256)
    ≡ Text (codes "engine") ∷ Text (codes "a1") ∷ Blob (codes "take E1") ∷ Int (pos 1) ∷ Int (pos 256) ∷ Int (pos 0)
    ∷ Int (pos 0) ∷ []
number_row = refl

-- of an import with two new messages and one that was live
counts_row : kept_row (codes "engine") (codes "a2") (codes "import") (Counts 2 1)
    ≡ Text (codes "engine") ∷ Text (codes "a2") ∷ Blob (codes "import") ∷ Int (pos 3) ∷ Int (pos 2) ∷ Int (pos 1)
    ∷ Int (pos 0) ∷ []
counts_row = refl

-- of one whose file has fault 34 at offset 120
fault_row : kept_row (codes "engine") (codes "a3") (codes "import")
    (Refused (no.FileFault (record { fault = 34; at = 120 })))
    ≡ Text (codes "engine") ∷ Text (codes "a3") ∷ Blob (codes "import") ∷ Int (pos 5) ∷ Int (pos 58) ∷ Int (pos 34)
    ∷ Int (pos 120) ∷ []
fault_row = refl

abbrev requested : Answered
requested = record {
  profile = Two;
  team = engine;
  key = codes "a1";
  content = codes "take E1";
  command =
      (takes engine (codes "E1") None).command;
  answer = answer.Reply (Number 256);
}

-- a request that came twice has one row
repeat_kept : AreKept (requested ∷ requested ∷ []) (kept_row engine (codes "a1") (codes "take E1") (Number 256) ∷ [])
repeat_kept = record {
  found = kept_row engine (codes "a1") (codes "take E1") (Number 256) ∷ [];
  same =
      IsPermutation-refl _;
  each = ((Number 256, refl, refl), tt);
}

-- the rows of two keys are kept in either order
abbrev other : Answered
other = record requested { key = codes "a2" }

either_order : AreKept (requested ∷ other ∷ [])
    (kept_row engine (codes "a2") (codes "take E1") (Number 256) ∷ kept_row engine (codes "a1") (codes "take E1")
    (Number 256) ∷ [])
either_order = record {
  found = kept_row engine (codes "a1") (codes "take E1") (Number 256) ∷ kept_row engine (codes "a2") (codes "take E1")
      (Number 256) ∷ [];
  same = IsPermutation-to_front (kept_row engine (codes "a2") (codes "take E1") (Number 256) ∷ [])
      (kept_row engine (codes "a1") (codes "take E1") (Number 256));
  each = ((Number 256, refl, refl), ((Number 256, refl, refl), tt));
}

-- a bundle of two parts
bundle_row : kept_row (codes "engine") (codes "a4") (codes "bundle") (Bundle (part.Number 256 ∷ part.Start 0 ∷ []))
    ≡ Text (codes "engine") ∷ Text (codes "a4") ∷ Blob (codes "bundle") ∷ Int (pos 6) ∷ Int (pos 2) ∷ Int (pos 0)
    ∷ Int (pos 0) ∷ []
bundle_row = refl

bundle_parts : part_rows (codes "engine") (codes "a4") 1 (part.Number 256 ∷ part.Start 0 ∷ [])
    ≡ (Text (codes "engine") ∷ Text (codes "a4") ∷ Int (pos 1) ∷ Int (pos 1) ∷ Int (pos 256) ∷ Int (pos 0) ∷ [])
    ∷ (Text (codes "engine") ∷ Text (codes "a4") ∷ Int (pos 2) ∷ Int (pos 2) ∷ Int (pos 0) ∷ Int (pos 0) ∷ []) ∷ []
bundle_parts = refl

abbrev bundled : Answered
bundled = record requested { key = codes "a4"; answer = answer.Reply (Bundle (part.Number 256 ∷ part.Start 0 ∷ [])) }

-- other answers have no parts
parts_kept : AreKeptParts (requested ∷ bundled ∷ requested ∷ bundled ∷ [])
    (part_rows engine (codes "a4") 1 (part.Number 256 ∷ part.Start 0 ∷ []))
parts_kept = IsPermutation-refl _

first_release : next_number None ≡ 1
first_release = refl

abbrev truck : Net
truck = record (bare_net (codes "truck") (record { kind = Can; reviews = 0; phase = Draft; frame = empty_sheet }))
    { releases = empty_sheet ∷ empty_sheet ∷ [] }

third_release : next_number (Some truck) ≡ 3
third_release = refl
