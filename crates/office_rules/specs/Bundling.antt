-- Bundles: their parts are carried out in order, all of them or none.
use Rattle.std.specs.Prelude.{ℕ, List, ◌∷◌, ◌++◌, Option, Some, None}
use Rattle.office_types.specs.Refusal.{refusal_number}
use Rattle.office_types.specs.Reply.{part_reply}
use Rattle.office_types.specs.declared.refusal.FileFault.{FileFault}
use Rattle.office_types.specs.declared.refusal.Refusal.{Refusal}
use Rattle.office_types.specs.declared.refusal.Refusal.TheVariants as no
use Rattle.office_types.specs.declared.reply.PartReply.{PartReply}
use Rattle.office_types.specs.declared.reply.Reply.{Reply}
use Rattle.office_types.specs.declared.reply.Reply.TheVariants.{Bundle}
use Rattle.office_types.specs.declared.state.Net.{Net}
use Rattle.office_rules.specs.Outcome.{Entries, Outcome, Refusing, Changing}

-- The outcome of the parts: the first that is refused, with its number; or, where none is, all their replies, the
-- network after the last of them, and what they enter into the book.
pub data PartsOutcome : Type 0 where
  RefusedAt : ℕ → Refusal → PartsOutcome
  AllDone : List PartReply → Option Net → Entries → PartsOutcome

abbrev pub both_entries : Entries → Entries → Entries
both_entries e f = record { blocks = e.blocks ++ f.blocks; numbers = e.numbers ++ f.numbers }

-- a part that is carried out, before the others
abbrev pub with_part : Reply → Entries → PartsOutcome → PartsOutcome
with_part r e (RefusedAt number refusal) = RefusedAt number refusal
with_part r e (AllDone replies net f) = AllDone (part_reply r ∷ replies) net (both_entries e f)

-- the part of this number, and then the others
abbrev pub part_then : ℕ → Outcome → (Net → Entries → PartsOutcome) → PartsOutcome
part_then number (Refusing r) others = RefusedAt number r
part_then number (Changing r net e) others = with_part r e (others net e)

abbrev pub refused_part : ℕ → Refusal → FileFault
refused_part number r = record { fault = refusal_number r; at = number }

-- The bundle is refused with its first refused part. A bundle has a part, so after all of them its network is there:
-- the last case never comes.
abbrev pub bundle_outcome : PartsOutcome → Outcome
bundle_outcome (RefusedAt number r) = Refusing (no.BundleRefused (refused_part number r))
bundle_outcome (AllDone replies (Some net) e) = Changing (Bundle replies) net e
bundle_outcome (AllDone replies None e) = Refusing no.NoNet
