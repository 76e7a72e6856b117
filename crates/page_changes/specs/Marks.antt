-- What a page says of each message of the live network.
use Rattle.std.specs.Prelude.{◌≡◌, ℕ, ◌==◌, not, Bool, List, [], length}
use Rattle.std.specs.List.{AllZip, filter_map}
use Rattle.dbc_compare.specs.declared.difference.Difference.{Difference}
use Rattle.dbc_sheet.specs.Messages.{number_of}
use Rattle.dbc_sheet.specs.declared.message.Message.{Message}
use Rattle.dbc_sheet.specs.declared.sheet.Sheet.{Sheet}
use Rattle.page_parts.specs.declared.marks.Mark.{Mark}
use Rattle.page_changes.specs.Changes.{change_at}
use Rattle.page_changes.specs.Fates.{fate_in, state_in}
use Rattle.page_changes.specs.Names.{ascending}
use Rattle.page_changes.specs.Releases.{releases_of}
use Rattle.page_changes.specs.declared.changes.Fate.{Fate}
use Rattle.page_changes.specs.declared.changes.Fate.TheVariants as fate

-- the names of the signals that differences are about
abbrev pub signals_in : List Difference → List (List ℕ)
signals_in ds = filter_map (λ (d : Difference). d.name) ds

abbrev pub changed_by : Fate → List Difference → List (List ℕ)
changed_by fate.Changed ds = ascending (signals_in ds)
changed_by f ds = []

-- the names of the signals that have changed, in ascending order; of a message that is new or gone none
abbrev pub changed_signals : List Difference → List (List ℕ)
changed_signals ds = changed_by (fate_in ds) ds

-- the mark of a message of this number that differs so: the releases that have it, what has become of it, and which
-- signals have changed
pub record IsMark (frozen : List Sheet) (n : ℕ) (ds : List Difference) (mark : Mark) : Type 0 where
  pub releases : mark.releases.items ≡ releases_of frozen n
  pub state : mark.state ≡ state_in ds
  pub signals : mark.signals ≡ changed_signals ds

-- a mark for each message, in their order
abbrev pub AreMarks : List Sheet → List (List Difference) → List Message → List Mark → Type 0
AreMarks releases changes messages marks =
    AllZip (λ m mark. IsMark releases (number_of m) (change_at changes (number_of m)) mark) messages marks

-- the sheet has a message
abbrev pub has_messages : Sheet → Bool
has_messages s = not (length s.messages == 0)
