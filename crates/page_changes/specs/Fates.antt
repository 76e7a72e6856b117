-- What has become of messages.
use Rattle.std.specs.Prelude.{ℕ, ◌==◌, Bool, true, false, List, [], ◌∷◌, Option, None, filter, if◌then◌else◌}
use Rattle.dbc_compare.specs.declared.difference.Alteration.{Alteration}
use Rattle.dbc_compare.specs.declared.difference.Alteration.TheVariants as change
use Rattle.dbc_compare.specs.declared.difference.Difference.{Difference}
use Rattle.page_parts.specs.declared.marks.State.{State}
use Rattle.page_parts.specs.declared.marks.State.TheVariants as state
use Rattle.page_changes.specs.Changes.{breaking_in}
use Rattle.page_changes.specs.declared.changes.Fate.{Fate}
use Rattle.page_changes.specs.declared.changes.Fate.TheVariants as fate

-- a message is new or gone by a difference of itself, and not of a signal
abbrev pub fate_by : Option (List ℕ) → Alteration → Fate
fate_by None change.Added = fate.Added
fate_by None change.Removed = fate.Removed
fate_by name c = fate.Changed

-- of a message that differs so
abbrev pub fate_in : List Difference → Fate
fate_in [] = fate.Changed
fate_in (d ∷ ds) = fate_by d.name d.change

abbrev pub same_fate : Fate → Fate → Bool
same_fate fate.Added fate.Added = true
same_fate fate.Removed fate.Removed = true
same_fate fate.Changed fate.Changed = true
same_fate a b = false

abbrev pub has_fate : Fate → List Difference → Bool
has_fate f ds = same_fate (fate_in ds) f

-- those of the messages that have met this fate
abbrev pub of_fate : Fate → List (List Difference) → List (List Difference)
of_fate f messages = filter (has_fate f) messages

-- what is said of a message that has met this fate, by so many differences that break a receiver
abbrev pub state_of : Fate → ℕ → State
state_of fate.Added breaking = state.New
state_of f breaking = if breaking == 0 then state.Changed else state.Breaking breaking

-- of a message that differs so, if it differs
abbrev pub state_in : List Difference → State
state_in [] = state.Same
state_in (d ∷ ds) = state_of (fate_in (d ∷ ds)) (breaking_in (d ∷ ds))
