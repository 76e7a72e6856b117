-- Messages that differ where one has the number of one that is gone, computed: of A with number 1 and B with number 2,
-- A was removed, and B has number 1 now and a signal less.
use Rattle.page_changes.proofs.Common.{◌≡◌, true, ℕ, List, [], ◌∷◌, Some, None, map, refl, codes, Difference, Region}
use Rattle.can_id.specs.declared.ident.Ident.TheVariants.{Std}
use Rattle.dbc_compare.specs.declared.difference.Alteration.TheVariants as change
use Rattle.dbc_compare.specs.declared.field.SheetField.TheVariants as field
use Rattle.dbc_compare.specs.declared.place.Region.TheVariants as place
use Rattle.page_parts.specs.declared.marks.State.TheVariants as state
use Rattle.page_changes.specs.Changes.{change_at, messages_in, rank_of}
use Rattle.page_changes.specs.Fates.{fate_in, state_in}
use Rattle.page_changes.specs.Marks.{signals_in}
use Rattle.page_changes.specs.declared.changes.Fate.TheVariants as fate

abbrev in_message : List ℕ → ℕ → ℕ → Region
in_message name old new =
    place.Message (record { ident = Std old; name = name }) (record { ident = Std new; name = name })

abbrev renumbered : Difference
renumbered = record {
  place = in_message (codes "B") 2 1;
  name = None;
  change = change.Changed field.Number true (codes "2") (codes "1");
}

abbrev signal_gone : Difference
signal_gone = record { place = in_message (codes "B") 2 1; name = Some (codes "Speed"); change = change.Removed }

abbrev gone : Difference
gone = record { place = in_message (codes "A") 1 1; name = None; change = change.Removed }

abbrev all : List Difference
all = renumbered ∷ signal_gone ∷ gone ∷ []

-- a message isn't gone by a signal that is
row_ranks : map rank_of all ≡ 2 ∷ 2 ∷ 3 ∷ []
row_ranks = refl

-- they are two messages
row_messages : messages_in all ≡ (renumbered ∷ signal_gone ∷ []) ∷ (gone ∷ []) ∷ []
row_messages = refl

row_fates : map fate_in (messages_in all) ≡ fate.Changed ∷ fate.Removed ∷ []
row_fates = refl

-- the number is that of the one that is there: its mark says what differs of it
row_found : change_at (messages_in all) 1 ≡ renumbered ∷ signal_gone ∷ []
row_found = refl

row_state : state_in (change_at (messages_in all) 1) ≡ state.Breaking 2
row_state = refl

row_signals : signals_in (change_at (messages_in all) 1) ≡ codes "Speed" ∷ []
row_signals = refl

-- nothing has the number that it had, nor that of a message that is gone
row_none : change_at (messages_in all) 2 ≡ []
row_none = refl

row_gone : change_at (messages_in (gone ∷ [])) 1 ≡ []
row_gone = refl
