-- The differences of two sheets: whole lists, and in which order.
use Rattle.std.specs.Prelude.{ℕ, Bool, not, nat_lt, List, [], ◌∷◌, ◌++◌, map, filter, take, drop, Option, Some, None}
use Rattle.std.specs.Prelude.{if◌then◌else◌}
use Rattle.std.specs.List.{flat_map, prefix_len}
use Rattle.dbc_words.specs.Named.{has_name, thing_named}
use Rattle.dbc_sheet.specs.Messages.{number_of}
use Rattle.dbc_sheet.specs.Sheet.{node_name, table_name}
use Rattle.dbc_sheet.specs.Signals.{signal_name}
use Rattle.dbc_sheet.specs.declared.message.Message.{Message}
use Rattle.dbc_sheet.specs.declared.node.Node.{Node}
use Rattle.dbc_sheet.specs.declared.sheet.Sheet.{Sheet}
use Rattle.dbc_sheet.specs.declared.signal.Signal.{Signal}
use Rattle.dbc_sheet.specs.declared.value_table.ValueTable.{ValueTable}
use Rattle.dbc_sheet.specs.Pairs.{partner}
use Rattle.dbc_compare.specs.Fields.{Valued, message_breaks, message_fields, node_fields, none_breaks, sheet_fields}
use Rattle.dbc_compare.specs.Fields.{signal_breaks, signal_fields, table_fields}
use Rattle.dbc_compare.specs.Value.{Value, same_names, same_value, value_text}
use Rattle.dbc_compare.specs.declared.difference.Alteration.{Alteration}
use Rattle.dbc_compare.specs.declared.difference.Alteration.TheVariants as change
use Rattle.dbc_compare.specs.declared.difference.Difference.{Difference}
use Rattle.dbc_compare.specs.declared.field.SheetField.{SheetField}
use Rattle.dbc_compare.specs.declared.place.Region.{Region}
use Rattle.dbc_compare.specs.declared.place.Region.TheVariants as place

-- ---- the changes of fields

-- of a field, whose change breaks a receiver or doesn't
unfoldable pub field_changes : SheetField → Bool → Value → Value → List Alteration
field_changes f breaks old new =
    if same_value old new then [] else change.Changed f breaks (value_text old) (value_text new) ∷ []

-- of each field in which the two differ
abbrev pub changes_between : (SheetField → Bool) → List Valued → List Valued → List Alteration
changes_between breaks [] new = []
changes_between breaks (o ∷ old) [] = []
changes_between breaks (o ∷ old) (n ∷ new) =
    field_changes o.0 (breaks o.0) o.1 n.1 ++ changes_between breaks old new

abbrev pub sheet_changes : Sheet → Sheet → List Alteration
sheet_changes old new = changes_between none_breaks (sheet_fields old) (sheet_fields new)

abbrev pub node_changes : Node → Node → List Alteration
node_changes old new = changes_between none_breaks (node_fields old) (node_fields new)

abbrev pub table_changes : ValueTable → ValueTable → List Alteration
table_changes old new = changes_between none_breaks (table_fields old) (table_fields new)

-- of a message itself
abbrev pub message_changes : Message → Message → List Alteration
message_changes old new = changes_between message_breaks (message_fields old) (message_fields new)

abbrev pub signal_changes : Signal → Signal → List Alteration
signal_changes old new = changes_between (signal_breaks old new) (signal_fields old) (signal_fields new)

-- ---- differences in one place

unfoldable pub differences_about : Region → Option (List ℕ) → List Alteration → List Difference
differences_about here name changes = map (λ c. record { place = here; name = name; change = c }) changes

-- a change that is there under a condition
abbrev pub change_if : Bool → Alteration → List Alteration
change_if b c = if b then c ∷ [] else []

-- ---- things that are known by name: nodes, value tables, the signals of a message

-- of a thing of the new list, since it was the one that was found
abbrev pub changes_since : {A : Type 0} → (A → A → List Alteration) → Option A → A → List Alteration
changes_since changes None x = change.Added ∷ []
changes_since changes (Some old) x = changes old x

-- the names of those that the other list has too, in order
abbrev pub kept_names : {A : Type 0} → (A → List ℕ) → List A → List A → List (List ℕ)
kept_names name things others = filter (has_name name others) (map name things)

abbrev pub are_reordered : {A : Type 0} → (A → List ℕ) → List A → List A → Bool
are_reordered name old new = not (same_names (kept_names name old new) (kept_names name new old))

abbrev pub shown_thing : {A : Type 0} → Region → (A → List ℕ) → (A → A → List Alteration) → List A → A
    → List Difference
shown_thing here name changes old x =
    differences_about here (Some (name x)) (changes_since changes (thing_named name old (name x)) x)

abbrev pub gone_thing : {A : Type 0} → Region → (A → List ℕ) → List A → A → List Difference
gone_thing here name new x =
    differences_about here (Some (name x)) (change_if (not (has_name name new (name x))) change.Removed)

-- those of the new list in its order, then those that are gone, then the order of those in both
unfoldable pub thing_differences : {A : Type 0} → Region → (A → List ℕ) → (A → A → List Alteration) → List A → List A
    → List Difference
thing_differences here name changes old new =
    flat_map (shown_thing here name changes old) new
    ++ (flat_map (gone_thing here name new) old
    ++ differences_about here None (change_if (are_reordered name old new) change.Reordered))

-- ---- messages

-- a message as it was and as it is
abbrev pub between : Message → Message → Region
between old new =
    place.Message (record { ident = old.ident; name = old.name }) (record { ident = new.ident; name = new.name })

-- of a message and its partner
unfoldable pub pair_differences : Message → Message → List Difference
pair_differences old new =
    differences_about (between old new) None (message_changes old new)
    ++ thing_differences (between old new) signal_name signal_changes old.signals new.signals

-- of a message of the new sheet
abbrev pub shown_message : Option Message → Message → List Difference
shown_message None m = differences_about (between m m) None (change.Added ∷ [])
shown_message (Some old) m = pair_differences old m

-- of a message of the old sheet
abbrev pub gone_message : Option Message → Message → List Difference
gone_message None m = differences_about (between m m) None (change.Removed ∷ [])
gone_message (Some new) m = []

-- how many of the first messages have numbers below this one
abbrev pub below : ℕ → List Message → ℕ
below n messages = prefix_len (λ m. nat_lt (number_of m) n) messages

-- by number: before each message of the new sheet those of the old one whose numbers are below it
abbrev pub by_numbers : (Message → List Difference) → (Message → List Difference) → List Message → List Message
    → List Difference
by_numbers gone shown old [] = flat_map gone old
by_numbers gone shown old (m ∷ new) =
    flat_map gone (take (below (number_of m) old) old)
    ++ (shown m ++ by_numbers gone shown (drop (below (number_of m) old) old) new)

abbrev pub message_differences : List Message → List Message → List Difference
message_differences old new =
    by_numbers (λ m. gone_message (partner new old m) m) (λ m. shown_message (partner old new m) m) old new

-- ---- the whole: the sheet itself, nodes, value tables, messages

abbrev pub sheet_differences : Sheet → Sheet → List Difference
sheet_differences old new =
    differences_about place.Sheet None (sheet_changes old new)

abbrev pub differences : Sheet → Sheet → List Difference
differences old new =
    sheet_differences old new
    ++ (thing_differences place.Nodes node_name node_changes old.nodes new.nodes
    ++ (thing_differences place.Tables table_name table_changes old.tables new.tables
    ++ message_differences old.messages new.messages))
