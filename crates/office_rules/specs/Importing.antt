-- Importing a file: its new messages are added, unless one of its messages is refused.
use Rattle.std.specs.Prelude.{ℕ, ◌+◌, Bool, true, not, ◌||◌, ◌==◌, nat_lt, List, [], ◌∷◌, ◌++◌, map, filter, length}
use Rattle.std.specs.Prelude.{Option, Some, None, if◌then◌else◌}
use Rattle.std.specs.List.{list_any, flat_map}
use Rattle.base.specs.Refusing.{Test}
use Rattle.bitlayout.specs.Clash.{first_clash_of}
use Rattle.bitlayout.specs.declared.clash.Clash.{Clash}
use Rattle.can_id.specs.J1939.{fields_of, pgn_of}
use Rattle.can_id.specs.declared.ident.Ident.{Ident}
use Rattle.can_id.specs.declared.ident.Ident.TheVariants as id
use Rattle.dbc_words.specs.Fault.{clash_code, code_number}
use Rattle.dbc_words.specs.Limits.{message_limit, node_limit, table_limit}
use Rattle.dbc_words.specs.Named.{has_name}
use Rattle.dbc_sheet.specs.Messages.{number_of}
use Rattle.dbc_sheet.specs.Same.{same_message}
use Rattle.dbc_sheet.specs.Sheet.{node_name, table_name}
use Rattle.dbc_sheet.specs.Signals.{places_of}
use Rattle.dbc_sheet.specs.declared.message.Message.{Message}
use Rattle.dbc_sheet.specs.declared.sheet.Sheet.{Sheet}
use Rattle.office_types.specs.PlainName.{is_office}
use Rattle.office_types.specs.State.{by_number}
use Rattle.office_types.specs.declared.block.BlockForm.TheVariants.{Std, Ext, Pgn}
use Rattle.office_types.specs.declared.refusal.FileFault.{FileFault}
use Rattle.office_types.specs.declared.refusal.Refusal.{Refusal}
use Rattle.office_types.specs.declared.refusal.Refusal.TheVariants as no
use Rattle.office_types.specs.declared.reply.Reply.TheVariants.{Counts}
use Rattle.office_types.specs.declared.state.LiveMessage.{LiveMessage}
use Rattle.office_types.specs.declared.state.Net.{Net}
use Rattle.office_rules.specs.Facts.{is_live, is_held, is_named, blocks_of, in_review, lies_in}
use Rattle.office_rules.specs.Lists.{put_all}
use Rattle.office_rules.specs.Outcome.{Entries, no_entries, Outcome, Refusing, Changing, when, on_net, unless, given_or}

-- What the bytes of a file are: a sheet, or a fault where they read as none.
pub data FileReading : Type 0 where
  Reading : Sheet → FileReading
  Unreadable : FileFault → FileReading

-- The sheet must be clear: the first message that isn't is reported, by its number, with the code of its first clash.

abbrev pub reported_clash : Message → Clash → FileFault
reported_clash m clash = record { fault = code_number (clash_code clash); at = number_of m }

abbrev pub clear_tests : Message → List (Test Refusal)
clear_tests m = elim (first_clash_of (places_of m.signals) m.length) [
  | Some clash ↦ when true (no.FileFault (reported_clash m clash)) ∷ []
  | None ↦ []
]

-- Each message of the file is live already, and equal to the live one; or it is new, and then its number isn't held,
-- its name isn't live, and the team may bring the number.

abbrev pub is_live_so : Net → Message → Bool
is_live_so net m = list_any (λ l. same_message l.message m) net.live

-- the office may bring any number; another team one of its blocks, or of a parameter group of its blocks
abbrev pub may_bring : List ℕ → Net → Ident → Bool
may_bring team net (id.Std n) = is_office team || lies_in n (blocks_of net.blocks team Std)
may_bring team net (id.Ext n) =
    is_office team || (lies_in n (blocks_of net.blocks team Ext) || lies_in (pgn_of (fields_of n))
    (blocks_of net.blocks team Pgn))

abbrev pub message_import_tests : List ℕ → Net → Message → List (Test Refusal)
message_import_tests team net m =
    if is_live net m.ident then when (not (is_live_so net m)) no.IdentTaken ∷ []
    else when (is_held net m.ident) no.Held
    ∷ when (is_named net m.name) no.NameTaken
    ∷ when (not (may_bring team net m.ident)) no.OutsideBlock ∷ []

-- What the import leaves.

abbrev pub new_messages : Net → List Message → List Message
new_messages net messages = filter (λ m. not (is_live net m.ident)) messages

abbrev pub live_already : Net → List Message → List Message
live_already net messages = filter (λ m. is_live net m.ident) messages

abbrev pub owned_by : List ℕ → Message → LiveMessage
owned_by team m = record { message = m; owner = team }

-- the first text that isn't empty
abbrev pub or_else : List ℕ → List ℕ → List ℕ
or_else [] b = b
or_else (x ∷ a) b = x ∷ a

-- those of the file that have new names
abbrev pub new_named : {A : Type 0} → (A → List ℕ) → List A → List A → List A
new_named name things file = filter (λ a. not (has_name name things (name a))) file

-- the frame, with the file's nodes and tables of new names last, and with its texts where the frame has none
abbrev pub widened : Sheet → Sheet → Sheet
widened frame s = record frame {
  version = or_else frame.version s.version;
  comment = or_else frame.comment s.comment;
  nodes = frame.nodes ++ new_named node_name frame.nodes s.nodes;
  tables = frame.tables ++ new_named table_name frame.tables s.tables;
}

abbrev pub with_messages : Net → List LiveMessage → Net
with_messages net ms = record net { live = put_all by_number ms net.live }

abbrev pub with_frame : Net → Sheet → Net
with_frame net frame = record net { head = record net.head { frame = frame } }

abbrev pub imported : List ℕ → Net → Sheet → Net
imported team net s =
    with_messages (with_frame net (widened net.head.frame s)) (map (owned_by team) (new_messages net s.messages))

-- the suspect parameter numbers of messages, without 0, which is none
abbrev pub spns_of : List Message → List ℕ
spns_of ms = filter (λ n. not (n == 0)) (flat_map (λ m. map (λ s. s.spn) m.signals) ms)

abbrev pub spns_entered : Net → Sheet → Entries
spns_entered net s = record no_entries { numbers = spns_of (new_messages net s.messages) }

-- a limit of a sheet would be passed
abbrev pub is_too_large : Net → Sheet → Bool
is_too_large net s =
    nat_lt message_limit (length net.live + length (new_messages net s.messages))
    || (nat_lt node_limit (length net.head.frame.nodes + length (new_named node_name net.head.frame.nodes s.nodes))
    || nat_lt table_limit (length net.head.frame.tables + length (new_named table_name net.head.frame.tables s.tables)))

abbrev pub sheet_import_tests : List ℕ → Net → Sheet → List (Test Refusal)
sheet_import_tests team net s =
    flat_map clear_tests s.messages
    ++ flat_map (message_import_tests team net) s.messages
    ++ when (is_too_large net s) no.TooMany ∷ []

abbrev pub file_tests : List ℕ → Net → FileReading → List (Test Refusal)
file_tests team net (Reading s) = sheet_import_tests team net s
file_tests team net (Unreadable f) = when true (no.FileFault f) ∷ []

abbrev pub import_tests : List ℕ → Option Net → FileReading → List (Test Refusal)
import_tests team net reading =
    on_net net (λ n. when (in_review n.head.phase) no.InReview ∷ file_tests team n reading)

abbrev pub import_sheet : List ℕ → Net → Sheet → Outcome
import_sheet team net s =
    Changing
    (Counts (length (new_messages net s.messages)) (length (live_already net s.messages)))
    (imported team net s)
    (spns_entered net s)

-- what a file results in that no test refuses
abbrev pub file_imported : List ℕ → Net → FileReading → Outcome
file_imported team net (Reading s) = import_sheet team net s
file_imported team net (Unreadable f) = Refusing (no.FileFault f)

abbrev pub import : List ℕ → Option Net → FileReading → Outcome
import team net reading =
    unless (import_tests team net reading) (given_or no.NoNet net (λ n. file_imported team n reading))
