-- Which message of a sheet is which one of another, and how many messages differ.
use Rattle.std.specs.Prelude.{Bool, false, not, List, count_by, is_none, Option, Some, None, if◌then◌else◌}
use Rattle.dbc_words.specs.Named.{has_name, thing_named}
use Rattle.dbc_sheet.specs.Messages.{message_at, message_name, number_of}
use Rattle.dbc_sheet.specs.Same.{same_message}
use Rattle.dbc_sheet.specs.declared.message.Message.{Message}
use Rattle.dbc_sheet.specs.declared.counts.Counts.{Counts}

-- the message, if none of the others has its name
abbrev pub if_new_name : List Message → Option Message → Option Message
if_new_name others None = None
if_new_name others (Some p) = if has_name message_name others p.name then None else Some p

-- the one, or else the other
abbrev pub or_else : Option Message → Option Message → Option Message
or_else None later = later
or_else (Some p) later = Some p

-- The partner of a message of `others` among the messages: the one of its name; else, where neither name is in the
-- other sheet, the one of its number.
abbrev pub partner : List Message → List Message → Message → Option Message
partner messages others m =
    or_else (thing_named message_name messages m.name) (if_new_name others (message_at messages (number_of m)))

-- it has a partner that isn't equal to it
abbrev pub has_changed : Option Message → Message → Bool
has_changed None m = false
has_changed (Some p) m = not (same_message p m)

-- how many messages of the newer sheet have no partner in the older one, how many of the older one have none in the
-- newer, and how many aren't equal to their partners
abbrev pub counts_of : List Message → List Message → Counts
counts_of old new = record {
  added = count_by (λ m. is_none (partner old new m)) new;
  removed = count_by (λ m. is_none (partner new old m)) old;
  changed = count_by (λ m. has_changed (partner old new m) m) new;
}
