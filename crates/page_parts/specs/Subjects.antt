-- What a page is of.
use Rattle.std.specs.Prelude.{ℕ, List, [], map, slice_get, unwrap_or}
use Rattle.dbc_sheet.specs.declared.message.Message.{Message}
use Rattle.page_parts.specs.declared.subject.Subject.{Subject}

abbrev pub messages_of : Subject → List Message
messages_of subject = subject.sheet.now.messages

-- whose each message is
abbrev pub owners_of : Subject → List (List ℕ)
owners_of subject = map (λ owner. owner.now) subject.owners.now

-- whose the message at an index is; without bytes where that isn't known
abbrev pub owner_at : Subject → ℕ → List ℕ
owner_at subject i = unwrap_or (slice_get (owners_of subject) i) []

-- the names that have letters
abbrev pub names_of : Subject → List (List ℕ)
names_of subject = subject.letters.now
