-- What a reader answers, compared with what its definition finds.
use Rattle.std.specs.Prelude.{◌≡◌, Option, Some, None, Result, Ok, Err, ⊤}
use Rattle.office_fields.specs.declared.unread.Unread.{Unread}
use Rattle.office_fields.specs.declared.unread.Unread.TheVariants.{Wrong, Memory}

-- a value is the one that the definition finds, and wrong bytes have none; out of memory states nothing
abbrev pub ReadsField : {A : Type 0} → Option A → Result A Unread → Type 0
ReadsField found (Ok value) = found ≡ Some value
ReadsField found (Err Wrong) = found ≡ None
ReadsField found (Err Memory) = ⊤
