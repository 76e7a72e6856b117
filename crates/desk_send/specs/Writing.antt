-- What a writer answers, compared with its definition.
use Rattle.std.specs.Prelude.{◌≡◌, Option, Some, None, Result, Ok, Err, ⊤}
use Rattle.serde_json.specs.Data.{Members}
use Rattle.desk_send.specs.declared.unwritten.Unwritten.{Unwritten}
use Rattle.desk_send.specs.declared.unwritten.Unwritten.TheVariants.{NotUtf8, Memory}

-- what is seen of the value is what the definition gives, and it gives nothing where a text isn't UTF-8; out of memory
-- states nothing
abbrev pub Writes : {A B : Type 0} → (A → B) → Option B → Result A Unwritten → Type 0
Writes see found (Ok value) = found ≡ Some (see value)
Writes see found (Err NotUtf8) = found ≡ None
Writes see found (Err Memory) = ⊤

-- the same of a writer that adds members
abbrev pub Adds : {A : Type 0} → Option Members → Members → Result A Unwritten → Type 0
Adds found new (Ok value) = found ≡ Some new
Adds found new (Err NotUtf8) = found ≡ None
Adds found new (Err Memory) = ⊤
