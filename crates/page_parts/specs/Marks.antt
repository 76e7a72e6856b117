-- What has become of messages since the last release.
use Rattle.std.specs.Prelude.{ℕ, Bool, false, List, Option, Some, None, slice_get}
use Rattle.page_parts.specs.Names.{has_name}
use Rattle.page_parts.specs.declared.marks.Mark.{Mark}
use Rattle.page_parts.specs.declared.marks.Marks.{Marks}
use Rattle.page_parts.specs.declared.marks.State.{State}
use Rattle.page_parts.specs.declared.marks.State.TheVariants.{Same}

-- the mark of the message at an index, if there is one
abbrev pub mark_at : Marks → ℕ → Option Mark
mark_at marks i = slice_get marks.marks.items i

abbrev pub state_of : Option Mark → State
state_of None = Same
state_of (Some mark) = mark.state

-- what has become of the message at an index
abbrev pub state_at : Marks → ℕ → State
state_at marks i = state_of (mark_at marks i)

abbrev pub is_marked : Option Mark → List ℕ → Bool
is_marked None name = false
is_marked (Some mark) name = has_name mark.signals name

-- the signal of this name of the message at an index has changed
abbrev pub has_changed : Marks → ℕ → List ℕ → Bool
has_changed marks i name = is_marked (mark_at marks i) name
