-- How often names were counted.
use Rattle.std.specs.Prelude.{◌≡◌, ℕ, ◌+◌, ◌<◌, ◌^◌, Bool, List, unwrap_or, if◌then◌else◌}
use Rattle.std.specs.BTreeMap.{get}
use Rattle.base.specs.Keyed.{text_cmp}
use Rattle.dbc_words.specs.Named.{holds_name}
use Rattle.dbc_words.specs.declared.name_set.NameSet.{NameSet}
use Rattle.office_views.specs.declared.tally.Tally.{Tally}

abbrev pub times : Tally → List ℕ → ℕ
times tally n = unwrap_or (get text_cmp tally.counts n) 0

abbrev pub once : Bool → ℕ
once b = if b then 1 else 0

-- each name that wasn't seen can be counted
abbrev pub HasRoom : NameSet → Tally → Type 0
HasRoom seen tally = (n : List ℕ) → times tally n + 1 < 2 ^ 64 + once (holds_name seen n)

-- each name that is seen now and wasn't before was counted, and no other
abbrev pub CountsEach : NameSet → NameSet → Tally → Tally → Type 0
CountsEach seen sees old new =
    (n : List ℕ) → times new n + once (holds_name seen n) ≡ times old n + once (holds_name sees n)
