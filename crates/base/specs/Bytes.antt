-- Bytes as a value keeps them: a few in itself, and more in a block of memory.
use Rattle.std.specs.Prelude.{ℕ, ◌≤◌, List, take, ⊤}
use Rattle.base.specs.declared.bytes.Kept.{Kept}
use Rattle.base.specs.declared.bytes.Kept.TheVariants.{Few, Many}

abbrev pub bytes_in : Kept → List ℕ
bytes_in (Few len cells) = take len cells
bytes_in (Many bytes) = bytes.value.items

-- the value has room for so many
abbrev pub IsWithin : Kept → Type 0
IsWithin (Few len cells) = len ≤ 22
IsWithin (Many bytes) = ⊤
