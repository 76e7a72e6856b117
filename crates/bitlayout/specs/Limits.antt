-- The limits of a layout.
use Rattle.std.specs.Prelude.{ℕ}

-- the greatest start of a signal, a bit position of 16 bits
abbrev pub start_limit : ℕ
start_limit = 65535

-- the greatest size of a signal, in bits
abbrev pub size_limit : ℕ
size_limit = 64
