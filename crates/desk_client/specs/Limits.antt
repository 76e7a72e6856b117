-- The limits of what is sent and received.
use Rattle.std.specs.Prelude.{ℕ}

-- the greatest length of a target, in bytes
abbrev pub target_limit : ℕ
target_limit = 8000

-- the greatest length of a response that is received, in bytes: 2 to the power of 30
abbrev pub response_limit : ℕ
response_limit = 1073741824
