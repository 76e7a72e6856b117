-- The limits of requests.
use Rattle.std.specs.Prelude.{ℕ, ◌+◌}

-- the greatest length of a head, in bytes
abbrev pub head_limit : ℕ
head_limit = 8192

-- the greatest number of headers
abbrev pub header_limit : ℕ
header_limit = 32

-- the greatest length of a body, in bytes
abbrev pub body_limit : ℕ
body_limit = 4194304

-- the greatest number of bytes that are read of a request
abbrev pub request_limit : ℕ
request_limit = head_limit + body_limit
