-- A port of this machine.
use Rattle.std.specs.Prelude.{ℕ, List, Option, None}
use Rattle.std.specs.Option.{option_map}
use Rattle.std.specs.declared.net.tcp.TcpStream.{TcpStream}
use Rattle.desk.specs.Serving.{Ending}
use Rattle.desk.specs.declared.tcp_side.Timed.{Timed}

-- what its peers send, and how their connections end, is not stated
abbrev pub unknown_coming : Option (List (List ℕ))
unknown_coming = None

abbrev pub unknown_ended : Option (List Ending)
unknown_ended = None

-- the connection that a side reads or writes, if it can
abbrev pub stream_of : Option Timed → Option TcpStream
stream_of timed = option_map (λ t. t.stream) timed
