-- Ports of this machine that are listened on.
use Rattle.std.specs.Prelude.{◌≡◌, ◌⊎◌, ℕ, List, [], ◌∷◌, Option, None, Some, IfSome, ⊤}
use Rattle.std.specs.Net.Addr.{IsV4And, ipv4_octets}
use Rattle.std.specs.Net.Socket.{socket_ip, socket_port}
use Rattle.std.specs.declared.net.socket_addr.SocketAddr.{SocketAddr}
use Rattle.std.specs.declared.net.tcp.TcpStream.{TcpStream}

-- ---- where it is listened

-- the address is 127.0.0.1 with this port
abbrev pub IsLoopback : ℕ → SocketAddr → Type 0
IsLoopback port address =
    IsV4And (socket_ip address) (λ ip. ipv4_octets ip ≡ 127 ∷ 0 ∷ 0 ∷ 1 ∷ []) × (socket_port address ≡ port)

-- A socket was to have the wanted port, or any where 0 is wanted, and has this one. Its address, if it is known, is
-- 127.0.0.1 with it.
abbrev pub IsBoundAt : Option SocketAddr → ℕ → ℕ → Type 0
IsBoundAt known wanted port = IfSome known (IsLoopback port) × ((wanted ≡ 0) ⊎ (port ≡ wanted))

-- ---- which connections are taken

-- of the connections that come, if they are known, the first was taken, which is this one, and no other
abbrev pub IsTaken : Option (List TcpStream) → Option (List TcpStream) → TcpStream → Type 0
IsTaken None new stream = ⊤
IsTaken (Some coming) new stream = (left : List TcpStream) × (coming ≡ stream ∷ left) × (new ≡ Some left)

-- one connection was taken, and it is the one that is read, if that is read
abbrev pub TakesOne : Option (List TcpStream) → Option (List TcpStream) → Option TcpStream → Type 0
TakesOne old new read = (stream : TcpStream) × IsTaken old new stream × IfSome read (λ s. s ≡ stream)

-- none was taken, or one
abbrev pub TakesAtMostOne : Option (List TcpStream) → Option (List TcpStream) → Type 0
TakesAtMostOne old new = (new ≡ old) ⊎ ((stream : TcpStream) × IsTaken old new stream)
