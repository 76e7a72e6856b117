-- The target at which a look is: the other way round than the routes and their parameters.
use Rattle.std.specs.Prelude.{◌≡◌, ℕ, ◌<◌, ◌^◌, false, List, ◌++◌, Some, ⊤, codes, decimal}
use Rattle.std.specs.Fmt.{digits}
use Rattle.dbc_words.specs.Name.{IsName}
use Rattle.office_types.specs.Overview.{of_all_teams, overview_word}
use Rattle.office_types.specs.PlainName.{IsPlainName}
use Rattle.office_types.specs.declared.look.Look.{Look}
use Rattle.office_types.specs.declared.look.Look.TheVariants as look
use Rattle.office_types.specs.declared.look.NetLook.{NetLook}
use Rattle.office_types.specs.declared.look.NetLook.TheVariants as of_net
use Rattle.office_types.specs.declared.sought.Sought.{Sought}
use Rattle.office_types.specs.declared.sought.Sought.TheVariants as sought
use Rattle.desk_head.specs.declared.endpoint.Showing.{Showing}
use Rattle.desk_head.specs.declared.endpoint.Showing.TheVariants as shown
use Rattle.desk_head.specs.declared.endpoint.Endpoint.TheVariants.{Shows}
use Rattle.desk_head.specs.Target.{endpoint_of}

-- ---- the target

-- a word that looks for this
abbrev pub word_of : Sought → List ℕ
word_of (sought.Name name) = name
word_of (sought.Hexadecimal n) = codes "0x" ++ digits 16 false n
word_of (sought.Decimal n) = decimal n
word_of (sought.Group n) = codes "pgn=" ++ decimal n
word_of (sought.Spn n) = codes "spn=" ++ decimal n

-- after the name of the network
abbrev pub part_of : NetLook → List ℕ
part_of (of_net.Overview o) = codes "/" ++ overview_word o
part_of (of_net.OfTeam o team) = codes "/teams/" ++ (team ++ (codes "/" ++ overview_word (of_all_teams o)))
part_of (of_net.Message name) = codes "/messages/" ++ (name ++ codes "/signals")
part_of (of_net.Node name) = codes "/nodes/" ++ name
part_of (of_net.Who wanted) = codes "/who/" ++ word_of wanted
part_of (of_net.Compare old new) = codes "/compare/" ++ (decimal old ++ (codes "/" ++ decimal new))

-- the target of a network, with what follows its name
abbrev pub net_target : List ℕ → List ℕ → List ℕ
net_target net part = codes "/nets/" ++ (net ++ part)

-- each look has a target, whatever its form
abbrev pub target_of : Look → List ℕ
target_of look.Nets = codes "/nets"
target_of (look.Table net) = codes "/nets/" ++ net
target_of (look.Live net) = net_target net (codes "/live")
target_of (look.Release net n) = net_target net (codes "/releases/" ++ decimal n)
target_of (look.Chart net message) = net_target net (codes "/messages/" ++ message)
target_of (look.Net net l form) = net_target net (part_of l)
target_of (look.Page net) = net_target net (codes "/page")
target_of (look.ReleasePage net n) = net_target net (codes "/releases/" ++ (decimal n ++ codes "/page"))
target_of (look.Requests team form) = codes "/requests/" ++ team

-- ---- what is there

abbrev pub net_showing : NetLook → Showing
net_showing (of_net.Overview o) = shown.Overview o
net_showing (of_net.OfTeam o team) = shown.OfTeam o
net_showing (of_net.Message name) = shown.Message
net_showing (of_net.Node name) = shown.Node
net_showing (of_net.Who wanted) = shown.Who
net_showing (of_net.Compare old new) = shown.Compare

-- what a target shows that names this look
abbrev pub showing_of : Look → Showing
showing_of look.Nets = shown.Nets
showing_of (look.Table net) = shown.Table
showing_of (look.Live net) = shown.Live
showing_of (look.Release net n) = shown.Release
showing_of (look.Chart net message) = shown.Chart
showing_of (look.Net net l form) = net_showing l
showing_of (look.Page net) = shown.Page
showing_of (look.ReleasePage net n) = shown.ReleasePage
showing_of (look.Requests team form) = shown.Requests

-- ---- looks, as their types keep them: names are names, and numbers have 32 bits

abbrev pub IsSought : Sought → Type 0
IsSought (sought.Name name) = IsName name
IsSought (sought.Hexadecimal n) = n < 2 ^ 32
IsSought (sought.Decimal n) = n < 2 ^ 32
IsSought (sought.Group n) = n < 2 ^ 32
IsSought (sought.Spn n) = n < 2 ^ 32

abbrev pub IsNetLook : NetLook → Type 0
IsNetLook (of_net.Overview o) = ⊤
IsNetLook (of_net.OfTeam o team) = IsPlainName team
IsNetLook (of_net.Message name) = IsName name
IsNetLook (of_net.Node name) = IsName name
IsNetLook (of_net.Who wanted) = IsSought wanted
IsNetLook (of_net.Compare old new) = (old < 2 ^ 32) × (new < 2 ^ 32)

abbrev pub IsLook : Look → Type 0
IsLook look.Nets = ⊤
IsLook (look.Table net) = IsPlainName net
IsLook (look.Live net) = IsPlainName net
IsLook (look.Release net n) = IsPlainName net × (n < 2 ^ 32)
IsLook (look.Chart net message) = IsPlainName net × IsName message
IsLook (look.Net net l form) = IsPlainName net × IsNetLook l
IsLook (look.Page net) = IsPlainName net
IsLook (look.ReleasePage net n) = IsPlainName net × (n < 2 ^ 32)
IsLook (look.Requests team form) = IsPlainName team

-- a law: what is at the target of a look shows it
abbrev pub TargetsLeadThere : Type 0
TargetsLeadThere = (l : Look) → IsLook l → endpoint_of (target_of l) ≡ Some (Shows (showing_of l))
