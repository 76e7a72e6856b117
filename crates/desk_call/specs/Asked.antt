-- What a target is read as that names a look.
use Rattle.std.specs.Prelude.{◌≡◌, ◌≤◌, ◌<◌, ◌^◌, ℕ, false, List, Some, codes, map, ⊤}
use Rattle.httparse.specs.Grammar.{RequestHead}
use Rattle.httparse.specs.Spans.{name_and_value}
use Rattle.office_types.specs.declared.look.Look.{Look}
use Rattle.office_types.specs.declared.look.Look.TheVariants as look
use Rattle.office_types.specs.Look.{formed}
use Rattle.office_types.specs.declared.look.NetLook.{NetLook}
use Rattle.office_types.specs.declared.look.NetLook.TheVariants as of_net
use Rattle.office_types.specs.declared.sought.Sought.{Sought}
use Rattle.office_types.specs.declared.sought.Sought.TheVariants as sought
use Rattle.office_rules.specs.Reviewing.{release_limit}
use Rattle.desk_head.specs.Asked.{IsLook, showing_of, target_of}
use Rattle.desk_call.specs.Call.{call_of, look_of, shows, wants_json}

-- ---- numbers that can be asked for

-- a parameter group and a suspect parameter number have at most 6 digits
abbrev pub CanBeSought : Sought → Type 0
CanBeSought (sought.Name name) = ⊤
CanBeSought (sought.Hexadecimal n) = ⊤
CanBeSought (sought.Decimal n) = ⊤
CanBeSought (sought.Group n) = n < 10 ^ 6
CanBeSought (sought.Spn n) = n < 10 ^ 6

abbrev pub CanBeAskedOfNet : NetLook → Type 0
CanBeAskedOfNet (of_net.Who wanted) = CanBeSought wanted
CanBeAskedOfNet l = ⊤

-- a release is one from 1 to the greatest
abbrev pub CanBeAsked : Look → Type 0
CanBeAsked (look.Release net n) = (1 ≤ n) × (n ≤ release_limit)
CanBeAsked (look.ReleasePage net n) = (1 ≤ n) × (n ≤ release_limit)
CanBeAsked (look.Net net l form) = CanBeAskedOfNet l
CanBeAsked l = ⊤

-- ---- a law

-- the headers of the request want the look in its form
abbrev pub AreOfForm : RequestHead → Look → Type 0
AreOfForm h l = formed (wants_json (map name_and_value h.fields)) l ≡ l

-- what is read at the target of a look, as lines, and what a GET of it requests, with headers that want its form, is
-- that look
pub record LooksComeBack : Type 0 where
  pub reads : (l : Look) → IsLook l → CanBeAsked l → look_of (showing_of l) (target_of l) ≡ Some (formed false l)
  pub gets : (h : RequestHead) (rest : List ℕ) (l : Look) → h.method ≡ codes "GET" → h.target ≡ target_of l
      → AreOfForm h l → IsLook l → CanBeAsked l → call_of h rest ≡ shows l
