-- What a request is to the office: the ordered tests, on its head and on what follows the head.
use Rattle.std.specs.Prelude.{ℕ, nat_le, ◌&&◌, Bool, false, List, [], ◌∷◌, ◌++◌, length, map, take, codes, cond}
use Rattle.std.specs.Prelude.{Option, Some, None}
use Rattle.std.specs.Option.{option_map}
use Rattle.httparse.specs.Grammar.{RequestHead}
use Rattle.httparse.specs.Spans.{name_and_value}
use Rattle.base.specs.WholeNumber.{whole_of}
use Rattle.office_types.specs.declared.command.Command.{Command}
use Rattle.office_types.specs.declared.command.Task.TheVariants as task
use Rattle.office_rules.specs.Reviewing.{release_limit}
use Rattle.office_fields.specs.Given.{read_once}
use Rattle.office_fields.specs.Value.{◌>>=◌, name_of, plain_name_of, where_true}
use Rattle.office_history.specs.Key.{is_key}
use Rattle.office_history.specs.declared.arrival.Arrival.{Arrival}
use Rattle.desk_types.specs.declared.problem.Problem.{Problem}
use Rattle.desk_types.specs.declared.problem.Problem.TheVariants.{BadRequest, NotFound}
use Rattle.desk_head.specs.Demand.{demand_of}
use Rattle.desk_head.specs.Fields.{Headers, named, same_name}
use Rattle.desk_head.specs.Target.{first_parameter, second_parameter, third_parameter}
use Rattle.desk_head.specs.declared.demand.Demand.{Demand}
use Rattle.desk_head.specs.declared.demand.Demand.TheVariants as demand
use Rattle.desk_head.specs.declared.endpoint.Posting.{Posting}
use Rattle.desk_head.specs.declared.endpoint.Posting.TheVariants.{Act, Import, Bundle}
use Rattle.desk_head.specs.declared.endpoint.Showing.{Showing}
use Rattle.desk_head.specs.declared.endpoint.Showing.TheVariants as showing
use Rattle.desk_call.specs.Body.{command_in}
use Rattle.desk_call.specs.Bundle.{bundle_in}
use Rattle.desk_call.specs.declared.call.Call as declared
use Rattle.desk_call.specs.declared.call.Call.TheVariants as call
use Rattle.office_types.specs.declared.look.Look.{Look}
use Rattle.office_types.specs.declared.look.Look.TheVariants as look
use Rattle.office_types.specs.declared.look.LookForm.TheVariants.{Lines}
use Rattle.office_types.specs.declared.look.NetLook.{NetLook}
use Rattle.office_types.specs.declared.look.NetLook.TheVariants as of_net
use Rattle.office_types.specs.declared.overview.TeamOverview.{TeamOverview}
use Rattle.office_types.specs.Look.{formed}
use Rattle.office_types.specs.Sought.{sought_of}

-- an arrival, as contracts see it
pub record ArrivalSeen : Type 0 where
  pub team : List ℕ
  pub key : List ℕ
  pub content : List ℕ
  pub command : Command

pub data Requested : Type 0 where
  fails : Problem → Requested
  shows : Look → Requested
  arrives : ArrivalSeen → Requested

abbrev pub arrival_seen : Arrival → ArrivalSeen
arrival_seen a = record { team = a.team; key = a.key; content = a.request.content.items; command = a.request.command }

abbrev pub seen : declared.Call → Requested
seen (call.Fails problem) = fails problem
seen (call.Shows l) = shows l
seen (call.Arrives a) = arrives (arrival_seen a)

-- ---- what is to be shown

-- the number of a release
abbrev pub release_number : List ℕ → Option ℕ
release_number bytes = whole_of bytes >>= λ n. where_true (nat_le 1 n && nat_le n release_limit) (Some n)

abbrev pub net_in : List ℕ → Option (List ℕ)
net_in target = plain_name_of (first_parameter target)

abbrev pub release_in : List ℕ → Option Look
release_in target = net_in target >>= λ net. release_number (second_parameter target)
    >>= λ n. Some (look.Release net n)

abbrev pub release_page_in : List ℕ → Option Look
release_page_in target = net_in target >>= λ net. release_number (second_parameter target)
    >>= λ n. Some (look.ReleasePage net n)

abbrev pub chart_in : List ℕ → Option Look
chart_in target = net_in target >>= λ net. name_of (second_parameter target)
    >>= λ message. Some (look.Chart net message)

-- what is looked up of the network that a target names, as lines
abbrev pub net_look_in : List ℕ → NetLook → Option Look
net_look_in target l = option_map (λ net. look.Net net l Lines) (net_in target)

abbrev pub team_in : List ℕ → Option (List ℕ)
team_in target = plain_name_of (second_parameter target)

abbrev pub message_in : List ℕ → Option Look
message_in target = name_of (second_parameter target) >>= λ message. net_look_in target (of_net.Message message)

abbrev pub node_in : List ℕ → Option Look
node_in target = name_of (second_parameter target) >>= λ node. net_look_in target (of_net.Node node)

abbrev pub who_in : List ℕ → Option Look
who_in target = sought_of (second_parameter target) >>= λ sought. net_look_in target (of_net.Who sought)

-- two releases by their numbers, or 0 for the live sheet
abbrev pub compare_in : List ℕ → Option Look
compare_in target = whole_of (second_parameter target) >>= λ old. whole_of (third_parameter target)
    >>= λ new. net_look_in target (of_net.Compare old new)

abbrev pub of_team_in : List ℕ → TeamOverview → Option Look
of_team_in target o = team_in target >>= λ team. net_look_in target (of_net.OfTeam o team)

abbrev pub requests_in : List ℕ → Option Look
requests_in target = option_map (λ team. look.Requests team Lines) (plain_name_of (first_parameter target))

-- what a target shows, where its parameters have their forms: else there can be nothing there
abbrev pub look_of : Showing → List ℕ → Option Look
look_of showing.Nets target = Some look.Nets
look_of showing.Table target = option_map look.Table (net_in target)
look_of showing.Live target = option_map look.Live (net_in target)
look_of showing.Release target = release_in target
look_of showing.Chart target = chart_in target
look_of (showing.Overview o) target = net_look_in target (of_net.Overview o)
look_of (showing.OfTeam o) target = of_team_in target o
look_of showing.Message target = message_in target
look_of showing.Node target = node_in target
look_of showing.Who target = who_in target
look_of showing.Compare target = compare_in target
look_of showing.Page target = option_map look.Page (net_in target)
look_of showing.ReleasePage target = release_page_in target
look_of showing.Requests target = requests_in target

-- JSON is wanted: there is one header Accept, and it names that alone
abbrev pub json_by : List (List ℕ) → Bool
json_by [] = false
json_by (v ∷ []) = same_name v (codes "application/json")
json_by (v ∷ w ∷ values) = false

abbrev pub wants_json : Headers → Bool
wants_json headers = json_by (named (codes "accept") headers)

abbrev pub show_by : Option Look → Requested
show_by None = fails NotFound
show_by (Some l) = shows l

-- ---- what arrives

abbrev pub key_of : List ℕ → Option (List ℕ)
key_of bytes = where_true (is_key bytes) (Some bytes)

abbrev pub import_of : List ℕ → List ℕ → Option Command
import_of target body = option_map (λ net. record { net = net; task = task.Import body }) (net_in target)

abbrev pub bundle_of : List ℕ → List ℕ → Option Command
bundle_of target body = net_in target >>= λ net. option_map (λ parts. record { net = net; task = task.Bundle parts })
    (bundle_in body)

abbrev pub command_of : Posting → List ℕ → List ℕ → Option Command
command_of (Act k) target body = command_in k body
command_of Import target body = import_of target body
command_of Bundle target body = bundle_of target body

-- the bytes by which a repeat is recognized: the target, a space and the body
abbrev pub content_of : List ℕ → List ℕ → List ℕ
content_of target body = target ++ 32 ∷ body

-- an arrival, where the headers `Team` and `Request-Key` are there once and have their forms, and the body gives a
-- command
unfoldable pub arrival_of : Posting → List ℕ → Headers → List ℕ → Option ArrivalSeen
arrival_of p target headers body = do
  team ← read_once plain_name_of (named (codes "team") headers)
  key ← read_once key_of (named (codes "request-key") headers)
  command ← command_of p target body
  Some (record { team = team; key = key; content = content_of target body; command = command })

abbrev pub arrive_by : Option ArrivalSeen → Requested
arrive_by None = fails BadRequest
arrive_by (Some a) = arrives a

-- ---- all of it

abbrev pub call_by : Demand → List ℕ → Headers → List ℕ → Requested
call_by (demand.Fails problem) target headers rest = fails problem
call_by (demand.Shows s) target headers rest = show_by (option_map (formed (wants_json headers)) (look_of s target))
call_by (demand.Does p n) target headers rest =
    cond (nat_le n (length rest)) (arrive_by (arrival_of p target headers (take n rest))) (fails BadRequest)

-- What a request is that has this head, in bytes that go on with the rest. In order: what the head alone answers; a
-- body that ends too early; headers or a body that aren't of their forms; targets with nothing there.
unfoldable pub call_of : RequestHead → List ℕ → Requested
call_of h rest = call_by (demand_of h) h.target (map name_and_value h.fields) rest
