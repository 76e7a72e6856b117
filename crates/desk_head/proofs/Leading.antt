-- What is at the target of a look shows it.
use Rattle.std.proofs.Common.{◌≡◌, ℕ, List, [], ◌∷◌, ◌++◌, Some, true, codes, refl, arith}
use Rattle.std.specs.Fmt.{decimal}
use Rattle.std.specs.Option.{option_map}
use Rattle.matchit.specs.Router.{RouteOf}
use Rattle.matchit.specs.Rows.{RowsOf, param_token}
use Rattle.matchit.specs.Seek.{own, step, with_suffix}
use Rattle.matchit.proofs.OnLiterals.{matchit_on_literals}
use Rattle.office_types.specs.Overview.{of_all_teams, overview_word}
use Rattle.office_types.specs.PlainName.{IsPlainName}
use Rattle.office_types.specs.declared.overview.Overview.{Overview}
use Rattle.office_types.specs.declared.overview.Overview.TheVariants as overview
use Rattle.office_types.specs.declared.overview.TeamOverview.{TeamOverview}
use Rattle.office_types.specs.declared.overview.TeamOverview.TheVariants as of_team
use Rattle.office_types.specs.declared.look.Look.TheVariants as look
use Rattle.office_types.specs.declared.look.NetLook.{NetLook}
use Rattle.office_types.specs.declared.look.NetLook.TheVariants as of_net
use Rattle.desk_head.specs.Asked.{IsNetLook, TargetsLeadThere, net_showing, net_target, part_of, word_of}
use Rattle.desk_head.specs.Target.{endpoint_of, the_routes, with_route}
use Rattle.desk_head.specs.declared.endpoint.Endpoint.TheVariants.{Shows}
use Rattle.desk_head.specs.declared.endpoint.Showing.{Showing}
use Rattle.desk_head.specs.declared.endpoint.Showing.TheVariants as shown
use Rattle.desk_head.specs.declared.routes.Route.{Route}
use Rattle.desk_head.specs.declared.routes.Route.TheVariants as route
use Rattle.desk_head.proofs.Matching.{Finds, all_end, all_parameters, at_bytes, at_part, past_bytes, past_part}
use Rattle.desk_head.proofs.Matching.{some_slash, steps}
use Rattle.desk_head.proofs.TargetParts.{IsPart, decimal_part, name_part, plain_part, word_part}

abbrev value_of : RouteOf Route → Route
value_of r = r.value

abbrev Rows : Type 0
Rows = RowsOf (RouteOf Route)

-- the target matches the route that shows this
abbrev Leads : Showing → Rows → List ℕ → Type 0
Leads s rows target = Finds value_of (route.Shows s) rows target

abbrev EndsAs : Showing → Rows → Type 0
EndsAs s rows = option_map value_of (own rows) ≡ Some (route.Shows s)

leads_to : (s : Showing) (target : List ℕ) → Leads s the_routes target → endpoint_of target ≡ Some (Shows s)
unfolding endpoint_of
leads_to s target h = rw h refl

-- ---- a parameter, in rows that are known

-- rows that begin with a parameter, which is over at the end of its part
record Branch (rows : Rows) : Type 0 where
  begin : all_parameters rows ≡ true
  ends : all_end (step param_token rows) ≡ true

abbrev after_slash : Rows → Rows
after_slash rows = with_suffix (47 ∷ []) (step param_token rows)

goes_on : (s : Showing) (rows : Rows) (part rest : List ℕ) → IsPart part → Branch rows
    → some_slash (step param_token rows) ≡ true → Leads s (after_slash rows) (47 ∷ rest)
    → Leads s rows (part ++ (47 ∷ rest))
goes_on s rows [] rest is branch some h = absurd (omega (arith, is.some))
goes_on s rows (b ∷ part) rest is branch some h =
    past_part value_of (route.Shows s) b part rest rows is.seen branch.begin branch.ends some h

ends_there : (s : Showing) (rows : Rows) (part : List ℕ) → IsPart part → Branch rows
    → EndsAs s (step param_token rows) → Leads s rows part
ends_there s rows [] is branch h = absurd (omega (arith, is.some))
ends_there s rows (b ∷ part) is branch h =
    at_part value_of (route.Shows s) b part rows is.seen branch.begin branch.ends h

-- ---- the rows of networks

abbrev nets : Rows
nets = steps (codes "/nets/") the_routes

nets_branch : Branch nets
unfolding the_routes with_route matchit_on_literals
nets_branch = record { begin = refl; ends = refl }

nets_go_on : some_slash (step param_token nets) ≡ true
unfolding the_routes with_route matchit_on_literals
nets_go_on = refl

of_a_net : (s : Showing) (net rest : List ℕ) → IsPlainName net → Leads s (after_slash nets) (47 ∷ rest)
    → endpoint_of (net_target net (47 ∷ rest)) ≡ Some (Shows s)
of_a_net s net rest is h =
    leads_to s (net_target net (47 ∷ rest))
    (past_bytes value_of (route.Shows s) (codes "/nets/") (net ++ (47 ∷ rest)) the_routes
    (goes_on s nets net rest (plain_part net is) nets_branch nets_go_on h))

-- what ends a target after the network
abbrev EndsNet : Showing → List ℕ → Type 0
EndsNet s word = EndsAs s (steps word (after_slash nets))

ends_net : (s : Showing) (net word : List ℕ) → IsPlainName net → EndsNet s (47 ∷ word)
    → endpoint_of (net_target net (47 ∷ word)) ≡ Some (Shows s)
ends_net s net word is h =
    of_a_net s net word is (at_bytes value_of (route.Shows s) (47 ∷ word) (after_slash nets) h)

live_ends : EndsNet shown.Live (codes "/live")
unfolding the_routes with_route matchit_on_literals
live_ends = refl

page_ends : EndsNet shown.Page (codes "/page")
unfolding the_routes with_route matchit_on_literals
page_ends = refl

overview_ends : (o : Overview) → EndsNet (shown.Overview o) (codes "/" ++ overview_word o)
unfolding the_routes with_route matchit_on_literals
overview_ends overview.State = refl
overview_ends o = refl

-- ---- things of a network, by their names

-- the rows after a word
abbrev after_word : List ℕ → Rows
after_word word = steps word (after_slash nets)

a_thing : (s : Showing) (net word part : List ℕ) → IsPlainName net → IsPart part → Branch (after_word (47 ∷ word))
    → EndsAs s (step param_token (after_word (47 ∷ word)))
    → endpoint_of (net_target net ((47 ∷ word) ++ part)) ≡ Some (Shows s)
a_thing s net word part is part_is branch h =
    of_a_net s net (word ++ part) is
    (past_bytes value_of (route.Shows s) (47 ∷ word) part (after_slash nets)
    (ends_there s (after_word (47 ∷ word)) part part_is branch h))

-- with a word after the name
more_of_it : (s : Showing) (net word part more : List ℕ) → IsPlainName net → IsPart part
    → Branch (after_word (47 ∷ word)) → some_slash (step param_token (after_word (47 ∷ word))) ≡ true
    → EndsAs s (steps (47 ∷ more) (after_slash (after_word (47 ∷ word))))
    → endpoint_of (net_target net ((47 ∷ word) ++ (part ++ (47 ∷ more)))) ≡ Some (Shows s)
more_of_it s net word part more is part_is branch some h =
    let after = after_word (47 ∷ word) in
    of_a_net s net (word ++ (part ++ (47 ∷ more))) is
    (past_bytes value_of (route.Shows s) (47 ∷ word) (part ++ (47 ∷ more)) (after_slash nets)
    (goes_on s after part more part_is branch some
    (at_bytes value_of (route.Shows s) (47 ∷ more) (after_slash after) h)))

-- the rows after a word, a part and a slash
abbrev after_part : List ℕ → Rows
after_part word = steps (codes "/") (after_slash (after_word word))

-- two parts with a slash between them
two_things : (s : Showing) (net word part other : List ℕ) → IsPlainName net → IsPart part → IsPart other
    → Branch (after_word (47 ∷ word)) → some_slash (step param_token (after_word (47 ∷ word))) ≡ true
    → Branch (after_part (47 ∷ word)) → EndsAs s (step param_token (after_part (47 ∷ word)))
    → endpoint_of (net_target net ((47 ∷ word) ++ (part ++ (codes "/" ++ other)))) ≡ Some (Shows s)
two_things s net word part other is part_is other_is branch some later h =
    let after = after_word (47 ∷ word) in
    of_a_net s net (word ++ (part ++ (47 ∷ other))) is
    (past_bytes value_of (route.Shows s) (47 ∷ word) (part ++ (47 ∷ other)) (after_slash nets)
    (goes_on s after part other part_is branch some
    (past_bytes value_of (route.Shows s) (codes "/") other (after_slash after)
    (ends_there s (after_part (47 ∷ word)) other other_is later h))))

releases_branch : Branch (after_word (codes "/releases/"))
unfolding the_routes with_route matchit_on_literals
releases_branch = record { begin = refl; ends = refl }

messages_branch : Branch (after_word (codes "/messages/"))
unfolding the_routes with_route matchit_on_literals
messages_branch = record { begin = refl; ends = refl }

nodes_branch : Branch (after_word (codes "/nodes/"))
unfolding the_routes with_route matchit_on_literals
nodes_branch = record { begin = refl; ends = refl }

who_branch : Branch (after_word (codes "/who/"))
unfolding the_routes with_route matchit_on_literals
who_branch = record { begin = refl; ends = refl }

teams_branch : Branch (after_word (codes "/teams/"))
unfolding the_routes with_route matchit_on_literals
teams_branch = record { begin = refl; ends = refl }

compare_branch : Branch (after_word (codes "/compare/"))
unfolding the_routes with_route matchit_on_literals
compare_branch = record { begin = refl; ends = refl }

compare_later : Branch (after_part (codes "/compare/"))
unfolding the_routes with_route matchit_on_literals
compare_later = record { begin = refl; ends = refl }

releases_end : EndsAs shown.Release (step param_token (after_word (codes "/releases/")))
unfolding the_routes with_route matchit_on_literals
releases_end = refl

messages_end : EndsAs shown.Chart (step param_token (after_word (codes "/messages/")))
unfolding the_routes with_route matchit_on_literals
messages_end = refl

nodes_end : EndsAs shown.Node (step param_token (after_word (codes "/nodes/")))
unfolding the_routes with_route matchit_on_literals
nodes_end = refl

who_end : EndsAs shown.Who (step param_token (after_word (codes "/who/")))
unfolding the_routes with_route matchit_on_literals
who_end = refl

compare_end : EndsAs shown.Compare (step param_token (after_part (codes "/compare/")))
unfolding the_routes with_route matchit_on_literals
compare_end = refl

releases_go_on : some_slash (step param_token (after_word (codes "/releases/"))) ≡ true
unfolding the_routes with_route matchit_on_literals
releases_go_on = refl

messages_go_on : some_slash (step param_token (after_word (codes "/messages/"))) ≡ true
unfolding the_routes with_route matchit_on_literals
messages_go_on = refl

teams_go_on : some_slash (step param_token (after_word (codes "/teams/"))) ≡ true
unfolding the_routes with_route matchit_on_literals
teams_go_on = refl

compare_go_on : some_slash (step param_token (after_word (codes "/compare/"))) ≡ true
unfolding the_routes with_route matchit_on_literals
compare_go_on = refl

signals_end : EndsAs shown.Message (steps (codes "/signals") (after_slash (after_word (codes "/messages/"))))
unfolding the_routes with_route matchit_on_literals
signals_end = refl

release_page_end : EndsAs shown.ReleasePage (steps (codes "/page") (after_slash (after_word (codes "/releases/"))))
unfolding the_routes with_route matchit_on_literals
release_page_end = refl

of_team_ends : (o : TeamOverview) → EndsAs (shown.OfTeam o)
    (steps (codes "/" ++ overview_word (of_all_teams o)) (after_slash (after_word (codes "/teams/"))))
unfolding the_routes with_route matchit_on_literals
of_team_ends of_team.Blocks = refl
of_team_ends of_team.Messages = refl

-- ---- what isn't below a network

nets_end : EndsAs shown.Nets (steps (codes "/nets") the_routes)
unfolding the_routes with_route matchit_on_literals
nets_end = refl

table_ends : EndsAs shown.Table (step param_token nets)
unfolding the_routes with_route matchit_on_literals
table_ends = refl

abbrev requests : Rows
requests = steps (codes "/requests/") the_routes

requests_branch : Branch requests
unfolding the_routes with_route matchit_on_literals
requests_branch = record { begin = refl; ends = refl }

requests_end : EndsAs shown.Requests (step param_token requests)
unfolding the_routes with_route matchit_on_literals
requests_end = refl

a_table : (net : List ℕ) → IsPlainName net → endpoint_of (codes "/nets/" ++ net) ≡ Some (Shows shown.Table)
a_table net is =
    leads_to shown.Table (codes "/nets/" ++ net)
    (past_bytes value_of (route.Shows shown.Table) (codes "/nets/") net the_routes
    (ends_there shown.Table nets net (plain_part net is) nets_branch table_ends))

of_a_team : (team : List ℕ) → IsPlainName team → endpoint_of (codes "/requests/" ++ team)
    ≡ Some (Shows shown.Requests)
of_a_team team is =
    leads_to shown.Requests (codes "/requests/" ++ team)
    (past_bytes value_of (route.Shows shown.Requests) (codes "/requests/") team the_routes
    (ends_there shown.Requests requests team (plain_part team is) requests_branch requests_end))

-- ---- each look

in_a_net : (net : List ℕ) → IsPlainName net → (l : NetLook) → IsNetLook l
    → endpoint_of (net_target net (part_of l)) ≡ Some (Shows (net_showing l))
in_a_net net is (of_net.Overview o) h = ends_net (shown.Overview o) net (overview_word o) is (overview_ends o)
in_a_net net is (of_net.OfTeam o team) h =
    more_of_it (shown.OfTeam o) net (codes "teams/") team (overview_word (of_all_teams o)) is (plain_part team h)
    teams_branch teams_go_on (of_team_ends o)
in_a_net net is (of_net.Message name) h =
    more_of_it shown.Message net (codes "messages/") name (codes "signals") is (name_part name h) messages_branch
    messages_go_on signals_end
in_a_net net is (of_net.Node name) h =
    a_thing shown.Node net (codes "nodes/") name is (name_part name h) nodes_branch nodes_end
in_a_net net is (of_net.Who wanted) h =
    a_thing shown.Who net (codes "who/") (word_of wanted) is (word_part wanted h) who_branch who_end
in_a_net net is (of_net.Compare old new) h =
    two_things shown.Compare net (codes "compare/") (decimal old) (decimal new) is (decimal_part old h.0)
    (decimal_part new h.1) compare_branch compare_go_on compare_later compare_end

pub targets_lead_there : TargetsLeadThere
targets_lead_there look.Nets is =
    leads_to shown.Nets (codes "/nets") (at_bytes value_of (route.Shows shown.Nets) (codes "/nets") the_routes nets_end)
targets_lead_there (look.Table net) is = a_table net is
targets_lead_there (look.Live net) is = ends_net shown.Live net (codes "live") is live_ends
targets_lead_there (look.Release net n) is =
    a_thing shown.Release net (codes "releases/") (decimal n) is.0 (decimal_part n is.1) releases_branch releases_end
targets_lead_there (look.Chart net message) is =
    a_thing shown.Chart net (codes "messages/") message is.0 (name_part message is.1) messages_branch messages_end
targets_lead_there (look.Net net l form) is = in_a_net net is.0 l is.1
targets_lead_there (look.Page net) is = ends_net shown.Page net (codes "page") is page_ends
targets_lead_there (look.ReleasePage net n) is =
    more_of_it shown.ReleasePage net (codes "releases/") (decimal n) (codes "page") is.0 (decimal_part n is.1)
    releases_branch releases_go_on release_page_end
targets_lead_there (look.Requests team form) is = of_a_team team is
