-- What is at a target: the routes, and the parts of a target.
use Rattle.std.specs.Prelude.{ℕ, List, [], ◌∷◌, Option, Some, None, Result, Ok, Err, codes}
use Rattle.std.specs.Option.{option_and_then, option_map}
use Rattle.matchit.specs.Order.{placed}
use Rattle.matchit.specs.Route.{Scan, parse_route}
use Rattle.matchit.specs.Router.{RouteOf, route_from}
use Rattle.matchit.specs.Rows.{RowsOf}
use Rattle.matchit.specs.Seek.{first}
use Rattle.matchit.specs.declared.error.InsertError.{InsertError}
use Rattle.base.specs.Split.{split_once}
use Rattle.office_fields.specs.Kind.{kind_of_word}
use Rattle.office_fields.specs.declared.kind.CommandKind.{CommandKind}
use Rattle.office_fields.specs.declared.kind.CommandKind.TheVariants as command
use Rattle.office_types.specs.Overview.{overview_path}
use Rattle.office_types.specs.declared.overview.Overview.{Overview}
use Rattle.office_types.specs.declared.overview.TeamOverview.TheVariants as of_team
use Rattle.office_types.specs.declared.overview.TheConstants.{OVERVIEWS}
use Rattle.desk_head.specs.declared.endpoint.Endpoint.{Endpoint}
use Rattle.desk_head.specs.declared.endpoint.Endpoint.TheVariants.{Shows, Does}
use Rattle.desk_head.specs.declared.endpoint.Posting.TheVariants.{Act, Import, Bundle}
use Rattle.desk_head.specs.declared.endpoint.Showing.TheVariants as shown
use Rattle.desk_head.specs.declared.routes.Route.{Route}
use Rattle.desk_head.specs.declared.routes.Route.TheVariants as route

-- ---- parts

abbrev pub front_by : Option (List ℕ × List ℕ) → List ℕ → List ℕ
front_by None target = target
front_by (Some parts) target = parts.0

abbrev pub rest_by : Option (List ℕ × List ℕ) → List ℕ
rest_by None = []
rest_by (Some parts) = parts.1

-- what comes before the first slash, and what after it
abbrev pub front_part : List ℕ → List ℕ
front_part target = front_by (split_once 47 target) target

abbrev pub later_parts : List ℕ → List ℕ
later_parts target = rest_by (split_once 47 target)

-- the first parameter comes after two slashes, the second one after four, the third one after five
abbrev pub first_parameter : List ℕ → List ℕ
first_parameter target = front_part (later_parts (later_parts target))

abbrev pub second_parameter : List ℕ → List ℕ
second_parameter target = first_parameter (later_parts (later_parts target))

abbrev pub third_parameter : List ℕ → List ℕ
third_parameter target = second_parameter (later_parts target)

-- ---- routes

-- the routes with one more
abbrev pub added : Route → Result Scan InsertError → RowsOf (RouteOf Route) → RowsOf (RouteOf Route)
added value (Ok s) rows = placed (s.pattern, route_from s value) rows
added value (Err e) rows = rows

unfoldable pub with_route : List ℕ → Route → RowsOf (RouteOf Route) → RowsOf (RouteOf Route)
with_route text value rows = added value (parse_route text) rows

-- the networks, and of a network its sheets and charts
abbrev pub with_sheets : RowsOf (RouteOf Route) → RowsOf (RouteOf Route)
with_sheets rows =
    with_route (codes "/nets/{net}/messages/{message}") (route.Shows shown.Chart)
    (with_route (codes "/nets/{net}/releases/{n}") (route.Shows shown.Release)
    (with_route (codes "/nets/{net}/live") (route.Shows shown.Live)
    (with_route (codes "/nets/{net}") (route.Shows shown.Table)
    (with_route (codes "/nets") (route.Shows shown.Nets) rows))))

-- each of these overviews, at its path
abbrev pub with_overviews : List Overview → RowsOf (RouteOf Route) → RowsOf (RouteOf Route)
with_overviews [] rows = rows
with_overviews (o ∷ overviews) rows =
    with_overviews overviews (with_route (overview_path o) (route.Shows (shown.Overview o)) rows)

-- one thing of a network, two of its sheets, or the things of a team
abbrev pub with_things : RowsOf (RouteOf Route) → RowsOf (RouteOf Route)
with_things rows =
    with_route (codes "/nets/{net}/teams/{team}/messages") (route.Shows (shown.OfTeam of_team.Messages))
    (with_route (codes "/nets/{net}/teams/{team}/blocks") (route.Shows (shown.OfTeam of_team.Blocks))
    (with_route (codes "/nets/{net}/compare/{m}/{n}") (route.Shows shown.Compare)
    (with_route (codes "/nets/{net}/who/{word}") (route.Shows shown.Who)
    (with_route (codes "/nets/{net}/nodes/{node}") (route.Shows shown.Node)
    (with_route (codes "/nets/{net}/messages/{message}/signals") (route.Shows shown.Message) rows)))))

-- the pages of a network and of its releases
abbrev pub with_pages : RowsOf (RouteOf Route) → RowsOf (RouteOf Route)
with_pages rows =
    with_route (codes "/nets/{net}/releases/{n}/page") (route.Shows shown.ReleasePage)
    (with_route (codes "/nets/{net}/page") (route.Shows shown.Page) rows)

-- all routes; a parameter is one or more bytes other than a slash
unfoldable pub the_routes : RowsOf (RouteOf Route)
the_routes =
    with_route (codes "/requests/{team}") (route.Shows shown.Requests)
    (with_pages (with_things (with_overviews OVERVIEWS (with_sheets (with_route (codes "/bundle/{net}") route.Bundle
    (with_route (codes "/import/{net}") route.Import (with_route (codes "/do/{command}") route.Do [])))))))

-- the route that the whole target matches
abbrev pub route_of : List ℕ → Option Route
route_of target = option_map (λ r. r.value) (first the_routes target)

-- a command has the route of commands, but `import` and `bundle` routes of their own
abbrev pub done_by : CommandKind → Option Endpoint
done_by (command.Act kind) = Some (Does (Act kind))
done_by command.Import = None
done_by command.Bundle = None

abbrev pub endpoint_at : Route → List ℕ → Option Endpoint
endpoint_at route.Do target = option_and_then done_by (kind_of_word (first_parameter target))
endpoint_at route.Import target = Some (Does Import)
endpoint_at route.Bundle target = Some (Does Bundle)
endpoint_at (route.Shows s) target = Some (Shows s)

-- what is at the target, if anything
unfoldable pub endpoint_of : List ℕ → Option Endpoint
endpoint_of target = option_and_then (λ r. endpoint_at r target) (route_of target)
