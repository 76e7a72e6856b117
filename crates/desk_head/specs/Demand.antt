-- What the head of a request demands: its tests, in order.
use Rattle.std.specs.Prelude.{ℕ, map, codes, cond, Option, None, Some, Result, Ok, Err}
use Rattle.std.specs.Str.{bytes_eq}
use Rattle.httparse.specs.Grammar.{RequestHead}
use Rattle.httparse.specs.Spans.{name_and_value}
use Rattle.desk_types.specs.declared.problem.Problem.{Problem}
use Rattle.desk_types.specs.declared.problem.Problem.TheVariants.{NotFound, WrongMethod}
use Rattle.desk_head.specs.declared.demand.Demand.{Demand}
use Rattle.desk_head.specs.declared.demand.Demand.TheVariants.{Fails, Shows, Does}
use Rattle.desk_head.specs.declared.endpoint.Endpoint.{Endpoint}
use Rattle.desk_head.specs.declared.endpoint.Endpoint.TheVariants as endpoint
use Rattle.desk_head.specs.declared.endpoint.Posting.{Posting}
use Rattle.desk_head.specs.Fields.{body_length}
use Rattle.desk_head.specs.Target.{endpoint_of}

abbrev pub does_by : Posting → Result ℕ Problem → Demand
does_by p (Ok n) = Does p n
does_by p (Err problem) = Fails problem

abbrev pub demand_by : Option Endpoint → RequestHead → Demand
demand_by None h = Fails NotFound
demand_by (Some (endpoint.Shows s)) h = cond (bytes_eq h.method (codes "GET")) (Shows s) (Fails WrongMethod)
demand_by (Some (endpoint.Does p)) h =
    cond (bytes_eq h.method (codes "POST")) (does_by p (body_length (map name_and_value h.fields))) (Fails WrongMethod)

unfoldable pub demand_of : RequestHead → Demand
demand_of h = demand_by (endpoint_of h.target) h

-- how many bytes after the head belong to the request
abbrev pub body_size : Demand → ℕ
body_size (Does p n) = n
body_size (Shows s) = 0
body_size (Fails problem) = 0
