-- A body that is read is never longer than the limit, whatever the head.
use Rattle.std.proofs.Common.{◌≡◌, ℕ, ◌≤◌, List, [], ◌∷◌, map, codes, cond, Bool, true, false, not, ◌==◌, ◌&&◌, length}
use Rattle.std.proofs.Common.{Option, Some, None, Result, Ok, Err, IfOk, nat_le, arith}
use Rattle.std.proofs.lemmas.Bool.{cond_both}
use Rattle.std.proofs.lemmas.Bool.Decides.{nat_tests}
use Rattle.std.specs.Char.{is_ascii_digit}
use Rattle.std.specs.List.{list_all}
use Rattle.std.specs.Str.{bytes_eq}
use Rattle.httparse.specs.Grammar.{RequestHead}
use Rattle.httparse.specs.Spans.{name_and_value}
use Rattle.base.specs.WholeNumber.{whole_of}
use Rattle.desk_types.specs.declared.problem.Problem.{Problem}
use Rattle.desk_types.specs.declared.problem.Problem.TheVariants.{BadRequest, TooLarge, WrongMethod}
use Rattle.desk_head.specs.Demand.{demand_of, demand_by, body_size, does_by}
use Rattle.desk_head.specs.Fields.{Headers, body_length, length_by, named, taken_length, unless_coded}
use Rattle.desk_head.specs.Limits.{body_limit}
use Rattle.desk_head.specs.Target.{endpoint_of}
use Rattle.desk_head.specs.declared.demand.Demand.{Demand}
use Rattle.desk_head.specs.declared.demand.Demand.TheVariants.{Fails, Shows}
use Rattle.desk_head.specs.declared.endpoint.Endpoint.{Endpoint}
use Rattle.desk_head.specs.declared.endpoint.Endpoint.TheVariants as endpoint
use Rattle.desk_head.specs.declared.endpoint.Posting.{Posting}

abbrev IsSmall : Result ℕ Problem → Type 0
IsSmall found = IfOk found (λ n. n ≤ body_limit)

within : (n : ℕ) → nat_le n body_limit ≡ true → n ≤ body_limit
within n e = grind (arith, nat_tests)

taken_is_small : (number : Option ℕ) → IsSmall (taken_length number)
taken_is_small None = tt
taken_is_small (Some n) = cond_both (nat_le n body_limit) (Ok n) (Err TooLarge) IsSmall (within n) (λ e. tt)

small_where : (b : Bool) (number : Option ℕ) → IsSmall (cond b (taken_length number) (Err BadRequest))
small_where true number = taken_is_small number
small_where false number = tt

value_is_small : (values : List (List ℕ)) → IsSmall (length_by values)
value_is_small [] = tt
value_is_small (v ∷ []) =
    small_where (not (length v == 0) && nat_le (length v) 19 && list_all is_ascii_digit v) (whole_of v)
value_is_small (v ∷ w ∷ values) = tt

unless_is_small : (codings : List (List ℕ)) (found : Result ℕ Problem) → IsSmall found
    → IsSmall (unless_coded codings found)
unless_is_small [] found small = small
unless_is_small (v ∷ values) found small = tt

length_is_small : (headers : Headers) → IsSmall (body_length headers)
unfolding body_length
length_is_small headers =
    let lengths = named (codes "content-length") headers in
    unless_is_small (named (codes "transfer-encoding") headers) (length_by lengths) (value_is_small lengths)

abbrev HasSmallBody : Demand → Type 0
HasSmallBody a = body_size a ≤ body_limit

does_small : (p : Posting) (found : Result ℕ Problem) → IsSmall found → HasSmallBody (does_by p found)
does_small p (Ok n) small = small
does_small p (Err problem) small = omega arith

small_if : (b : Bool) (a : Demand) → HasSmallBody a → HasSmallBody (cond b a (Fails WrongMethod))
small_if true a small = small
small_if false a small = omega arith

demands_small : (e : Option Endpoint) (h : RequestHead) → HasSmallBody (demand_by e h)
demands_small None h = omega arith
demands_small (Some (endpoint.Shows s)) h = small_if (bytes_eq h.method (codes "GET")) (Shows s) (omega arith)
demands_small (Some (endpoint.Does p)) h =
    let found = body_length (map name_and_value h.fields) in
    small_if (bytes_eq h.method (codes "POST")) (does_by p found)
    (does_small p found (length_is_small (map name_and_value h.fields)))

pub size_is_small : (h : RequestHead) → body_size (demand_of h) ≤ body_limit
unfolding demand_of
size_is_small h = demands_small (endpoint_of h.target) h
