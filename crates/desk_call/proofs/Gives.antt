-- How many bytes a source gave.
use Rattle.desk_call.proofs.Common.{◌≡◌, ℕ, ◌+◌, ◌-◌, ◌≤◌, List, length, Option, ap, arith, length-append, RequestHead}
use Rattle.desk_call.proofs.Common.{Moves, demand_of, body_size, head_limit, request_limit, Demand, size_is_small}
use Rattle.desk_types.specs.Moved.{GivesAtMost}
use Rattle.desk_types.proofs.Gives.{gives_more}

-- those that were added to a list
pub gives_moved : (a b : Option (List ℕ)) (old new : List ℕ) (most : ℕ) → Moves a b old new
    → length new ≤ length old + most → GivesAtMost a b most
gives_moved a b old new most m fits = (m.0, m.2, omega (arith, length-append old m.0, ap length m.1, fits))

-- a head, and then what its body lacked
pub gives_request : (a b d : Option (List ℕ)) (demand : Demand) (h : RequestHead) (size there : ℕ)
    → GivesAtMost a b head_limit → GivesAtMost b d (size - there) → size ≡ body_size demand → demand ≡ demand_of h
    → GivesAtMost a d request_limit
gives_request a b d demand h size there head body is_size is_ahead =
    gives_more a b d head_limit (size - there) request_limit head body
    (omega (arith, size_is_small h, is_size, ap body_size is_ahead))
