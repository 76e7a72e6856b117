-- What an insert that succeeds leaves.
use Rattle.std.proofs.Common.{◌≡◌, Result, Ok, Err, OnOk, inl, inr}
use Rattle.matchit.specs.Rows.{RowsOf}
use Rattle.matchit.specs.Route.{Scan}
use Rattle.matchit.specs.Router.{RouteOf, InsertsRead}
use Rattle.matchit.specs.declared.error.InsertError.{InsertError}
use Rattle.desk_head.specs.Target.{added}
use Rattle.desk_head.specs.declared.routes.Route.{Route}

pub inserted : (x : Result Scan InsertError) (value : Route) (old new : RowsOf (RouteOf Route))
    (r : Result (Unit {0}) InsertError) → InsertsRead x value old new r → OnOk r (new ≡ added value x old)
inserted (Ok s) value old new (Ok u) h = h.1
inserted (Ok s) value old new (Err e) h = tt
inserted (Err e) value old new (Ok u) h = elim h.1 [ inl a ↦ cc | inr b ↦ cc ]
inserted (Err e) value old new (Err f) h = tt
