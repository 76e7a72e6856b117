use Rattle.dbc_read.proofs.Common.{inl, inr, err_from_is_err_and}
use Rattle.dbc_read.specs.Faults as faults
use Rattle.dbc_read.proofs.Divided.{reads_none_at, undivided}
use Rattle.dbc_read.proofs.reading.read_text.Goals as goal

pub returns-in_err-reading-clause-none : goal.returns-in_err-reading-clause-none
returns-in_err-reading-clause-none c =
    let p = err_from_is_err_and c.from_residual.result c.from_residual.ensures.1 in
    rw (p.1, p.2) (λ memory. undivided c.args.source.now (c.in_err-reading.ensures.err memory))

pub returns-in_err-reading-clause-faults : goal.returns-in_err-reading-clause-faults
returns-in_err-reading-clause-faults c =
    let p = err_from_is_err_and c.from_residual.result c.from_residual.ensures.1 in
    rw (p.1, p.2) (λ memory. inl (c.in_err-reading.ensures.err memory))

pub returns-in_err-fault-in-None-clause-none : goal.returns-in_err-fault-in-None-clause-none
returns-in_err-fault-in-None-clause-none c =
    let p = err_from_is_err_and c.from_residual-in_err-fault-in-None.result
    c.from_residual-in_err-fault-in-None.ensures.1 in
    rw (p.1, p.2) (λ memory. undivided c.args.source.now (c.in_err-fault-in-None.ensures.err memory))

pub returns-in-Some-2-clause-none : goal.returns-in-Some-2-clause-none
returns-in-Some-2-clause-none c =
    let found = rw c.in-Some-2.is at c.in_ok-fault-in-None.ensures.fault in
    λ memory. reads_none_at c.args.source.now found.of.stated found.of.divided found.gathered found.of.gathered
    c.in-Some-2.fault (faults.definition found.is)

pub returns-in_err-fault-in-None-clause-faults : goal.returns-in_err-fault-in-None-clause-faults
returns-in_err-fault-in-None-clause-faults c =
    let p = err_from_is_err_and c.from_residual-in_err-fault-in-None.result
    c.from_residual-in_err-fault-in-None.ensures.1 in
    rw (p.1, p.2) (λ memory. inl (c.in_err-fault-in-None.ensures.err memory))

pub returns-in-Some-2-clause-faults : goal.returns-in-Some-2-clause-faults
returns-in-Some-2-clause-faults c =
    let found = rw c.in-Some-2.is at c.in_ok-fault-in-None.ensures.fault in
    λ memory. inr (record { gathered = found.gathered; of = found.of; is = faults.definition found.is })
