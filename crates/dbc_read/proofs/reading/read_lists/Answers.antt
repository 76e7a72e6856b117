use Rattle.dbc_read.proofs.Common.{inl, inr, err_from_is_err_and}
use Rattle.dbc_read.proofs.Divided.{found_only, found_reads, reads_none_at, undivided}
use Rattle.dbc_read.proofs.reading.read_lists.Goals as goal

pub returns-in_err-gathered-clause-none : goal.returns-in_err-gathered-clause-none
returns-in_err-gathered-clause-none c =
    let p = err_from_is_err_and c.from_residual.result c.from_residual.ensures.1 in
    rw (p.1, p.2) (λ memory. undivided c.args.source.now (c.in_err-gathered.ensures.err memory))

pub returns-in-Some-clause-none : goal.returns-in-Some-clause-none
returns-in-Some-clause-none c =
    let of = c.in_ok-gathered.ensures.ok in
    λ memory. reads_none_at c.args.source.now of.stated of.divided c.in_ok-gathered.gathered of.gathered c.in-Some.fault
    (rw c.in-Some.is at c.in_ok-fault.ensures.fault)

pub returns-clause-reads : goal.returns-clause-reads
returns-clause-reads c =
    let of = c.in_ok-gathered.ensures.ok in
    rw c.in-Some-2.is at (found_reads c.args.source.now of.stated of.divided c.in_ok-gathered.gathered of.gathered
    c.into_reading_of_lists.result c.in_ok-reading.field-0 c.into_reading_of_lists.ensures.built
    c.into_reading_of_lists.ensures.passed c.in_ok-reading.ensures.some)

pub returns-clause-only : goal.returns-clause-only
returns-clause-only c =
    let of = c.in_ok-gathered.ensures.ok in
    rw c.in-Some-2.is at (found_only c.args.source.now of.stated of.divided c.in_ok-gathered.gathered of.gathered
    c.into_reading_of_lists.result c.in_ok-reading.field-0 c.texts_read_as_one_sheet.ensures
    c.into_reading_of_lists.ensures.built c.in_ok-reading.ensures.some)

pub returns-in_err-gathered-clause-faults : goal.returns-in_err-gathered-clause-faults
returns-in_err-gathered-clause-faults c =
    let p = err_from_is_err_and c.from_residual.result c.from_residual.ensures.1 in
    rw (p.1, p.2) (λ memory. inl (c.in_err-gathered.ensures.err memory))

pub returns-in-Some-clause-faults : goal.returns-in-Some-clause-faults
returns-in-Some-clause-faults c =
    λ memory. inr (record {
      gathered = c.in_ok-gathered.gathered;
      of = c.in_ok-gathered.ensures.ok;
      is =
          rw c.in-Some.is at c.in_ok-fault.ensures.fault;
    })
