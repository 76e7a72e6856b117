use Rattle.dbc_read.proofs.Common.{IfOk-weaker, err_from_is_err_and}
use Rattle.dbc_read.specs.Attaching.{in_signals}
use Rattle.dbc_read.proofs.Divided.{found_only, found_reads}
use Rattle.dbc_read.proofs.reading.read_sheet.Goals as goal

pub returns-in_err-gathered-clause-err : goal.returns-in_err-gathered-clause-err
returns-in_err-gathered-clause-err c =
    let p = err_from_is_err_and c.from_residual.result c.from_residual.ensures.1 in
    rw (p.1, p.2) (λ memory. c.in_err-gathered.ensures.err memory)

pub returns-in-Some-clause-reads : goal.returns-in-Some-clause-reads
returns-in-Some-clause-reads c =
    let of = rw c.in-Some.is at c.in_ok-gathered.ensures.ok in
    IfOk-weaker c.reading_or_none.result _ _ (λ found some.
    found_reads c.args.source.now of.stated of.divided (in_signals c.in-Some.gathered) of.gathered c.into_reading.result
    found c.into_reading.ensures.built c.into_reading.ensures.passed some) c.reading_or_none.ensures.some

pub returns-in-Some-clause-only : goal.returns-in-Some-clause-only
returns-in-Some-clause-only c =
    let of = rw c.in-Some.is at c.in_ok-gathered.ensures.ok in
    IfOk-weaker c.reading_or_none.result _ _ (λ found some.
    found_only c.args.source.now of.stated of.divided (in_signals c.in-Some.gathered) of.gathered c.into_reading.result
    found c.texts_read_as_one_sheet.ensures c.into_reading.ensures.built some) c.reading_or_none.ensures.some
