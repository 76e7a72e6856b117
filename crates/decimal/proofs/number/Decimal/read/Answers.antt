use Rattle.decimal.proofs.Common.{List, ℕ, subst, sym, Ok, Err}
use Rattle.decimal.specs.declared.fault.DecimalFault.TheVariants.{NotNumber}
use Rattle.decimal.specs.Reading.{ReadsNumber}
use Rattle.decimal.proofs.Computed.{read_is_reading}
use Rattle.decimal.proofs.OneReading.{reads_once}
use Rattle.decimal.proofs.number.Decimal.read.Goals as goal

pub returns-in-Some-clause-only : goal.returns-in-Some-clause-only
returns-in-Some-clause-only c = λ other h. reads_once c.args.negative c.args.bytes.now other (Ok c.in-Some.decimal) h
    c.in-Some.ensures

pub returns-in-Some-clause-computed : goal.returns-in-Some-clause-computed
returns-in-Some-clause-computed c =
    read_is_reading c.args.negative c.args.bytes.now (Ok c.in-Some.decimal) c.in-Some.ensures

pub returns-in-Some-parts_of-clause-only : goal.returns-in-Some-parts_of-clause-only
returns-in-Some-parts_of-clause-only c = λ other h.
    let read = subst (λ (bs : List ℕ). ReadsNumber c.args.negative bs c.long_decimal.result)
    (sym c.in-Some-parts_of.ensures.token.parts) c.long_decimal.ensures in
    reads_once c.args.negative c.args.bytes.now other c.long_decimal.result h read

pub returns-in-Some-parts_of-clause-computed : goal.returns-in-Some-parts_of-clause-computed
returns-in-Some-parts_of-clause-computed c =
    let read = subst (λ (bs : List ℕ). ReadsNumber c.args.negative bs c.long_decimal.result)
    (sym c.in-Some-parts_of.ensures.token.parts) c.long_decimal.ensures in
    read_is_reading c.args.negative c.args.bytes.now c.long_decimal.result read

pub returns-in-None-clause-computed : goal.returns-in-None-clause-computed
returns-in-None-clause-computed c =
    read_is_reading c.args.negative c.args.bytes.now (Err NotNumber) c.in-None.ensures.none
