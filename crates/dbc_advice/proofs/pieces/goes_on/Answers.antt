use Rattle.dbc_advice.proofs.Common.{◌≡◌, length, refl, arith, read_fault}
use Rattle.dbc_advice.specs.GoesOn.{ends, reads}
use Rattle.dbc_advice.proofs.pieces.goes_on.Goals as goal

pub returns-in-Ok : goal.returns-in-Ok
returns-in-Ok c = reads c.in-Ok._reading.sheet (_, c.in-Ok.ensures.reads)

pub returns-then-fault-text : goal.returns-then-fault-text
returns-then-fault-text c = record {
  fault = c.in-Err.fault;
  is = read_fault c.args.text.now c.in-Err.fault _ refl c.in_default.not-Memory
      (c.in-Err.ensures.none c.in_default.not-Memory) c.in-Err.ensures.within c.in-Err.ensures.tokens;
  before_end = c.if-fault-text.true;
}

pub returns-else-fault-text : goal.returns-else-fault-text
returns-else-fault-text c =
    let at_end : c.in-Err.fault.at ≡ length c.args.text.now =
    omega (arith, c.in-Err.ensures.within, c.if-fault-text.false) in
    ends c.in-Err.fault
    (read_fault c.args.text.now c.in-Err.fault _ refl c.in_default.not-Memory
    (c.in-Err.ensures.none c.in_default.not-Memory) c.in-Err.ensures.within c.in-Err.ensures.tokens)
    at_end
