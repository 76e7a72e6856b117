use Rattle.dbc_keep.proofs.Common.{inl, inr, err_from_is_err_and}
use Rattle.dbc_keep.proofs.j1939.text_with_j1939.Goals as goal

pub returns-in_err-reading-clause-none : goal.returns-in_err-reading-clause-none
returns-in_err-reading-clause-none c =
    let p = err_from_is_err_and c.from_residual.result c.from_residual.ensures.1 in
    rw (p.1, p.2) (λ memory. inl (c.in_err-reading.ensures.none memory))

pub returns-in_err-again-clause-none : goal.returns-in_err-again-clause-none
returns-in_err-again-clause-none c =
    let p = err_from_is_err_and c.from_residual-in_err-again.result c.from_residual-in_err-again.ensures.1 in
    let none = rw (c.deref.ensures.value, c.in_ok-joined.ensures, c.as_slice.ensures) at c.in_err-again.ensures.none in
    rw (p.1, p.2) (λ memory. inr (
      c.in_ok-reading.reading.sheet,
      c.in_ok-reading.reading.passed,
      c.in_ok-reading.ensures.reads,
      none memory,
    ))

pub returns-clause-stay : goal.returns-clause-stay
returns-clause-stay c = record {
  own = c.in_ok-reading.reading.sheet;
  passed = c.in_ok-reading.reading.passed;
  reads = c.in_ok-reading.ensures.reads;
  joined = c.in_ok-again.again.sheet;
  stay = rw (c.deref-2.ensures.value, c.in_ok-joined.ensures, c.as_slice.ensures) at c.in_ok-made.ensures.stay;
}
