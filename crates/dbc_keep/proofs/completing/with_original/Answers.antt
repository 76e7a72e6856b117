use Rattle.dbc_keep.proofs.Common.{refl, err_from_is_err_and, read_fault}
use Rattle.dbc_keep.proofs.completing.with_original.Goals as goal

pub returns-in_err-reading-clause-fault : goal.returns-in_err-reading-clause-fault
returns-in_err-reading-clause-fault c =
    let p = err_from_is_err_and c.from_residual.result c.from_residual.ensures.1 in
    rw (p.1, p.2) (λ named. read_fault _ _ _ refl named (c.in_err-reading.ensures.none named)
    c.in_err-reading.ensures.within c.in_err-reading.ensures.tokens)
