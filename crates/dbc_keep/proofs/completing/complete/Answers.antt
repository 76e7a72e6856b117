use Rattle.dbc_keep.proofs.Common.{inl, inr, refl, err_from_is_err_and, read_fault}
use Rattle.dbc_keep.proofs.completing.complete.Goals as goal

pub returns-in_err-reading-clause-fault : goal.returns-in_err-reading-clause-fault
returns-in_err-reading-clause-fault c =
    let p = err_from_is_err_and c.from_residual.result c.from_residual.ensures.1 in
    let none = rw c.deref.ensures.value at c.in_err-reading.ensures.none in
    let within = rw c.deref.ensures.value at c.in_err-reading.ensures.within in
    let tokens = rw c.deref.ensures.value at c.in_err-reading.ensures.tokens in
    rw (p.1, p.2) (λ named. inl (read_fault c.args.text.items _ _ refl named (none named) within tokens))

pub returns-in_err-text-clause-fault : goal.returns-in_err-text-clause-fault
returns-in_err-text-clause-fault c =
    let p = err_from_is_err_and c.from_residual-in_err-text.result c.from_residual-in_err-text.ensures.1 in
    let unreadable = rw c.into_parts-text.ensures at c.in_err-text.ensures.fault in
    rw (p.1, p.2) (λ named. inr (inr (record {
      wanted = c.in_err-text.ensures.wanted named;
      sheet = c.in_ok-reading.reading.sheet;
      reads = (_, rw c.deref.ensures.value at c.in_ok-reading.ensures.reads);
      staying = c.in_ok-staying.staying.text.items;
      lines = c.in_ok-staying.staying.left_out.items;
      only = c.in_ok-staying.ensures.only;
      with_original = c.in_ok-staying.ensures.made;
      unreadable = unreadable named;
    })))
