-- Where memory runs out before an outcome is printed.
use Rattle.canoffice_cli.proofs.Common.{inl, inr, Result, Ok, Err, OnErr, AllocError, Desks}
use Rattle.canoffice_cli.specs.Outcome.{Outcome}
use Rattle.canoffice_cli.specs.Unprinted.{IsUnprinted}
use Rattle.canoffice_cli.specs.declared.report.Report.{Report}

-- what holds whatever the result
pub whatever : {P : Type 0} (r : Result Report AllocError) → P → OnErr r P
whatever (Ok report) p = tt
whatever (Err e) p = p

module _ (earlier later : Desks) where
  -- all was done
  pub all_done : (IsDone : Outcome → Type 0) (o : Outcome) (r : Result Report AllocError) → IsDone o
      → OnErr r (IsUnprinted earlier later IsDone)
  all_done IsDone o r done = whatever r (inr (o, done))

  -- what was done of it is also done of something else, with another outcome
  pub done_as : (IsDone IsMore : Outcome → Type 0) (other : Outcome → Outcome)
      → ((o : Outcome) → IsDone o → IsMore (other o)) → IsUnprinted earlier later IsDone
      → IsUnprinted earlier later IsMore
  done_as IsDone IsMore other more (inl none) = inl none
  done_as IsDone IsMore other more (inr done) = inr (other done.0, more done.0 done.1)

  pub done_more : (IsDone IsMore : Outcome → Type 0) (r : Result Report AllocError)
      → ((o : Outcome) → IsDone o → IsMore o) → OnErr r (IsUnprinted earlier later IsDone)
      → OnErr r (IsUnprinted earlier later IsMore)
  done_more IsDone IsMore (Ok report) more done = tt
  done_more IsDone IsMore (Err e) more done = done_as IsDone IsMore (λ o. o) more done
