-- Runs of the office with one step more.
use Rattle.office_rules.proofs.Common.{List, [], ◌∷◌, ◌++◌, refl, subst, Reply, Office}
use Rattle.office_rules.specs.Step.{TeamCommand, Run, Step}

pub run_more : (a b c : Office) (qs : List TeamCommand) (rs : List Reply) (q : TeamCommand) (r : Reply)
    → Run a qs rs b → Step q.0 b q.1 q.2 r c → Run a (qs ++ q ∷ []) (rs ++ r ∷ []) c
run_more a b c [] [] q r run step = (c, subst (λ (o : Office). Step q.0 o q.1 q.2 r c) run step, refl)
run_more a b c [] (s ∷ rs) q r run step = absurd run
run_more a b c (p ∷ qs) [] q r run step = absurd run
run_more a b c (p ∷ qs) (s ∷ rs) q r run step = (run.0, run.1, run_more run.0 b c qs rs q r run.2 step)
