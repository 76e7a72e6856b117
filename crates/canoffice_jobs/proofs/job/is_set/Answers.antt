use Rattle.canoffice_jobs.proofs.Common.{◌≡◌, Option, None, Some, List, ℕ, option_map, subst, ◌∙◌, Bor, first_value}
use Rattle.canoffice_jobs.proofs.Common.{found_of}
use Rattle.canoffice_jobs.proofs.CommandLine.{flag_in_rows}
use Rattle.canoffice_jobs.proofs.job.is_set.Goals as goal

pub returns-in-Some : goal.returns-in-Some
returns-in-Some c =
    let f = found_of c.args.found.now in
    let given = subst (λ (r : Option (Bor (List ℕ))). option_map (λ s. s.now) r ≡ first_value f c.args.id.now)
    c.in-Some.is c.get_str.ensures in
    c.eq.ensures ∙ flag_in_rows f c.args.id.now (Some c.in-Some.value) given

pub returns-in-None : goal.returns-in-None
returns-in-None c =
    let f = found_of c.args.found.now in
    let given = subst (λ (r : Option (Bor (List ℕ))). option_map (λ s. s.now) r ≡ first_value f c.args.id.now)
    c.in-None.is c.get_str.ensures in
    flag_in_rows f c.args.id.now None given
