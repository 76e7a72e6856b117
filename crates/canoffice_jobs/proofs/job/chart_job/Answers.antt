use Rattle.canoffice_jobs.proofs.Common.{◌∙◌, Some, List, ap, map, option_map, refl, sym, Bor, found_of}
use Rattle.std.specs.Option.{option_and_then}
use Rattle.clap.specs.Words.{Text}
use Rattle.office_views.specs.Word.{length_of}
use Rattle.canoffice_jobs.proofs.CommandLine.{optional_in_rows, values_in_rows}
use Rattle.canoffice_jobs.proofs.job.chart_job.Goals as goal

pub returns-in-Ok-clause-job : goal.returns-in-Ok-clause-job
returns-in-Ok-clause-job c =
    let found = found_of c.args.found.now in
    let word = optional_in_rows found _ _ c.get_str.ensures
    ∙ ap (option_map (λ (s : Bor Text). s.now)) c.unwrap-word.ensures in
    let words = sym c.get_strs.ensures ∙ ap (option_map (λ (s : Bor (List (Bor Text))). map (λ v. v.now) s.now))
    c.unwrap-words.ensures in
    let signals = ap (λ (texts : List (Bor Text)). Some (map (λ v. v.now) texts)) (sym c.in-Ok.ensures.items) in
    (refl, ap (option_and_then length_of) word ∙ sym c.in-Some.ensures, values_in_rows found _ _ (words ∙ signals))
