use Rattle.page_numbers.proofs.Common.{◌∙◌, ap, not, ◌&&◌, ◌+◌, length-filter, has_form, is_taken, numbers_in}
use Rattle.page_numbers.specs.Tally.{held_in, live_in}
use Rattle.page_numbers.proofs.Parts.{all}
use Rattle.page_numbers.proofs.laws.counts_are_all.Goals as goal

pub returns : goal.returns
returns c = λ live taken b form within.
    ap (λ k. live_in live form b + held_in live taken form b + k)
    (length-filter (λ n. has_form form n && not (is_taken n taken)) (numbers_in b))
    ∙ all (λ n. is_taken n live) (λ n. is_taken n taken) (has_form form) within (numbers_in b)
