-- One message more of a walk over the new sheet.
use Rattle.dbc_compare.proofs.Common.{◌≡◌, ◌++◌, ◌∙◌, ℕ, List, ◌∷◌, take, drop, sym, ap, flat_map, number_of, Message}
use Rattle.std.proofs.Common.{append_assoc}
use Rattle.dbc_compare.specs.Differences.{below, by_numbers}
use Rattle.dbc_compare.specs.declared.difference.Difference.{Difference}

pub one_passed : (gone shown : Message → List Difference) (rest left : List Message) (m : Message) (n : ℕ)
    (all before middle after : List Difference)
    → n ≡ below (number_of m) rest
    → all ≡ before ++ by_numbers gone shown rest (m ∷ left)
    → middle ≡ before ++ flat_map gone (take n rest) → after ≡ middle ++ shown m
    → all ≡ after ++ by_numbers gone shown (drop n rest) left
one_passed gone shown rest left m n all before middle after count is more and_more =
    let later : List Difference = shown m ++ by_numbers gone shown (drop n rest) left in
    is
    ∙ ap (λ k. before ++ (flat_map gone (take k rest) ++ (shown m ++ by_numbers gone shown (drop k rest) left)))
    (sym count)
    ∙ sym (append_assoc before (flat_map gone (take n rest)) later)
    ∙ ap (λ v. v ++ later) (sym more)
    ∙ sym (append_assoc middle (shown m) (by_numbers gone shown (drop n rest) left))
    ∙ ap (λ v. v ++ by_numbers gone shown (drop n rest) left) (sym and_more)
