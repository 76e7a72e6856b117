-- A few of the items of a list, by what stands for each.
use Rattle.std.proofs.Common.{◌≡◌, ◌-◌, ◌<◌, ◌≤◌, ℕ, List, length, map, take, arith}
use Rattle.std.proofs.lemmas.List.{length-map, take-map}
use Rattle.office_reasons.specs.Few.{few_limit, few_text, listed}

pub few_many : {A : Type 0} (f : A → List ℕ) (xs : List A) → few_limit < length xs
    → listed (map f (take few_limit xs)) (length xs - few_limit) ≡ few_text (map f xs)
few_many f xs long = grind (arith, length-map xs f, take-map f few_limit xs, long)

pub few_all : {A : Type 0} (f : A → List ℕ) (xs : List A) → length xs ≤ few_limit
    → listed (map f xs) 0 ≡ few_text (map f xs)
few_all f xs short = grind (arith, length-map xs f, short)
