-- Lists that are compared, element by element, with what stands for another list.
use Rattle.store_tables.proofs.Common.{arith, ◌≡◌, ◌∙◌, ℕ, ◌+◌, ◌<◌, Bool, true, false, length, map, take, List}
use Rattle.store_tables.proofs.Common.{slice_index_or, sym, ap, length-map}
use Rattle.std.proofs.Common.{◌↔◌, ◌≤◌}
use Rattle.std.proofs.lemmas.List.{get_or-map, take_more_same}

-- one more element is what stands for that of the other list
pub one_more : {X Y : Type 0} (f : Y → X) (xs : List X) (ys : List Y) (at : ℕ) (x d : X) (e : Y) (is : Bool)
    → at < length xs → length xs ≤ length ys → x ≡ slice_index_or xs at d
    → ((is ≡ true) ↔ (x ≡ f (slice_index_or ys at e))) → is ≡ true → take at xs ≡ take at (map f ys)
    → take (at + 1) xs ≡ take (at + 1) (map f ys)
one_more f xs ys at x d e is within few here tests it_is before =
    take_more_same xs (map f ys) at d within (omega (arith, within, few, length-map ys f)) before
    (sym here ∙ tests.0 it_is ∙ sym (get_or-map f ys at e d (omega (arith, within, few))))

-- an element isn't, so the lists differ
pub apart : {X Y : Type 0} (f : Y → X) (xs : List X) (ys : List Y) (at : ℕ) (x d : X) (e : Y) (is : Bool)
    → at < length ys → x ≡ slice_index_or xs at d
    → ((is ≡ true) ↔ (x ≡ f (slice_index_or ys at e))) → is ≡ false → xs ≡ map f ys → false ≡ true
apart f xs ys at x d e is within here tests differs same =
    sym differs ∙ tests.1 (here ∙ ap (λ zs. slice_index_or zs at d) same ∙ get_or-map f ys at e d within)
