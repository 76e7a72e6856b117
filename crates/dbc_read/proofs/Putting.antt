-- A list that an item is put into has it and those that it had.
use Rattle.dbc_read.proofs.Common.{◌≡◌, ◌==◌, ◌∙◌, ◌++◌, true, false, List, [], ◌∷◌, sym, IsPermutation, true≢false}
use Rattle.dbc_read.proofs.Common.{Equal, Decides-eqb, IsPermutation-trans, IsPermutation-sym, put, by_number}
use Rattle.dbc_read.proofs.Common.{number_of, Message}
use Rattle.std.proofs.lemmas.Cmp.{ranked}
use Rattle.std.proofs.lemmas.List.Sorted.{IsPermutation-append_left, IsPermutation-cons, IsPermutation-middle}
use Rattle.std.proofs.lemmas.List.Sorted.{IsPermutation-refl}
use Rattle.base.proofs.PutKeeps.{put_cases}
use Rattle.dbc_sheet.specs.Messages.{has_number}
use Rattle.dbc_read.proofs.Gathering.{or_parts}

equal_numbers : (m n : Message) → by_number m n ≡ Equal → number_of n == number_of m ≡ true
equal_numbers m n e = (Decides-eqb (number_of n) (number_of m)).1
    (sym (ranked (number_of m) (number_of n) Equal (sym e)))

put_new : (m : Message) (ms : List Message) → has_number ms (number_of m) ≡ false
    → IsPermutation (m ∷ ms) (put by_number m ms)
put_new m [] h = IsPermutation-refl (m ∷ [])
put_new m (n ∷ ms) h =
    let parts = or_parts (number_of n == number_of m) (has_number ms (number_of m)) h in
    let after : IsPermutation (m ∷ n ∷ ms) (n ∷ m ∷ ms) =
    IsPermutation-sym (n ∷ m ∷ ms) (m ∷ n ∷ ms) (IsPermutation-middle (n ∷ []) m ms) in
    put_cases by_number m (IsPermutation (m ∷ n ∷ ms)) n ms (λ above e. IsPermutation-refl (m ∷ n ∷ ms))
    (λ above e. absurd (true≢false (sym (equal_numbers m n e) ∙ parts.0))) (λ above e. after)
    (λ late. IsPermutation-trans (m ∷ n ∷ ms) (n ∷ m ∷ ms) (n ∷ put by_number m ms) after
    (IsPermutation-cons n (m ∷ ms) (put by_number m ms) (put_new m ms parts.1)))

-- one message more is put in, of those that are left
pub one_put : (whole : List Message) (done : List Message) (m : Message) (left : List Message)
    → has_number done (number_of m) ≡ false
    → IsPermutation whole (done ++ m ∷ left) → IsPermutation whole (put by_number m done ++ left)
one_put whole done m left new p =
    IsPermutation-trans whole (done ++ m ∷ left) (put by_number m done ++ left) p
    (IsPermutation-trans (done ++ m ∷ left) (m ∷ (done ++ left)) (put by_number m done ++ left)
    (IsPermutation-middle done m left)
    (IsPermutation-append_left left (m ∷ done) (put by_number m done) (put_new m done new)))
