-- Counts over the numbers below one, one number more.
use Rattle.page_messages.proofs.Common.{◌≡◌, ◌+◌, ◌++◌, ℕ, Bool, true, false, [], ◌∷◌, zero, suc, cond, sym, ap, ◌∙◌}
use Rattle.page_messages.proofs.Common.{arith, count_by, range_with_len}
use Rattle.std.proofs.Common.{add-one}
use Rattle.std.proofs.lemmas.List.Sums.{sum_by_push}

range_more : (a n : ℕ) → range_with_len a (suc n) ≡ range_with_len a n ++ (a + n) ∷ []
range_more a zero = let e : a ≡ a + 0 = omega arith in ap (λ k. k ∷ []) e
range_more a (suc n) =
    let e : (a + 1) + n ≡ a + suc n = omega arith in
    ap (λ ks. a ∷ ks) (range_more (a + 1) n ∙ ap (λ k. range_with_len (a + 1) n ++ k ∷ []) e)

one_number_more : (n : ℕ) → range_with_len 0 (n + 1) ≡ range_with_len 0 n ++ n ∷ []
one_number_more n =
    let e : 0 + n ≡ n = omega arith in
    ap (λ k. range_with_len 0 k) (add-one n) ∙ range_more 0 n ∙ ap (λ k. range_with_len 0 n ++ k ∷ []) e

pub counted_yes : (p : ℕ → Bool) (n count : ℕ) → p n ≡ true → count ≡ count_by p (range_with_len 0 n)
    → count + 1 ≡ count_by p (range_with_len 0 (n + 1))
counted_yes p n count e so =
    ap (λ k. k + 1) so
    ∙ sym (ap (count_by p) (one_number_more n) ∙ sum_by_push (λ k. cond (p k) 1 0) (range_with_len 0 n) n
    ∙ ap (λ b. count_by p (range_with_len 0 n) + cond b 1 0) e)

pub counted_no : (p : ℕ → Bool) (n count : ℕ) → p n ≡ false → count ≡ count_by p (range_with_len 0 n)
    → count ≡ count_by p (range_with_len 0 (n + 1))
counted_no p n count e so =
    let none : count_by p (range_with_len 0 n) + 0 ≡ count_by p (range_with_len 0 n) = omega arith in
    so
    ∙ sym (ap (count_by p) (one_number_more n) ∙ sum_by_push (λ k. cond (p k) 1 0) (range_with_len 0 n) n
    ∙ ap (λ b. count_by p (range_with_len 0 n) + cond b 1 0) e ∙ none)
