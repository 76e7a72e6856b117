-- In a loop over the first numbers something is added for each.
use Rattle.page_changes.proofs.Common.{◌≡◌, ◌+◌, ◌++◌, ◌∙◌, ℕ, suc, List, [], ◌∷◌, ap, sym, arith, append-nil, flat_map}
use Rattle.page_changes.proofs.Common.{range_with_len, Becomes, Writing, adding, added}
use Rattle.std.proofs.Common.{zero, add-one}
use Rattle.std.proofs.lemmas.List.Concat.{flat_map-append}

range_more : (a n : ℕ) → range_with_len a (suc n) ≡ range_with_len a n ++ (a + n) ∷ []
range_more a zero = let e : a ≡ a + 0 = omega arith in ap (λ k. k ∷ []) e
range_more a (suc n) =
    let e : (a + 1) + n ≡ a + suc n = omega arith in
    ap (λ ks. a ∷ ks) (range_more (a + 1) n ∙ ap (λ k. range_with_len (a + 1) n ++ k ∷ []) e)

pub number_added : (f : ℕ → List ℕ) (n : ℕ) (a b c : Writing)
    → Becomes b (adding (flat_map f (range_with_len 0 n)) a) → Becomes c (adding (f n) b)
    → Becomes c (adding (flat_map f (range_with_len 0 (n + 1))) a)
number_added f n a b c first second h =
    let e : 0 + n ≡ n = omega arith in
    let more : range_with_len 0 (n + 1) ≡ range_with_len 0 n ++ n ∷ [] =
    ap (λ k. range_with_len 0 k) (add-one n) ∙ range_more 0 n ∙ ap (λ k. range_with_len 0 n ++ k ∷ []) e in
    let all : flat_map f (range_with_len 0 n) ++ f n ≡ flat_map f (range_with_len 0 (n + 1)) =
    ap (λ v. flat_map f (range_with_len 0 n) ++ v) (sym (append-nil (f n)))
    ∙ sym (flat_map-append f (range_with_len 0 n) (n ∷ [])) ∙ ap (flat_map f) (sym more) in
    added a (flat_map f (range_with_len 0 n)) (f n) first second h
    ∙ ap (λ v. record a { text = a.text ++ v }) all
