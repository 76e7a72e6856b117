-- The rows of parts, one after the other.
use Rattle.office_looks.proofs.Common.{◌≡◌, ◌∙◌, ◌+◌, ◌<◌, ℕ, zero, suc, List, [], ◌∷◌, map, ◌++◌, length, take, get_or}
use Rattle.office_looks.proofs.Common.{refl, sym, ap, append_assoc, arith, take_more, Fact}
use Rattle.std.specs.List.{enumerate_from}
use Rattle.std.proofs.lemmas.List.{map-append}
use Rattle.std.proofs.lemmas.List.FromFn.{get_or-enumerate_from, length-enumerate_from}
use Rattle.office_types.specs.declared.reply.PartReply.{PartReply}
use Rattle.office_looks.specs.Requests.{part_row, part_rows}

enumerate_take : (n i : ℕ) (xs : List PartReply) → enumerate_from n (take i xs) ≡ take i (enumerate_from n xs)
enumerate_take n zero xs = refl
enumerate_take n (suc i) [] = refl
enumerate_take n (suc i) (x ∷ xs) = ap (λ v. (n, x) ∷ v) (enumerate_take (n + 1) i xs)

pub one_more : (start : List (List Fact)) (key : List ℕ) (parts : List PartReply) (i : ℕ) (part : PartReply)
    (before after : List (List Fact)) (row : List Fact) → i < length parts
    → before ≡ start ++ part_rows key (take i parts) → row ≡ part_row key (i + 1) (get_or parts i part)
    → after ≡ before ++ row ∷ [] → after ≡ start ++ part_rows key (take (i + 1) parts)
one_more start key parts i part before after row low so is more =
    let f : ℕ × PartReply → List Fact = λ p. part_row key p.0 p.1 in
    let all = enumerate_from 1 parts in
    let counted = length-enumerate_from 1 parts in
    let below : i < length all = omega (arith, counted, low) in
    let place : 1 + i ≡ i + 1 = omega arith in
    let here : get_or all i (i, part) ≡ (i + 1, get_or parts i part) =
    get_or-enumerate_from 1 parts i (i, part) low ∙ ap (λ k. (k, get_or parts i part)) place in
    let longer : map f (enumerate_from 1 (take i parts)) ++ row ∷ [] ≡ map f (enumerate_from 1 (take (i + 1) parts)) =
    ap (λ v. map f v ++ row ∷ []) (enumerate_take 1 i parts)
    ∙ ap (λ r. map f (take i all) ++ r ∷ []) (is ∙ ap f (sym here))
    ∙ sym (map-append f (take i all) (get_or all i (i, part) ∷ []))
    ∙ ap (map f) (sym (take_more all i (i, part) below) ∙ sym (enumerate_take 1 (i + 1) parts)) in
    more ∙ ap (λ v. v ++ row ∷ []) so ∙ append_assoc start (part_rows key (take i parts)) (row ∷ [])
    ∙ ap (λ v. start ++ v) longer
