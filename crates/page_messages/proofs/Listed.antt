-- Signals with their indices, one signal more.
use Rattle.page_messages.proofs.Common.{◌≡◌, ◌+◌, ◌<◌, ◌≤◌, ◌++◌, ◌∙◌, ℕ, suc, List, [], ◌∷◌, length, take, map, get_or}
use Rattle.page_messages.proofs.Common.{sym, ap, arith, enumerate_from, length-take-le, take_more, Signal, Marks}
use Rattle.std.proofs.lemmas.List.{map-append}
use Rattle.page_messages.specs.Signals.{listed, listed_by, listed_of}
use Rattle.page_messages.specs.declared.shown.Shown.{Shown}

enumerate_last : {X : Type 0} (n : ℕ) (xs : List X) (x : X)
    → enumerate_from n (xs ++ x ∷ []) ≡ enumerate_from n xs ++ (n + length xs, x) ∷ []
enumerate_last n [] x = let e : n ≡ n + 0 = omega arith in ap (λ k. (k, x) ∷ []) e
enumerate_last n (y ∷ ys) x =
    let e : (n + 1) + length ys ≡ n + suc (length ys) = omega arith in
    ap (λ v. (n, y) ∷ v) (enumerate_last (n + 1) ys x ∙ ap (λ k. enumerate_from (n + 1) ys ++ (k, x) ∷ []) e)

pub listed_more : (marks : Marks) (message : ℕ) (signals : List Signal) (i : ℕ) (s : Signal) (rows new : List Shown)
    (one : Shown) → i < length signals → s ≡ get_or signals i s
    → listed_of one ≡ listed_by marks message (i, s) → new ≡ rows ++ one ∷ []
    → map listed_of rows ≡ listed marks message (take i signals)
    → map listed_of new ≡ listed marks message (take (i + 1) signals)
listed_more marks message signals i s rows new one within is row pushed before =
    let short : i ≤ length signals = omega arith in
    let e : 0 + length (take i signals) ≡ i = omega (arith, length-take-le i signals short) in
    let by = listed_by marks message in
    ap (map listed_of) pushed ∙ map-append listed_of rows (one ∷ [])
    ∙ ap (λ v. v ++ listed_of one ∷ []) before ∙ ap (λ v. listed marks message (take i signals) ++ v ∷ []) row
    ∙ sym (ap (listed marks message) (take_more signals i s within ∙ ap (λ y. take i signals ++ y ∷ []) (sym is))
    ∙ ap (map by) (enumerate_last 0 (take i signals) s
    ∙ ap (λ k. enumerate_from 0 (take i signals) ++ (k, s) ∷ []) e)
    ∙ map-append by (enumerate_from 0 (take i signals)) ((i, s) ∷ []))
