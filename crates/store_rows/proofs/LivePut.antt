-- A live message that is put in place of one of its number, with the same head: the rows of `msg` stay as they are.
use Rattle.store_rows.proofs.Common.{◌≡◌, ◌∙◌, ℕ, Bool, true, false, cond, List, [], ◌∷◌, find, Option, None, Some}
use Rattle.store_rows.proofs.Common.{refl, sym, ap, subst, arith, inl, inr, ◌==◌, AllByRecursion, is_lt, nat_cmp, Less}
use Rattle.store_rows.proofs.Common.{Equal, Greater, cases_Bool, eqb-true, false≢true, nat_tests, Row, are_above, put}
use Rattle.store_rows.proofs.Common.{put_cases, dbc_number, by_number, LiveMessage}
use Rattle.std.specs.List.Sorted.{IsStrictlySortedBy}
use Rattle.store_rows.specs.Listed.{AreShown}
use Rattle.store_rows.specs.Live.{IsMsgRow}
use Rattle.store_rows.proofs.Keys.{and_left, and_right}
use Rattle.store_rows.proofs.LiveChanges.{above_if_same}

abbrev number_of : LiveMessage → ℕ
number_of m = dbc_number m.message.ident

none_some : (x : LiveMessage) → ◌≡◌ {A = Option LiveMessage} None (Some x) → ⊥
none_some x e = cc

one_some : (x y : LiveMessage) → ◌≡◌ {A = Option LiveMessage} (Some x) (Some y) → x ≡ y
one_some x y e = cc

lesser_apart : (m n : ℕ) → is_lt (nat_cmp m n) ≡ true → (n == m) ≡ false
lesser_apart m n less = grind (arith, nat_tests, less)

-- none of those above a message has its number
none_above : (x : LiveMessage) (n : ℕ) (live : List LiveMessage) → number_of x ≡ n → are_above by_number x live ≡ true
    → find (λ o. number_of o == n) live ≡ None
none_above x n [] same above = refl
none_above x n (o ∷ live) same above =
    let first : is_lt (by_number x o) ≡ true = and_left (is_lt (by_number x o)) (are_above by_number x live) above in
    let apart : (number_of o == n) ≡ false =
    subst (λ k. (number_of o == k) ≡ false) same (lesser_apart (number_of x) (number_of o) first) in
    ap (λ b. cond b (Some o) (find (λ y. number_of y == n) live)) apart
    ∙ none_above x n live same (and_right (is_lt (by_number x o)) (are_above by_number x live) above)

pub found_all : (P : LiveMessage → Type 0) (p : LiveMessage → Bool) (m : LiveMessage) (live : List LiveMessage)
    → AllByRecursion P live → find p live ≡ Some m → P m
found_all P p m [] all found = absurd (none_some m found)
found_all P p m (x ∷ live) all found = elim (cases_Bool (p x)) [
  | inl hit ↦ subst P (one_some x m (sym (ap (λ t. cond t (Some x) (find p live)) hit) ∙ found)) all.0
  | inr miss ↦ found_all P p m live all.1 (sym (ap (λ t. cond t (Some x) (find p live)) miss) ∙ found)
]

module _ (net : List ℕ) (m m2 : LiveMessage) (same : number_of m2 ≡ number_of m)
    (goes : (row : Row) → IsMsgRow net m row → IsMsgRow net m2 row) where
  abbrev named : LiveMessage → Bool
  named o = number_of o == number_of m

  not_less : (x : LiveMessage) → number_of x ≡ number_of m → by_number m2 x ≡ Less → ⊥
  not_less x is e = let less : nat_cmp (number_of m2) (number_of x) ≡ Less = e in
      grind (arith, nat_tests, less, is, same)

  not_greater : (x : LiveMessage) → number_of x ≡ number_of m → by_number m2 x ≡ Greater → ⊥
  not_greater x is e = let more : nat_cmp (number_of m2) (number_of x) ≡ Greater = e in
      grind (arith, nat_tests, more, is, same)

  not_before : (x : LiveMessage) → by_number x m ≡ Less → by_number m2 x ≡ Less → ⊥
  not_before x below e = let a : nat_cmp (number_of x) (number_of m) ≡ Less = below in
      let b : nat_cmp (number_of m2) (number_of x) ≡ Less = e in grind (arith, nat_tests, a, b, same)

  not_here : (x : LiveMessage) → by_number x m ≡ Less → by_number m2 x ≡ Equal → ⊥
  not_here x below e = let a : nat_cmp (number_of x) (number_of m) ≡ Less = below in
      let b : nat_cmp (number_of m2) (number_of x) ≡ Equal = e in grind (arith, nat_tests, a, b, same)

  pub put_shown : (live : List LiveMessage) (rows : List Row) → IsStrictlySortedBy by_number live
      → find named live ≡ Some m → AreShown (IsMsgRow net) live rows
      → AreShown (IsMsgRow net) (put by_number m2 live) rows
  unfolding IsStrictlySortedBy
  put_shown [] rows sorted found shown = absurd (none_some m found)
  put_shown (x ∷ live) [] sorted found shown = absurd shown
  put_shown (x ∷ live) (r ∷ rows) sorted found shown = elim (cases_Bool (named x)) [
    | inl hit ↦
        let is : number_of x ≡ number_of m = eqb-true (number_of x) (number_of m) hit in
        let one : x ≡ m = one_some x m (sym (ap (λ t. cond t (Some x) (find named live)) hit) ∙ found) in
        put_cases by_number m2 (λ zs. AreShown (IsMsgRow net) zs (r ∷ rows)) x live
        (λ above e. absurd (not_less x is e))
        (λ above e. (goes r (subst (λ o. IsMsgRow net o r) one shown.0), shown.1))
        (λ above e. absurd (not_greater x is e))
        (λ late. absurd (false≢true
        (sym late ∙ above_if_same (λ (o : LiveMessage). number_of o) m2 x live (same ∙ sym is) sorted.0)))
    | inr miss ↦
        let rest : find named live ≡ Some m = sym (ap (λ t. cond t (Some x) (find named live)) miss) ∙ found in
        let below : by_number x m ≡ Less = found_all (λ o. by_number x o ≡ Less) named m live sorted.0 rest in
        put_cases by_number m2 (λ zs. AreShown (IsMsgRow net) zs (r ∷ rows)) x live
        (λ above e. absurd (not_before x below e))
        (λ above e. absurd (not_here x below e))
        (λ above e. absurd (none_some m (sym (none_above m2 (number_of m) live same above) ∙ rest)))
        (λ late. (shown.0, put_shown live rows sorted.1 rest shown.1))
  ]
