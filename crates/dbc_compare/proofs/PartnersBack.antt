-- The partner of a message: it is in the other sheet, and has the message as its own partner.
use Rattle.dbc_compare.proofs.Common.{◌≡◌, ◌==◌, ◌<◌, ◌⊎◌, ◌∙◌, Bool, true, false, ℕ, List, [], ◌∷◌, Option, Some, None}
use Rattle.dbc_compare.proofs.Common.{inl, inr, refl, sym, ap, arith, AllByRecursion, bytes_eq, none_found, some_same}
use Rattle.dbc_compare.proofs.Common.{AreMessages, number_of, Message, partner, thing_named}
use Rattle.std.proofs.Common.{cond}
use Rattle.std.specs.List.Sorted.{IsStrictlySortedBy}
use Rattle.std.specs.declared.cmp.Ordering.TheVariants.{Less}
use Rattle.std.proofs.lemmas.Bool.{cond-false, eq-eqb, eqb-true}
use Rattle.std.proofs.lemmas.Cmp.{ranked}
use Rattle.dbc_words.specs.Named.{has_name}
use Rattle.dbc_words.proofs.NamedThings.{some_none}
use Rattle.dbc_sheet.specs.Messages.{by_number, message_at, message_name}
use Rattle.dbc_sheet.specs.Pairs.{if_new_name, or_else}
use Rattle.dbc_compare.proofs.Members.{In, each_in, find_none, find_only, found_in, in_cons, in_first, in_later}
use Rattle.dbc_compare.proofs.Members.{none_if_empty}
use Rattle.dbc_compare.proofs.ThingLists.{found_named, found_self}

-- ---- ascending numbers

above : (x : Message) (xs : List Message) (y : Message) → AllByRecursion (λ z. by_number x z ≡ Less) xs → In y xs
    → number_of x < number_of y
above x xs y all h = ranked (number_of x) (number_of y) Less (sym (each_in (λ z. by_number x z ≡ Less) xs y all h))

-- each number is that of one message
pub one_number : (xs : List Message) → IsStrictlySortedBy by_number xs → (x y : Message) → In x xs → In y xs
    → number_of x ≡ number_of y → x ≡ y
unfolding IsStrictlySortedBy
one_number [] sorted x y h k same = absurd (none_if_empty [] refl x h)
one_number (z ∷ zs) sorted x y h k same =
    by_places (in_cons x z zs h) (in_cons y z zs k) (λ t u. one_number zs sorted.1 x y t u same)
  where
    by_places : (x ≡ z) ⊎ In x zs → (y ≡ z) ⊎ In y zs → (In x zs → In y zs → x ≡ y) → x ≡ y
    by_places (inl e) (inl f) later = e ∙ sym f
    by_places (inl e) (inr t) later = absurd (omega (arith, above z zs y sorted.0 t, ap number_of e, same))
    by_places (inr t) (inl f) later = absurd (omega (arith, above z zs x sorted.0 t, ap number_of f, same))
    by_places (inr t) (inr u) later = later t u

-- two ascending lists of the same messages are one
pub one_list : (xs ys : List Message) → IsStrictlySortedBy by_number xs → IsStrictlySortedBy by_number ys
    → ((x : Message) → In x xs → In x ys) → ((y : Message) → In y ys → In y xs) → xs ≡ ys
unfolding IsStrictlySortedBy
one_list [] [] rx ry forth back = refl
one_list [] (y ∷ ys) rx ry forth back = absurd (none_if_empty [] refl y (back y (in_first y y ys refl)))
one_list (x ∷ xs) [] rx ry forth back = absurd (none_if_empty [] refl x (forth x (in_first x x xs refl)))
one_list (x ∷ xs) (y ∷ ys) rx ry forth back =
    let heads : x ≡ y = by_places (in_cons x y ys (forth x (in_first x x xs refl)))
    (in_cons y x xs (back y (in_first y y ys refl))) in
    let keys : number_of x ≡ number_of y = ap number_of heads in
    let tails : xs ≡ ys = one_list xs ys rx.1 ry.1
    (λ z h. to_tail z (above x xs z rx.0 h) (in_cons z y ys (forth z (in_later z x xs h))) keys)
    (λ z h. from_tail z (above y ys z ry.0 h) (in_cons z x xs (back z (in_later z y ys h))) keys) in
    λ i. heads i ∷ tails i
  where
    by_places : (x ≡ y) ⊎ In x ys → (y ≡ x) ⊎ In y xs → x ≡ y
    by_places (inl e) k = e
    by_places (inr h) (inl e) = sym e
    by_places (inr h) (inr k) = absurd (omega (arith, above y ys x ry.0 h, above x xs y rx.0 k))

    to_tail : (z : Message) → number_of x < number_of z → (z ≡ y) ⊎ In z ys → number_of x ≡ number_of y → In z ys
    to_tail z lt (inl e) keys = absurd (omega (arith, ap number_of e, keys, lt))
    to_tail z lt (inr t) keys = t

    from_tail : (z : Message) → number_of y < number_of z → (z ≡ x) ⊎ In z xs → number_of x ≡ number_of y → In z xs
    from_tail z lt (inl e) keys = absurd (omega (arith, ap number_of e, keys, lt))
    from_tail z lt (inr t) keys = t

-- ---- the message of a number

pub found_number : (xs : List Message) → AreMessages xs → (x : Message) → In x xs → (n : ℕ) → number_of x ≡ n
    → message_at xs n ≡ Some x
found_number xs are x h n e =
    find_only (λ m. number_of m == n) xs x h (eq-eqb (number_of x) n e)
    (λ y k t. one_number xs are.ascending y x k h (eqb-true (number_of y) n t ∙ sym e))

pub number_found : (xs : List Message) (n : ℕ) (x : Message) → message_at xs n ≡ Some x → In x xs × (number_of x ≡ n)
number_found xs n x e =
    let it = found_in (λ m. number_of m == n) xs x e in (it.0, eqb-true (number_of x) n it.1)

-- ---- partners

-- the one that is found first, or else the other
which_one : (o later : Option Message) (p : Message) → or_else o later ≡ Some p
    → (o ≡ Some p) ⊎ ((o ≡ None) × (later ≡ Some p))
which_one (Some q) later p e = inl e
which_one None later p e = inr (refl, e)

is_new_name : (others : List Message) (o : Option Message) (p : Message) → if_new_name others o ≡ Some p
    → (o ≡ Some p) × (has_name message_name others p.name ≡ false)
is_new_name others None p e = absurd (some_none p (sym e))
is_new_name others (Some q) p e = by_test (has_name message_name others q.name) refl e
  where
    by_test : (b : Bool) → has_name message_name others q.name ≡ b → cond b None (Some q) ≡ Some p
        → (Some q ≡ Some p) × (has_name message_name others p.name ≡ false)
    by_test true h f = absurd (some_none p (sym f))
    by_test false h f = (f, ap (λ (m : Message). has_name message_name others m.name) (sym (some_same q p f)) ∙ h)

-- it has the name; or neither has the other's name, and it has the number
pub which_way : (xs others : List Message) (m p : Message) → partner xs others m ≡ Some p
    → (thing_named message_name xs m.name ≡ Some p)
    ⊎ ((thing_named message_name xs m.name ≡ None) × (message_at xs (number_of m) ≡ Some p)
    × (has_name message_name others p.name ≡ false))
which_way xs others m p e =
    elim (which_one (thing_named message_name xs m.name) (if_new_name others (message_at xs (number_of m))) p e) [
      | inl n ↦ inl n
      | inr r ↦ let it = is_new_name others (message_at xs (number_of m)) p r.1 in inr (r.0, it.0, it.1)
    ]

of_name : (xs others : List Message) (m p : Message) → thing_named message_name xs m.name ≡ Some p
    → partner xs others m ≡ Some p
of_name xs others m p e = ap (λ o. or_else o (if_new_name others (message_at xs (number_of m)))) e

pub partner_in : (xs others : List Message) (m p : Message) → partner xs others m ≡ Some p → In p xs
partner_in xs others m p e = elim (which_way xs others m p e) [
  | inl n ↦ (found_named message_name xs m.name p n).0
  | inr r ↦ (number_found xs (number_of m) p r.1).0
]

pub partner_self : (xs : List Message) → AreMessages xs → (m : Message) → In m xs → partner xs xs m ≡ Some m
partner_self xs are m h = of_name xs xs m m (found_self message_name xs are.apart m h m.name refl)

-- the message of the number, where neither name is in the other list
renamed_back : (old new : List Message) → AreMessages new → (m p : Message) → In m new
    → thing_named message_name old m.name ≡ None → message_at old (number_of m) ≡ Some p
    → has_name message_name new p.name ≡ false → partner new old p ≡ Some m
renamed_back old new are m p h none at unnamed =
    let number : number_of p ≡ number_of m = (number_found old (number_of m) p at).1 in
    let absent : thing_named message_name new p.name ≡ None =
    find_none (λ q. bytes_eq (message_name q) p.name) new unnamed in
    let new_name : has_name message_name old m.name ≡ false =
    none_found (λ q. bytes_eq (message_name q) m.name) old none in
    ap (λ o. or_else o (if_new_name old (message_at new (number_of p)))) absent
    ∙ ap (if_new_name old) (found_number new are m h (number_of p) (sym number))
    ∙ cond-false (has_name message_name old m.name) None (Some m) new_name

pub partner_back : (old new : List Message) → AreMessages old → AreMessages new → (m p : Message) → In m new
    → partner old new m ≡ Some p → partner new old p ≡ Some m
partner_back old new are_old are_new m p h e = elim (which_way old new m p e) [
  | inl n ↦ of_name new old p m
      (found_self message_name new are_new.apart m h p.name (sym (found_named message_name old m.name p n).1))
  | inr r ↦ renamed_back old new are_new m p h r.0 r.1 r.2
]
