-- What is among the live messages after an import.
use Rattle.office_law.proofs.Common.{◌≡◌, ◌≢◌, ◌<◌, ◌⊎◌, not, false, ℕ, List, [], ◌∷◌, map, Contains, inl, inr, sym}
use Rattle.office_law.proofs.Common.{subst, arith, AllByRecursion, nat_cmp, on, Ordering, Less, Equal, ranked}
use Rattle.office_law.proofs.Common.{IsStrictlySortedBy-filter, put, dbc_number, IsSheet, Message, Sheet, by_number}
use Rattle.office_law.proofs.Common.{LiveMessage, Net, is_live, new_messages, owned_by, IsNet, put_all}
use Rattle.std.specs.List.Sorted.{IsStrictlySortedBy}
use Rattle.dbc_sheet.specs.Messages.{by_number as message_order}
use Rattle.office_law.specs.Fresh.{AreJoined}
use Rattle.office_law.proofs.Idents.{not_live, same_number}
use Rattle.office_law.proofs.KeptMessages.{is_identifier}
use Rattle.office_law.proofs.Lists.{Contains-cases, Contains-first, Contains-from_put, Contains-later, Contains-none}
use Rattle.office_law.proofs.Lists.{Contains-put, Contains-put_other, after_first}
use Rattle.office_law.proofs.Sheets.{keeps_message}

module _ {A : Type 0} (order : A → A → Ordering) where
  -- nothing else is there
  pub Contains-from_put_all : (xs ys : List A) (z : A) → Contains (put_all order xs ys) z → Contains xs z
      ⊎ Contains ys z
  Contains-from_put_all [] ys z c = inr c
  Contains-from_put_all (x ∷ xs) ys z c = elim (Contains-from_put_all xs (put order x ys) z c) [
    | inl later ↦ inl (Contains-later x z xs later)
    | inr before ↦ elim (Contains-from_put order x z ys before) [
      | inl same ↦ inl (subst (Contains (x ∷ xs)) (sym same) (Contains-first x xs))
      | inr there ↦ inr there
    ]
  ]

  -- what was there still is, where none of the new ones has its key
  pub Contains-put_all_other : (xs ys : List A) (z : A) → Contains ys z → ((x : A) → Contains xs x → order x z ≢ Equal)
      → Contains (put_all order xs ys) z
  Contains-put_all_other [] ys z c other = c
  Contains-put_all_other (x ∷ xs) ys z c other = elim (Contains-put_other order x z ys c) [
    | inl kept ↦ Contains-put_all_other xs (put order x ys) z kept (λ y d. other y (Contains-later x y xs d))
    | inr equal ↦ absurd (other x (Contains-first x xs) equal)
  ]

-- in ascending order of a number each new one is there
pub Contains-put_all : {A : Type 0} (key : A → ℕ) (xs ys : List A) (z : A) → IsStrictlySortedBy (on key nat_cmp) xs
    → Contains xs z → Contains (put_all (on key nat_cmp) xs ys) z
unfolding IsStrictlySortedBy
Contains-put_all key [] ys z sorted c = absurd (Contains-none z c)
Contains-put_all key (x ∷ xs) ys z sorted c = elim (Contains-cases x z xs c) [
  | inl same ↦ subst (Contains (put_all (on key nat_cmp) xs (put (on key nat_cmp) x ys))) (sym same)
      (Contains-put_all_other (on key nat_cmp) xs (put (on key nat_cmp) x ys) x (Contains-put (on key nat_cmp) x ys)
      (λ y d e. let above : key x < key y = after_first key x xs sorted y d in let level : key y ≡ key x =
      ranked _ _ Equal (sym e) in omega (arith, above, level)))
  | inr later ↦ Contains-put_all key xs (put (on key nat_cmp) x ys) z sorted.1 later
]

-- messages in order are so with their owner
sorted_owned : (team : List ℕ) (ms : List Message) → IsStrictlySortedBy message_order ms
    → IsStrictlySortedBy by_number (map (owned_by team) ms)
unfolding IsStrictlySortedBy
sorted_owned team [] h = tt
sorted_owned team (m ∷ ms) h = (each ms h.0, sorted_owned team ms h.1)
  where
    each : (os : List Message) → AllByRecursion (λ o. message_order m o ≡ Less) os
        → AllByRecursion (λ l. by_number (owned_by team m) l ≡ Less) (map (owned_by team) os)
    each [] k = tt
    each (o ∷ os) k = (k.0, each os k.1)

owner_of : (team : List ℕ) (ms : List Message) (l : LiveMessage) → Contains (map (owned_by team) ms) l
    → Contains ms l.message
owner_of team [] l c = absurd (Contains-none l c)
owner_of team (m ∷ ms) l c = elim (Contains-cases (owned_by team m) l (map (owned_by team) ms) c) [
  | inl same ↦ subst (λ (x : LiveMessage). Contains (m ∷ ms) x.message) (sym same) (Contains-first m ms)
  | inr later ↦ Contains-later m l.message ms (owner_of team ms l later)
]

pub are_joined : (team : List ℕ) (net : Net) (s : Sheet)
    → ((m : Message) → Contains (new_messages net s.messages) m → (is_live net m.ident ≡ false) × Contains s.messages m)
    → IsNet net → IsSheet s
    → AreJoined net.live (put_all by_number (map (owned_by team) (new_messages net s.messages)) net.live)
    (map (owned_by team) (new_messages net s.messages))
are_joined team net s new h sheet =
    let ms = new_messages net s.messages in
    record {
      there = λ m c. Contains-put_all (λ (l : LiveMessage). dbc_number l.message.ident) (map (owned_by team) ms)
          net.live m
          (sorted_owned team ms (IsStrictlySortedBy-filter message_order (λ x. not (is_live net x.ident)) s.messages
          sheet.well_formed.together.ascending)) c;
      kept = λ o c. Contains-put_all_other by_number (map (owned_by team) ms) net.live o c (λ l d equal.
          let w = new l.message (owner_of team ms l d) in
          let level : dbc_number l.message.ident ≡ dbc_number o.message.ident = ranked _ _ Equal (sym equal) in
          not_live net l.message.ident o w.0 c
          (same_number o.message.ident l.message.ident (is_identifier net.head.frame net.live o h.live c)
          (keeps_message s l.message sheet w.1).form.ident (sym level)));
      only = λ o c. Contains-from_put_all by_number (map (owned_by team) ms) net.live o c;
    }
