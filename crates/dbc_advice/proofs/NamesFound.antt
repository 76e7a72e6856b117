-- What a look-up of a name finds.
use Rattle.dbc_advice.proofs.Common.{◌≡◌, ◌<◌, ◌&&◌, ◌||◌, ◌∙◌, ℕ, Bool, true, false, List, [], ◌∷◌, length, get_or}
use Rattle.dbc_advice.proofs.Common.{map, inl, inr, refl, sym, ap, arith, flat_map, list_any, bytes_eq, nat_tests}
use Rattle.dbc_advice.proofs.Common.{list_any-append, number_of, node_name, Message, Signal, key_of, text_of}
use Rattle.std.proofs.Common.{◌==◌, nat_eq, Bor}
use Rattle.std.specs.Prelude.{find}
use Rattle.std.specs.Cmp.{IsTotalOrder}
use Rattle.std.specs.List.{All, AllByRecursion, HoldsAt}
use Rattle.std.specs.List.Sorted.{IsNonDecreasingBy, IsPartitionPoint, IsStrictlySortedBy}
use Rattle.std.specs.Option.{option_map_or}
use Rattle.std.specs.Ordering.{eq_by_cmp, is_eq, nat_cmp, on, ordering_index}
use Rattle.std.specs.declared.cmp.Ordering.{Ordering}
use Rattle.std.specs.declared.cmp.Ordering.TheVariants.{Less, Equal, Greater}
use Rattle.std.proofs.lemmas.Bool.{cases_lt}
use Rattle.std.proofs.lemmas.Cmp.{ranked}
use Rattle.std.proofs.lemmas.List.Folds.{list_any_at, list_any_none}
use Rattle.std.proofs.lemmas.List.Sorted.{list_any-IsPermutation, searchable_from_sorted}
use Rattle.dbc_words.specs.Named.{has_name}
use Rattle.dbc_sheet.specs.Messages.{by_number, message_at}
use Rattle.dbc_sheet.specs.Signals.{signal_name}
use Rattle.dbc_sheet.specs.declared.node.Node.{Node}
use Rattle.dbc_advice.specs.Names.{IsSetOf, keys_of}
use Rattle.dbc_advice.specs.declared.key_set.KeySet.{KeySet}

module _ {K : Type 0} (cmp : K → K → Ordering) (order : IsTotalOrder cmp) (eq : K → K → Bool)
    (tied : (x y : K) → eq x y ≡ eq_by_cmp cmp x y) (set : KeySet K) (keys : List K)
    (is : IsSetOf cmp set keys) where
  alike : (key : K) → list_any (λ k. eq k key) keys ≡ list_any (λ k. eq k key) set.sorted.items
  alike key = list_any-IsPermutation (λ k. eq k key) keys set.sorted.items is.same

  seen : (key : K) (xs : List K) (at : ℕ) → at < length xs → HoldsAt (λ (y : K). cmp y key ≡ Equal) xs at
      → list_any (λ k. eq k key) xs ≡ true
  seen key [] at within equal = absurd (omega (arith, within))
  seen key (x ∷ xs) at within equal =
      list_any_at (λ k. eq k key) (x ∷ xs) at x within (tied (get_or (x ∷ xs) at x) key ∙ ap is_eq (equal x))

  -- where the key is found
  pub there : (key : K) (at : ℕ) → at < length set.sorted.items
      → HoldsAt (λ (y : K). cmp y key ≡ Equal) set.sorted.items at → true ≡ list_any (λ k. eq k key) keys
  there key at within equal = sym (alike key ∙ seen key set.sorted.items at within equal)

  -- where a gap is found
  pub absent : (key : K) (at : ℕ)
      → (IsNonDecreasingBy (λ (y : K). ordering_index (cmp y key)) set.sorted.items
      → IsPartitionPoint (λ (y : K). cmp y key ≡ Less) (λ (y : K). cmp y key ≡ Greater) set.sorted.items at)
      → false ≡ list_any (λ k. eq k key) keys
  absent key at splits =
      let parts = splits (searchable_from_sorted order (λ (k : K). k) set.sorted.items key is.ascending) in
      let apart : All (λ (e : K). eq e key ≡ false) set.sorted.items = λ j d lt.
      let e = get_or set.sorted.items j d in
      elim (cases_lt j at) [
        | inl below ↦ tied e key ∙ ap is_eq (parts.0 j d (omega arith) below)
        | inr above ↦ tied e key ∙ ap is_eq (parts.1 j d above lt)
      ] in
      sym (alike key ∙ list_any_none (λ k. eq k key) set.sorted.items apart)

-- a test of what is seen of each
any_seen : {K J : Type 0} (see : K → J) (q : J → Bool) (keys : List K)
    → list_any q (map see keys) ≡ list_any (λ k. q (see k)) keys
any_seen see q [] = refl
any_seen see q (k ∷ keys) = ap (λ (b : Bool). q (see k) || b) (any_seen see q keys)

-- a test of what each gives
any_given : {K J : Type 0} (give : K → List J) (q : J → Bool) (xs : List K)
    → list_any q (flat_map give xs) ≡ list_any (λ x. list_any q (give x)) xs
any_given give q [] = refl
any_given give q (x ∷ xs) = list_any-append q (give x) (flat_map give xs)
    ∙ ap (λ (b : Bool). list_any q (give x) || b) (any_given give q xs)

and_false : (a : Bool) → false ≡ (a && false)
and_false true = refl
and_false false = refl

and_or : (a x y : Bool) → ((a && x) || (a && y)) ≡ (a && (x || y))
and_or true x y = refl
and_or false x y = refl

-- a test whose first part is the same of all
any_and : {K : Type 0} (a : Bool) (q : K → Bool) (xs : List K) → list_any (λ x. a && q x) xs ≡ (a && list_any q xs)
any_and a q [] = and_false a
any_and a q (x ∷ xs) = ap (λ (b : Bool). (a && q x) || b) (any_and a q xs) ∙ and_or a (q x) (list_any q xs)

module _ {A : Type 0} (key : A → ℕ) (g : A → Bool) where
  -- none after the one of a number has it
  none_after : (x : A) (n : ℕ) (xs : List A) → key x ≡ n → AllByRecursion (λ (y : A). nat_cmp (key x) (key y) ≡ Less) xs
      → list_any (λ y. (key y == n) && g y) xs ≡ false
  none_after x n [] is above = refl
  none_after x n (y ∷ ys) is above =
      let less : key x < key y = ranked _ _ _ (sym above.0) in
      let differs : (key y == n) ≡ false = grind (arith, nat_tests, less, is) in
      ap (λ (b : Bool). (b && g y) || list_any (λ z. (key z == n) && g z) ys) differs ∙ none_after x n ys is above.1

  -- one of the things has the number and passes: the one of the number does
  any_of_number : (n : ℕ) (xs : List A) → IsStrictlySortedBy (on key nat_cmp) xs
      → list_any (λ x. (key x == n) && g x) xs ≡ option_map_or g (find (λ x. key x == n) xs) false
  unfolding IsStrictlySortedBy
  any_of_number n [] sorted = refl
  any_of_number n (x ∷ xs) sorted = by_test (any_of_number n xs sorted.1) (key x == n) refl
    where
      or_false : (b : Bool) → (b || false) ≡ b
      or_false true = refl
      or_false false = refl

      by_test : list_any (λ y. (key y == n) && g y) xs ≡ option_map_or g (find (λ y. key y == n) xs) false → (b : Bool)
          → (key x == n) ≡ b
          → list_any (λ y. (key y == n) && g y) (x ∷ xs) ≡ option_map_or g (find (λ y. key y == n) (x ∷ xs)) false
      by_test others true is =
          let here : key x ≡ n = grind (arith, nat_tests, is) in
          let rest = none_after x n xs here sorted.0 in
          rw (is, rest) (or_false (g x))
      by_test others false is = rw is others

-- the names of nodes
pub node_found : (nodes : List Node) (name : List ℕ) (names : List (Bor (List ℕ)))
    → map text_of names ≡ map node_name nodes
    → list_any (λ (v : Bor (List ℕ)). bytes_eq v.now name) names ≡ has_name node_name nodes name
node_found nodes name names are =
    let q : List ℕ → Bool = λ n. bytes_eq n name in
    sym (any_seen text_of q names) ∙ ap (λ ns. list_any q ns) are ∙ any_seen node_name q nodes

-- the keys of signals
pub signal_found : (messages : List Message) (number : ℕ) (name : List ℕ) (keys : List (ℕ × Bor (List ℕ)))
    → map key_of keys ≡ flat_map keys_of messages → IsStrictlySortedBy by_number messages
    → list_any (λ (k : ℕ × Bor (List ℕ)). nat_eq k.0 number && bytes_eq k.1.now name) keys
    ≡ option_map_or (λ (m : Message). has_name signal_name m.signals name) (message_at messages number) false
signal_found messages number name keys are ascending =
    let q : ℕ × List ℕ → Bool = λ k. nat_eq k.0 number && bytes_eq k.1 name in
    let g : Message → Bool = λ m. has_name signal_name m.signals name in
    let each : (m : Message) → list_any q (keys_of m) ≡ ((number_of m == number) && g m) = λ m.
    any_seen (λ (s : Signal). (number_of m, s.name)) q m.signals
    ∙ any_and (number_of m == number) (λ (s : Signal). bytes_eq s.name name) m.signals in
    let all : list_any (λ (m : Message). list_any q (keys_of m)) messages
    ≡ list_any (λ (m : Message). (number_of m == number) && g m) messages =
    λ i. list_any (λ (m : Message). each m i) messages in
    sym (any_seen key_of q keys) ∙ ap (λ (ks : List (ℕ × List ℕ)). list_any q ks) are ∙ any_given keys_of q messages
    ∙ all ∙ any_of_number number_of g number messages ascending
