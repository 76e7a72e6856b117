-- Loops that look for the first item that is above a limit, or has the key of an earlier one: the items that they
-- passed, and the set of their keys.
use Rattle.dbc_read.proofs.Common.{◌≡◌, ◌≤◌, ◌<◌, ◌+◌, ◌∙◌, ◌||◌, ℕ, Bool, true, false, cond, not, List, [], ◌∷◌, ◌++◌}
use Rattle.dbc_read.proofs.Common.{length, take, refl, sym, ap, arith, true≢false, AllByRecursion, list_any, is_eq}
use Rattle.dbc_read.proofs.Common.{Ordering, list_any-append, has_name}
use Rattle.std.specs.BTreeSet.{BTreeSet, IsEmpty, Updates, btree_set_len, contains}
use Rattle.std.specs.List.{IsDistinct}
use Rattle.std.proofs.Math.Bool.{or_comm}
use Rattle.std.proofs.lemmas.Bool.{or_parts}
use Rattle.std.proofs.lemmas.List.{length-append}

each_and_last : {A : Type 0} (P : A → Type 0) (xs : List A) (x : A) → AllByRecursion P xs → P x
    → AllByRecursion P (xs ++ x ∷ [])
each_and_last P [] x h p = (p, tt)
each_and_last P (y ∷ xs) x h p = (h.0, each_and_last P xs x h.1 p)

-- one more at the end that is apart from those before
pub apart_and_last : {A : Type 0} (e : A → A → Bool) (xs : List A) (x : A) → IsDistinct e xs
    → list_any (λ a. e a x) xs ≡ false → IsDistinct e (xs ++ x ∷ [])
unfolding IsDistinct
apart_and_last e [] x h none = (tt, tt)
apart_and_last e (y ∷ xs) x h none =
    let parts = or_parts (e y x) (list_any (λ a. e a x) xs) none in
    (each_and_last (λ a. e y a ≡ false) xs x h.0 parts.0, apart_and_last e xs x h.1 parts.1)

-- one more at the end passes the test, or one of those before
pub any_and_last : {A : Type 0} (p : A → Bool) (xs : List A) (x : A)
    → list_any p (xs ++ x ∷ []) ≡ (p x || list_any p xs)
any_and_last p xs x = list_any-append p xs (x ∷ []) ∙ or_comm (list_any p xs) (p x || false)
    ∙ ap (λ b. b || list_any p xs) (or_comm (p x) false)

-- whether one of those before has the name
pub named_before : {A : Type 0} (name : A → List ℕ) (items : List A) (before i : ℕ) (n m : List ℕ) (found b : Bool)
    → before ≡ i → n ≡ m → found ≡ has_name name (take before items) n → found ≡ b
    → has_name name (take i items) m ≡ b
named_before name items before i n m found b at same is which =
    (λ d. has_name name (take (sym at d) items) (sym same d)) ∙ sym is ∙ which

or_else : (t b : Bool) → cond t true b ≡ (t || b)
or_else true b = refl
or_else false b = refl

module _ {A K : Type 0} (cmp : K → K → Ordering) (eq : K → K → Bool) (key : A → K) (limit : ℕ) where
  -- the items that were passed, and the set of their keys
  pub record ArePassed (items : List A) (keys : BTreeSet K) : Type 0 where
    pub apart : IsDistinct (λ a b. eq (key a) (key b)) items
    pub few : length items ≤ limit
    pub len : btree_set_len keys ≡ length items
    pub known : (k : K) → contains cmp keys k ≡ list_any (λ a. eq (key a) k) items

  pub none_passed : (keys : BTreeSet K) → IsEmpty keys → ArePassed [] keys
  unfolding IsDistinct
  none_passed keys empty = record {
    apart = tt;
    few = omega arith;
    len = ap length empty;
    known = λ k. ap (λ (ks : List K). list_any (λ x. is_eq (cmp k x)) ks) empty;
  }

  pub one_passed : ((a b : K) → is_eq (cmp a b) ≡ eq a b) → (items : List A) (item : A) (keys more : BTreeSet K)
      → ArePassed items keys → length items < limit
      → true ≡ not (contains cmp keys (key item)) → Updates cmp keys more (key item) true
      → btree_set_len more ≡ btree_set_len keys + 1 → ArePassed (items ++ item ∷ []) more
  one_passed tied items item keys more h room new updates len = record {
    apart = apart_and_last (λ a b. eq (key a) (key b)) items item h.apart
        (sym (h.known (key item)) ∙ absent (contains cmp keys (key item)) new);
    few = let e = length-append items (item ∷ []) in omega (arith, e, room);
    len = let e = length-append items (item ∷ []) in let was = h.len in omega (arith, e, was, len);
    known = λ k. updates.0 k ∙ ap (λ t. cond t true (contains cmp keys k)) (tied (key item) k)
        ∙ or_else (eq (key item) k) (contains cmp keys k)
        ∙ ap (λ b. eq (key item) k || b) (h.known k) ∙ sym (any_and_last (λ a. eq (key a) k) items item);
  }
    where
      absent : (b : Bool) → true ≡ not b → b ≡ false
      absent true e = absurd (true≢false e)
      absent false e = refl

  -- a key that the set had already is that of one of the items
  pub was_there : (items : List A) (keys : BTreeSet K) → ArePassed items keys → (k : K)
      → false ≡ not (contains cmp keys k) → list_any (λ a. eq (key a) k) items ≡ true
  was_there items keys h k there = sym (h.known k) ∙ present (contains cmp keys k) there
    where
      present : (b : Bool) → false ≡ not b → b ≡ true
      present true e = refl
      present false e = absurd (true≢false (sym e))
