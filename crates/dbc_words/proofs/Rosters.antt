-- What a roster keeps.
use Rattle.dbc_words.proofs.Common.{◌≡◌, ◌<◌, ◌≤◌, ◌∙◌, ◌&&◌, ◌||◌, Bool, true, false, not, ℕ, List, [], ◌∷◌, ◌++◌}
use Rattle.dbc_words.proofs.Common.{length, map, get_or, Option, Some, None, refl, sym, ap, subst, arith, nat_le}
use Rattle.dbc_words.proofs.Common.{AllByRecursion, list_any, remove, bytes_eq, or_parts, bytes_eq-Decides}
use Rattle.std.specs.List.{IsDistinct}
use Rattle.std.proofs.Math.Bool.{or_comm}
use Rattle.std.proofs.lemmas.List.{length-append}
use Rattle.std.proofs.lemmas.List.Edits.{length-remove}
use Rattle.std.proofs.lemmas.Bool.Decides.{nat_tests}
use Rattle.std.proofs.lemmas.List.Folds.{list_any-append}
use Rattle.dbc_words.specs.Limits.{roster_limit}
use Rattle.dbc_words.specs.Named.{AreNamedApart, IsIndexBy, IsNameIndex, IsRoster, has_name}
use Rattle.dbc_words.proofs.NamedThings.{removed_at}
use Rattle.dbc_words.proofs.Naming.{apart-filter, names-remove}
use Rattle.dbc_words.specs.declared.name_set.NameSet.{NameSet}

each_and_last : {A : Type 0} (P : A → Type 0) (xs : List A) (x : A) → AllByRecursion P xs → P x
    → AllByRecursion P (xs ++ x ∷ [])
each_and_last P [] x h p = (p, tt)
each_and_last P (y ∷ xs) x h p = (h.0, each_and_last P xs x h.1 p)

-- one more at the end that is apart from those before
pub apart_and_last : {A : Type 0} (e : A → A → Bool) (xs : List A) (x : A) → IsDistinct e xs
    → list_any (λ a. e a x) xs ≡ false → IsDistinct e (xs ++ x ∷ [])
unfolding IsDistinct
apart_and_last e [] x h none = (tt, tt)
apart_and_last e (y ∷ xs) x h none =
    let parts = or_parts (e y x) (list_any (λ a. e a x) xs) none in
    (each_and_last (λ a. e y a ≡ false) xs x h.0 parts.0, apart_and_last e xs x h.1 parts.1)

-- one more at the end passes the test, or one of those before
pub any_and_last : {A : Type 0} (p : A → Bool) (xs : List A) (x : A)
    → list_any p (xs ++ x ∷ []) ≡ (p x || list_any p xs)
any_and_last p xs x = list_any-append p xs (x ∷ []) ∙ or_comm (list_any p xs) (p x || false)
    ∙ ap (λ b. b || list_any p xs) (or_comm (p x) false)

-- an index of the things is one of other things, after a change to what those have
pub index_by : {A : Type 0} (name : A → List ℕ) (things others : List A) (change : List ℕ → Bool → Bool)
    (old new : Option NameSet)
    → IsNameIndex name things old → IsIndexBy change old new
    → ((n : List ℕ) → has_name name others n ≡ change n (has_name name things n))
    → IsNameIndex name others new
index_by name things others change None new is by same = rw by tt
index_by name things others change (Some old) None is by same = absurd by
index_by name things others change (Some old) (Some new) is by same = λ n. by n ∙ ap (change n) (is n) ∙ sym (same n)

-- and of others that have the same names
same_index : {A : Type 0} (name : A → List ℕ) (things others : List A) (names : Option NameSet)
    → IsNameIndex name things names
    → ((n : List ℕ) → has_name name others n ≡ has_name name things n) → IsNameIndex name others names
same_index name things others None is same = tt
same_index name things others (Some names) is same = λ n. is n ∙ sym (same n)

-- nothing is a roster
pub empty_roster : {A : Type 0} (name : A → List ℕ) (things : List A) → things ≡ [] → IsRoster name things None
unfolding IsDistinct
empty_roster name things none = rw none (record { apart = tt; few = omega arith; index = tt })

-- the same things, with another index of them
pub indexed_roster : {A : Type 0} (name : A → List ℕ) (things same : List A) (names index : Option NameSet)
    → IsRoster name things names
    → same ≡ things → IsNameIndex name things index → IsRoster name same index
indexed_roster name things same names index is e by = rw e (record { apart = is.apart; few = is.few; index = by })

one_more : {A : Type 0} (xs : List A) (x : A) → nat_le roster_limit (length xs) ≡ false
    → length (xs ++ x ∷ []) ≤ roster_limit
one_more xs x h = rw (length-append xs (x ∷ [])) (grind (arith, nat_tests))

-- one more that isn't refused
pub grown_roster : {A : Type 0} (name : A → List ℕ) (things more : List A) (thing : A) (names with : Option NameSet)
    → IsRoster name things names
    → nat_le roster_limit (length things) ≡ false → has_name name things (name thing) ≡ false
    → more ≡ things ++ thing ∷ []
    → IsIndexBy (λ n b. bytes_eq (name thing) n || b) names with → IsRoster name more with
grown_roster name things more thing names with is room new same index =
    rw same (record {
      apart = apart_and_last (λ a b. bytes_eq (name a) (name b)) things thing is.apart new;
      few = one_more things thing room;
      index = index_by name things (things ++ thing ∷ []) (λ n b. bytes_eq (name thing) n || b) names with is.index
          index
          (λ n. any_and_last (λ a. bytes_eq (name a) n) things thing);
    })

-- a copy
pub copied_roster : {A : Type 0} (name : A → List ℕ) (things copies : List A) (names copied : Option NameSet)
    → IsRoster name things names
    → copies ≡ things → IsIndexBy (λ _ b. b) names copied → IsRoster name copies copied
copied_roster name things copies names copied is same index =
    indexed_roster name things copies names copied is same
    (index_by name things things (λ _ b. b) names copied is.index index (λ n. refl))

each_mapped : {A B : Type 0} (P : B → Type 0) (h : A → B) (xs : List A) → AllByRecursion (λ a. P (h a)) xs
    → AllByRecursion P (map h xs)
each_mapped P h [] all = tt
each_mapped P h (x ∷ xs) all = (all.0, each_mapped P h xs all.1)

each_of_mapped : {A B : Type 0} (P : B → Type 0) (h : A → B) (xs : List A) → AllByRecursion P (map h xs)
    → AllByRecursion (λ a. P (h a)) xs
each_of_mapped P h [] all = tt
each_of_mapped P h (x ∷ xs) all = (all.0, each_of_mapped P h xs all.1)

module _ {A B : Type 0} (e : B → B → Bool) (h : A → B) where
  distinct_mapped : (xs : List A) → IsDistinct (λ a b. e (h a) (h b)) xs → IsDistinct e (map h xs)
  unfolding IsDistinct
  distinct_mapped [] apart = tt
  distinct_mapped (x ∷ xs) apart = (each_mapped (λ b. e (h x) b ≡ false) h xs apart.0, distinct_mapped xs apart.1)

  distinct_of_mapped : (xs : List A) → IsDistinct e (map h xs) → IsDistinct (λ a b. e (h a) (h b)) xs
  unfolding IsDistinct
  distinct_of_mapped [] apart = tt
  distinct_of_mapped (x ∷ xs) apart =
      (each_of_mapped (λ b. e (h x) b ≡ false) h xs apart.0, distinct_of_mapped xs apart.1)

  -- things are apart by what h shows of them
  pub apart_by : (xs ys : List A) → map h ys ≡ map h xs → IsDistinct (λ a b. e (h a) (h b)) xs
      → IsDistinct (λ a b. e (h a) (h b)) ys
  apart_by xs ys same apart = distinct_of_mapped ys (subst (IsDistinct e) (sym same) (distinct_mapped xs apart))

any_mapped : {A B : Type 0} (p : B → Bool) (h : A → B) (xs : List A)
    → list_any (λ a. p (h a)) xs ≡ list_any p (map h xs)
any_mapped p h [] = refl
any_mapped p h (x ∷ xs) = ap (λ b. p (h x) || b) (any_mapped p h xs)

-- and pass a test by it
pub any_by : {A B : Type 0} (p : B → Bool) (h : A → B) (xs ys : List A) → map h ys ≡ map h xs
    → list_any (λ a. p (h a)) ys ≡ list_any (λ a. p (h a)) xs
any_by p h xs ys same = any_mapped p h ys ∙ ap (list_any p) same ∙ sym (any_mapped p h xs)

-- things of the same names
pub renamed_roster : {A : Type 0} (name : A → List ℕ) (things others : List A) (names : Option NameSet)
    → IsRoster name things names
    → length others ≡ length things → map name others ≡ map name things → IsRoster name others names
renamed_roster name things others names is long same = record {
  apart = apart_by bytes_eq name things others same is.apart;
  few = omega (arith, is.few, long);
  index = same_index name things others names is.index (λ n. any_by (λ m. bytes_eq m n) name things others same);
}

-- one is taken out
pub shrunk_roster : {A : Type 0} (name : A → List ℕ) (things rest : List A) (n : List ℕ) (i : ℕ) (d : A)
    (names left : Option NameSet) → IsRoster name things names
    → i < length things → bytes_eq (name (get_or things i d)) n ≡ true → rest ≡ remove things i
    → IsIndexBy (λ k b. not (bytes_eq n k) && b) names left → IsRoster name rest left
shrunk_roster name things rest n i d names left is lt e same index =
    rw same (record {
      apart = subst (AreNamedApart name) (sym (removed_at name n things i d is.apart lt e))
          (apart-filter name (λ a. not (bytes_eq (name a) n)) things is.apart);
      few = let l = length-remove things i lt in omega (arith, l, is.few);
      index = index_by name things (remove things i) (λ k b. not (bytes_eq n k) && b) names left is.index index
          (λ k. names-remove name things i d k lt is.apart
          ∙ ap (λ m. not (bytes_eq m k) && has_name name things k)
          ((bytes_eq-Decides (name (get_or things i d)) n).0 e));
    })
