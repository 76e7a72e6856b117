-- What sections say that have one statement for each thing that is not empty: the entries that are kept.
use Rattle.dbc_law.proofs.Common.{◌≡◌, ◌==◌, ◌++◌, ℕ, Bool, true, false, not, cond, List, [], ◌∷◌, Option, Some}
use Rattle.dbc_law.proofs.Common.{if◌then◌else◌, refl, sym, arith, flat_map, nat_tests, value_type_number, ValueType}
use Rattle.dbc_law.proofs.Common.{Integer, Float, Double, Content, ValueTextsAre, ValueText, kept_entries, entries}
use Rattle.dbc_law.proofs.Common.{part_entries}
use Rattle.std.proofs.Common.{true≢false}
use Rattle.std.proofs.lemmas.List.Elements.{filter-append}
use Rattle.dbc_law.proofs.Contents.{comments, texts}
use Rattle.dbc_law.proofs.SayingContents.{States, ◌also◌, no_contents, speaks, states_same}

-- ---- tests of values that are not empty; each fails at the empty one alone

abbrev pub some_of : {A : Type 0} → List A → Bool
some_of [] = false
some_of (x ∷ xs) = true

pub empty_list : {A : Type 0} (xs : List A) → some_of xs ≡ false → xs ≡ []
empty_list [] h = refl
empty_list (x ∷ xs) h = absurd (true≢false h)

abbrev pub some_number : ℕ → Bool
some_number n = not (n == 0)

pub empty_number : (n : ℕ) → some_number n ≡ false → n ≡ 0
empty_number n h = grind (arith, nat_tests)

abbrev pub some_type : ValueType → Bool
some_type t = not (value_type_number t == 0)

pub empty_type : (t : ValueType) → some_type t ≡ false → t ≡ Integer
empty_type Integer h = refl
empty_type Float h = absurd (true≢false h)
empty_type Double h = absurd (true≢false h)

-- ---- one entry

-- where it is kept
abbrev pub entry : {K V : Type 0} → Bool → K → V → List (K × V)
entry keep k v = cond keep ((k, v) ∷ []) []

module _ {K : Type 0} where
  -- what is left out where a test holds
  pub chosen_states : {V : Type 0} {kind : Content → Option (K × V)} (test : Bool) (c : Content) (k : K) (v : V)
      → kind c ≡ Some (k, v)
      → States kind (if test then [] else (c ∷ [])) (entry (not test) k v)
  chosen_states true c k v e = no_contents
  chosen_states false c k v e = speaks e no_contents

  pub comment_states : {kind : Content → Option (K × List ℕ)} (says : List ℕ → Content) (k : K)
      → ((t : List ℕ) → kind (says t) ≡ Some (k, t))
      → (t : List ℕ) → States kind (comments says t) (entry (some_of t) k t)
  comment_states says k e [] = no_contents
  comment_states says k e (b ∷ bs) = speaks (e (b ∷ bs)) no_contents

  pub texts_state : {kind : Content → Option (K × List ValueText)} (number : ℕ) (name : List ℕ) (k : K)
      → ((vs : List ValueText) → kind (ValueTextsAre (Some number) name vs) ≡ Some (k, vs))
      → (vs : List ValueText) → States kind (texts number name vs) (entry (some_of vs) k vs)
  texts_state number name k e [] = no_contents
  texts_state number name k e (v ∷ vs) = speaks (e (v ∷ vs)) no_contents

-- ---- the entries of lists

module _ {K V : Type 0} {kind : Content → Option (K × V)} (keep : V → Bool) where
  pub each_states : {A : Type 0} (key : A → K) (value : A → V) (says : A → List Content)
      → ((x : A) → States kind (says x) (entry (keep (value x)) (key x) (value x))) → (xs : List A)
      → States kind (flat_map says xs) (kept_entries keep (entries key value xs))
  each_states key value says each [] = no_contents
  each_states key value says each (x ∷ xs) =
      states_same (by (keep (value x))) (each x also each_states key value says each xs)
    where
      by : (b : Bool) → entry b (key x) (value x) ++ kept_entries keep (entries key value xs)
          ≡ cond b ((key x, value x) ∷ kept_entries keep (entries key value xs))
          (kept_entries keep (entries key value xs))
      by true = refl
      by false = refl

  -- and those of the parts of each thing in a list
  pub parts_state : {M S : Type 0} (parts : M → List S) (key : M → S → K) (value : S → V) (says : M → List Content)
      → ((m : M) → States kind (says m) (kept_entries keep (entries (key m) value (parts m)))) → (ms : List M)
      → States kind (flat_map says ms) (kept_entries keep (part_entries parts key value ms))
  parts_state parts key value says each [] = no_contents
  parts_state parts key value says each (m ∷ ms) =
      states_same (sym (filter-append (λ (e : K × V). keep e.1) (entries (key m) value (parts m))
      (part_entries parts key value ms)))
      (each m also parts_state parts key value says each ms)
