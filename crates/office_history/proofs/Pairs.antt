-- The arrivals of one pair of team and key, among the first arrivals: there is one at most.
use Rattle.office_history.proofs.Common.{◌≡◌, Bool, true, false, cond, not, List, [], ◌∷◌, filter, find, Option, Some}
use Rattle.office_history.proofs.Common.{None, refl, sym, ap, ◌∙◌, inl, inr, bytes_eq, cases_Bool, bytes_eq-Decides}
use Rattle.std.proofs.Common.{◌&&◌}
use Rattle.std.specs.Prelude.{slice_get}
use Rattle.std.specs.Option.{option_to_list}
use Rattle.std.proofs.lemmas.Bool.{and_parts}
use Rattle.dbc_words.proofs.Naming.{bytes_eq-flip}
use Rattle.office_history.specs.History.{Answered, first_arrivals, first_of, same_pair}
use Rattle.office_history.proofs.Histories.{others}

pairs : (a b : Answered) → same_pair a b ≡ true → (a.team ≡ b.team) × (a.key ≡ b.key)
pairs a b same =
    let parts = and_parts (bytes_eq a.team b.team) (bytes_eq a.key b.key) same in
    ((bytes_eq-Decides a.team b.team).0 parts.0, (bytes_eq-Decides a.key b.key).0 parts.1)

-- two of one pair are of a third one's pair alike
alike : (a b c : Answered) → same_pair a b ≡ true → same_pair a c ≡ same_pair b c
alike a b c same =
    let is = pairs a b same in
    ap (λ t. bytes_eq t c.team && bytes_eq a.key c.key) is.0 ∙ ap (λ k. bytes_eq b.team c.team && bytes_eq k c.key) is.1

pub turned : (a b : Answered) → same_pair a b ≡ same_pair b a
turned a b = ap (λ t. t && bytes_eq a.key b.key) (bytes_eq-flip a.team b.team)
    ∙ ap (λ t. bytes_eq b.team a.team && t) (bytes_eq-flip a.key b.key)

-- a list that begins with this one, by what the test says of it
left_by : (p : Answered → Bool) (b : Answered) (rest : List Answered) (t : Bool) → p b ≡ t
    → filter p (b ∷ rest) ≡ cond t (b ∷ filter p rest) (filter p rest)
left_by p b rest t is = ap (λ x. cond x (b ∷ filter p rest) (filter p rest)) is

-- what is found in a list is the first of those that pass
find_filter : {X : Type 0} (p : X → Bool) (xs : List X) → find p xs ≡ slice_get (filter p xs) 0
find_filter p [] = refl
find_filter p (x ∷ xs) = elim (cases_Bool (p x)) [
  | inl hit ↦ ap (λ t. cond t (Some x) (find p xs)) hit
      ∙ sym (ap (λ t. slice_get (cond t (x ∷ filter p xs) (filter p xs)) 0) hit)
  | inr miss ↦ ap (λ t. cond t (Some x) (find p xs)) miss ∙ find_filter p xs
      ∙ sym (ap (λ t. slice_get (cond t (x ∷ filter p xs) (filter p xs)) 0) miss)
]

listed : {X : Type 0} (o : Option X) → slice_get (option_to_list o) 0 ≡ o
listed None = refl
listed (Some x) = refl

module _ (a : Answered) where
  abbrev pub has_pair : Answered → Bool
  has_pair b = same_pair b a

  -- where one is of the pair, none of the others is
  none_other : (b : Answered) → same_pair b a ≡ true → (xs : List Answered)
      → filter has_pair (filter (others b) xs) ≡ []
  none_other b hit [] = refl
  none_other b hit (c ∷ xs) = elim (cases_Bool (same_pair b c)) [
    | inl same ↦ ap (filter has_pair) (left_by (others b) c xs false (ap not same)) ∙ none_other b hit xs
    | inr apart ↦
        ap (filter has_pair) (left_by (others b) c xs true (ap not apart))
        ∙ left_by has_pair c (filter (others b) xs) false (turned c a ∙ sym (alike b a c hit) ∙ apart)
        ∙ none_other b hit xs
  ]

  -- where it is not, all that are of the pair are among the others
  all_others : (b : Answered) → same_pair b a ≡ false → (xs : List Answered)
      → filter has_pair (filter (others b) xs) ≡ filter has_pair xs
  all_others b miss [] = refl
  all_others b miss (c ∷ xs) = elim (cases_Bool (same_pair b c)) [
    | inl same ↦
        ap (filter has_pair) (left_by (others b) c xs false (ap not same)) ∙ all_others b miss xs
        ∙ sym (left_by has_pair c xs false (sym (alike b c a same) ∙ miss))
    | inr apart ↦
        ap (filter has_pair) (left_by (others b) c xs true (ap not apart))
        ∙ ap (λ l. cond (has_pair c) (c ∷ l) l) (all_others b miss xs)
  ]

  -- of the first arrivals, only the first one of the pair is of the pair
  pub pair_alone : (h : List Answered) → filter has_pair (first_arrivals h) ≡ option_to_list (first_of h a)
  pair_alone [] = refl
  pair_alone (b ∷ h) =
      let rest = filter (others b) (first_arrivals h) in
      elim (cases_Bool (same_pair b a)) [
        | inl hit ↦ left_by has_pair b rest true hit ∙ ap (λ l. b ∷ l) (none_other b hit (first_arrivals h))
            ∙ sym (ap (λ t. option_to_list (cond t (Some b) (first_of h a))) hit)
        | inr miss ↦ left_by has_pair b rest false miss ∙ all_others b miss (first_arrivals h) ∙ pair_alone h
            ∙ sym (ap (λ t. option_to_list (cond t (Some b) (first_of h a))) miss)
      ]

  -- it is the one that is found among them
  pub pair_found : (h : List Answered) → find has_pair (first_arrivals h) ≡ first_of h a
  pair_found h = find_filter has_pair (first_arrivals h) ∙ ap (λ l. slice_get l 0) (pair_alone h)
      ∙ listed (first_of h a)
