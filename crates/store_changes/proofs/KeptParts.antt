-- The rows of the parts of answered bundles: those of one pair of team and key are those of its first arrival, in
-- order.
use Rattle.store_changes.proofs.Common.{◌≡◌, ◌∙◌, ℕ, ◌+◌, ◌<◌, Bool, true, false, cond, ◌&&◌, List, [], ◌∷◌, ◌++◌}
use Rattle.store_changes.proofs.Common.{length, filter, Some, refl, sym, ap, subst, arith, append-nil, AllByRecursion}
use Rattle.store_changes.proofs.Common.{flat_map, option_to_list, IsPermutation, bytes_eq, Less, filter-append}
use Rattle.store_changes.proofs.Common.{IsPermutation-filter, Row, PartReply, Answered, first_arrivals, first_of}
use Rattle.store_changes.proofs.Common.{has_pair, pair_alone, IsSelected, has_text, has_two_texts, AreShown, text_test}
use Rattle.std.proofs.Common.{inl, inr}
use Rattle.std.specs.List.Sorted.{IsStrictlySortedBy}
use Rattle.std.proofs.lemmas.Bool.{cases_Bool}
use Rattle.store_statements.specs.Shown.{parts_order, parts_shown}
use Rattle.store_rows.specs.Listed.{AreListed}
use Rattle.store_rows.specs.Showing.{ShowsPart}
use Rattle.store_rows.proofs.Keys.{number_below, parts_total}
use Rattle.store_rows.proofs.Reading.{selected_shown}
use Rattle.store_changes.specs.Kept.{AreKeptParts, answer_parts, kept_parts, part_rows, part_values}

-- ---- as they are written

pub parts_push : (team key : List ℕ) (place : ℕ) (parts : List PartReply) (p : PartReply)
    → part_rows team key place (parts ++ p ∷ []) ≡ part_rows team key place parts
    ++ part_values team key (place + length parts) p ∷ []
parts_push team key place [] p = let e : place ≡ place + 0 = omega arith in ap (λ n. part_values team key n p ∷ []) e
parts_push team key place (first ∷ parts) p =
    let e : (place + 1) + length parts ≡ place + length (first ∷ parts) = omega arith in
    ap (λ l. part_values team key place first ∷ l)
    (parts_push team key (place + 1) parts p
    ∙ ap (λ n. part_rows team key (place + 1) parts ++ part_values team key n p ∷ []) e)

-- ---- as they are read

module _ (a : Answered) where
  abbrev wanted : Row → Bool
  wanted row = has_two_texts a.team a.key row

  is_wanted : (b : Answered) (place : ℕ) (p : PartReply) → wanted (part_values b.team b.key place p) ≡ has_pair a b
  is_wanted b place p =
      ap (λ t. t && has_text 1 a.key (part_values b.team b.key place p)) (text_test b.team a.team)
      ∙ ap (λ t. bytes_eq b.team a.team && t) (text_test b.key a.key)

  filter_one : (row : Row) (rows : List Row) (t : Bool) → wanted row ≡ t
      → filter wanted (row ∷ rows) ≡ cond t (row ∷ filter wanted rows) (filter wanted rows)
  filter_one row rows t is = ap (λ b. cond b (row ∷ filter wanted rows) (filter wanted rows)) is

  all_stay : (b : Answered) → has_pair a b ≡ true → (place : ℕ) (parts : List PartReply)
      → filter wanted (part_rows b.team b.key place parts) ≡ part_rows b.team b.key place parts
  all_stay b hit place [] = refl
  all_stay b hit place (p ∷ parts) =
      filter_one (part_values b.team b.key place p) (part_rows b.team b.key (place + 1) parts) true
      (is_wanted b place p ∙ hit)
      ∙ ap (λ l. part_values b.team b.key place p ∷ l) (all_stay b hit (place + 1) parts)

  none_stays : (b : Answered) → has_pair a b ≡ false → (place : ℕ) (parts : List PartReply)
      → filter wanted (part_rows b.team b.key place parts) ≡ []
  none_stays b miss place [] = refl
  none_stays b miss place (p ∷ parts) =
      filter_one (part_values b.team b.key place p) (part_rows b.team b.key (place + 1) parts) false
      (is_wanted b place p ∙ miss)
      ∙ none_stays b miss (place + 1) parts

  abbrev filter_arrivals : Answered → List Answered → Bool → List Answered
  filter_arrivals b list t = cond t (b ∷ filter (has_pair a) list) (filter (has_pair a) list)

  of_pair : (list : List Answered)
      → filter wanted (flat_map kept_parts list) ≡ flat_map kept_parts (filter (has_pair a) list)
  of_pair [] = refl
  of_pair (b ∷ list) =
      let rest = flat_map kept_parts list in
      let apart = filter-append wanted (kept_parts b) rest in
      elim (cases_Bool (has_pair a b)) [
        | inl hit ↦
            apart ∙ ap (λ l. l ++ filter wanted rest) (all_stay b hit 1 (answer_parts b.answer))
            ∙ ap (λ l. kept_parts b ++ l) (of_pair list)
            ∙ sym (ap (λ t. flat_map kept_parts (filter_arrivals b list t)) hit)
        | inr miss ↦
            apart ∙ ap (λ l. l ++ filter wanted rest) (none_stays b miss 1 (answer_parts b.answer)) ∙ of_pair list
            ∙ sym (ap (λ t. flat_map kept_parts (filter_arrivals b list t)) miss)
      ]

  own_parts : (h : List Answered) (table : List Row) (first : Answered) → AreKeptParts h table
      → first_of h a ≡ Some first → IsPermutation (filter wanted table) (kept_parts first)
  own_parts h table first kept found =
      subst (IsPermutation (filter wanted table))
      (of_pair (first_arrivals h) ∙ ap (flat_map kept_parts) (pair_alone a h ∙ ap option_to_list found)
      ∙ append-nil (kept_parts first))
      (IsPermutation-filter wanted table (flat_map kept_parts (first_arrivals h)) kept)

-- ---- as they are shown

module _ (team key : List ℕ) where
  abbrev IsPartRow : PartReply → Row → Type 0
  IsPartRow p row = (place : ℕ) × (row ≡ part_values team key place p)

  abbrev IsBelow : Row → Row → Type 0
  IsBelow x y = parts_order x y ≡ Less

  above : (m n : ℕ) (p : PartReply) (parts : List PartReply) → m < n
      → AllByRecursion (IsBelow (part_values team key m p)) (part_rows team key n parts)
  above m n p [] less = tt
  above m n p (q ∷ parts) less = (number_below m n less, above m (n + 1) p parts (omega (arith, less)))

  ascend : (place : ℕ) (parts : List PartReply) → IsStrictlySortedBy parts_order (part_rows team key place parts)
  unfolding IsStrictlySortedBy
  ascend place [] = tt
  ascend place (p ∷ parts) = (above place (place + 1) p parts (omega arith), ascend (place + 1) parts)

  each_row : (place : ℕ) (parts : List PartReply) → AreShown IsPartRow parts (part_rows team key place parts)
  each_row place [] = tt
  each_row place (p ∷ parts) = ((place, refl), each_row (place + 1) parts)

  parts_listed : (rows : List Row) (parts : List PartReply) → IsPermutation rows (part_rows team key 1 parts)
      → AreListed parts_order IsPartRow rows parts
  parts_listed rows parts same =
      record { found = part_rows team key 1 parts; same = same; ascending = ascend 1 parts; each = each_row 1 parts }

pub parts_are_shown : (a : Answered) (h : List Answered) (team key : List ℕ) (table rows : List Row) (first : Answered)
    → AreKeptParts h table → a.team ≡ team → a.key ≡ key
    → first_of h a ≡ Some first → IsSelected (has_two_texts team key) parts_shown parts_order table rows
    → AreShown ShowsPart (answer_parts first.answer) rows
parts_are_shown a h team key table rows first kept is_team is_key found sel =
    selected_shown parts_total (IsPartRow first.team first.key) ShowsPart (has_two_texts a.team a.key) parts_shown table
    rows (answer_parts first.answer)
    (λ p row is. subst (λ r. ShowsPart p (parts_shown r)) (sym is.1) (record { kind = refl; a = refl }))
    (parts_listed first.team first.key (filter (has_two_texts a.team a.key) table) (answer_parts first.answer)
    (own_parts a h table first kept found))
    (subst (λ t. IsSelected (has_two_texts t a.key) parts_shown parts_order table rows) (sym is_team)
    (subst (λ k. IsSelected (has_two_texts team k) parts_shown parts_order table rows) (sym is_key) sel))
