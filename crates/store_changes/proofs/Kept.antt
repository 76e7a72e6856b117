-- The rows of answered requests: of one pair of team and key there is one at most, that of its first arrival.
use Rattle.store_changes.proofs.Common.{◌≡◌, ℕ, ◌&&◌, List, [], ◌∷◌, ◌++◌, append-nil, map, filter, Option, Some, None}
use Rattle.store_changes.proofs.Common.{refl, sym, ap, subst, ◌∙◌, arith, IsPermutation, slice_get, flat_map}
use Rattle.store_changes.proofs.Common.{option_to_list, bytes_eq, IsPermutation-refl, IsPermutation-sym}
use Rattle.store_changes.proofs.Common.{IsPermutation-trans, IsPermutation-filter, Blob, Row, column, reply_parts}
use Rattle.store_changes.proofs.Common.{Reply, Answered, first_arrivals, first_of, has_pair, pair_alone, IsSelected}
use Rattle.store_changes.proofs.Common.{has_text, has_two_texts, AreShown, text_test, filter_shown, last_shown}
use Rattle.std.proofs.lemmas.List.Concat.{flat_map-append}
use Rattle.std.proofs.lemmas.List.Sorted.{length_permutation, IsPermutation-append}
use Rattle.sqlite.proofs.Callers.{one_permutation}
use Rattle.office_history.specs.declared.arrival.Answer.{Answer}
use Rattle.office_history.specs.declared.arrival.Answer.TheVariants as answer
use Rattle.office_history.proofs.Histories.{first_again, first_new}
use Rattle.store_statements.specs.Shown.{reply_order, reply_shown}
use Rattle.store_changes.specs.Kept.{AreKept, AreKeptParts, IsKept, ShowsKept, ShowsReply, answer_parts, kept_parts}
use Rattle.store_changes.specs.Kept.{kept_row, part_rows}

-- ---- how the rows go on with a history

pub none_kept : AreKept [] []
none_kept = record { found = []; same = IsPermutation-refl []; each = tt }

pub first_kept : (h : List Answered) (a : Answered) (reply : Reply) (rows : List Row) → first_of h a ≡ None
    → a.answer ≡ answer.Reply reply → AreKept h rows
    → AreKept (h ++ a ∷ []) (rows ++ kept_row a.team a.key a.content reply ∷ [])
first_kept h a reply rows none reported kept =
    let row = kept_row a.team a.key a.content reply in
    record {
      found = kept.found ++ row ∷ [];
      same = IsPermutation-append rows kept.found (row ∷ []) (row ∷ []) kept.same (IsPermutation-refl (row ∷ []));
      each = subst (λ l. AreShown IsKept l (kept.found ++ row ∷ [])) (sym (first_new h a none))
          (last_shown IsKept a row (first_arrivals h) kept.found (reply, reported, refl) kept.each);
    }

pub again_kept : (h : List Answered) (a first : Answered) (rows : List Row) → first_of h a ≡ Some first → AreKept h rows
    → AreKept (h ++ a ∷ []) rows
again_kept h a first rows found kept =
    record {
      found = kept.found;
      same = kept.same;
      each =
          subst (λ l. AreShown IsKept l kept.found) (sym (first_again h a first found)) kept.each;
    }

-- the rows of the parts of a bundle's reply, too
pub first_parts : (h : List Answered) (a : Answered) (reply : Reply) (rows : List Row) → first_of h a ≡ None
    → a.answer ≡ answer.Reply reply → AreKeptParts h rows
    → AreKeptParts (h ++ a ∷ []) (rows ++ part_rows a.team a.key 1 (reply_parts reply))
first_parts h a reply rows none reported kept =
    let own = part_rows a.team a.key 1 (reply_parts reply) in
    let earlier = flat_map kept_parts (first_arrivals h) in
    subst (IsPermutation (rows ++ own))
    (ap (λ (l : List Row). earlier ++ l)
    (sym (append-nil own) ∙ ap (λ (x : Answer). part_rows a.team a.key 1 (answer_parts x) ++ []) (sym reported))
    ∙ sym (flat_map-append kept_parts (first_arrivals h) (a ∷ []))
    ∙ ap (flat_map kept_parts) (sym (first_new h a none)))
    (IsPermutation-append rows earlier own own kept (IsPermutation-refl own))

pub again_parts : (h : List Answered) (a first : Answered) (rows : List Row) → first_of h a ≡ Some first
    → AreKeptParts h rows → AreKeptParts (h ++ a ∷ []) rows
again_parts h a first rows found kept =
    subst (λ l. IsPermutation rows (flat_map kept_parts l)) (sym (first_again h a first found)) kept

-- ---- what the query of a pair's row shows

module _ (a : Answered) where
  wanted : (b : Answered) (row : Row) → IsKept b row → has_pair a b ≡ has_two_texts a.team a.key row
  wanted b row kept =
      subst (λ r. has_pair a b ≡ has_two_texts a.team a.key r) (sym kept.2)
      (sym (ap (λ t. t && has_text 1 a.key (kept_row b.team b.key b.content kept.0)) (text_test b.team a.team)
      ∙ ap (λ t. bytes_eq b.team a.team && t) (text_test b.key a.key)))

  kept_shown : (b : Answered) (row : Row) → IsKept b row → ShowsKept b (reply_shown row)
  kept_shown b row kept = (
    kept.0,
    kept.1,
    subst (λ r. column (reply_shown r) 0 ≡ Blob b.content) (sym kept.2) refl,
    subst (λ r. ShowsReply kept.0 (reply_shown r)) (sym kept.2) (refl, refl, refl, refl),
  )

  alone_shown : (first : Option Answered) (kept found : List Row) → AreShown IsKept (option_to_list first) kept
      → IsPermutation kept found
      → AreShown ShowsKept (option_to_list first) (map reply_shown found)
  alone_shown None [] [] all same = tt
  alone_shown None [] (x ∷ found) all same = absurd (omega (arith, length_permutation [] (x ∷ found) same))
  alone_shown None (x ∷ kept) found all same = absurd all
  alone_shown (Some f) [] found all same = absurd all
  alone_shown (Some f) (x ∷ []) found all same =
      subst (λ l. AreShown ShowsKept (f ∷ []) (map reply_shown l)) (sym (one_permutation x found same))
      (kept_shown f x all.0, tt)
  alone_shown (Some f) (x ∷ y ∷ kept) found all same = absurd all.1

  own_pair : (team key : List ℕ) (table rows : List Row) → a.team ≡ team → a.key ≡ key
      → IsSelected (has_two_texts team key) reply_shown reply_order table rows
      → IsSelected (has_two_texts a.team a.key) reply_shown reply_order table rows
  own_pair team key table rows is_team is_key sel =
      subst (λ t. IsSelected (has_two_texts t a.key) reply_shown reply_order table rows) (sym is_team)
      (subst (λ k. IsSelected (has_two_texts team k) reply_shown reply_order table rows) (sym is_key) sel)

  pair_shown : (h : List Answered) (table rows : List Row) → AreKept h table
      → IsSelected (has_two_texts a.team a.key) reply_shown reply_order table rows
      → AreShown ShowsKept (option_to_list (first_of h a)) rows
  pair_shown h table rows kept sel =
      let requested = has_two_texts a.team a.key in
      let alone = subst (λ l. AreShown IsKept l (filter requested kept.found)) (pair_alone a h)
      (filter_shown (has_pair a) requested wanted (first_arrivals h) kept.found kept.each) in
      let same = IsPermutation-trans (filter requested kept.found) (filter requested table) sel.found
      (IsPermutation-sym (filter requested table) (filter requested kept.found)
      (IsPermutation-filter requested table kept.found kept.same)) sel.same in
      subst (AreShown ShowsKept (option_to_list (first_of h a))) (sym sel.is)
      (alone_shown (first_of h a) (filter requested kept.found) sel.found alone same)

  -- where no row is shown, none of the pair came first
  pub not_kept : (h : List Answered) (team key : List ℕ) (table rows : List Row) → AreKept h table
      → IsSelected (has_two_texts team key) reply_shown reply_order table rows
      → a.team ≡ team → a.key ≡ key → None ≡ slice_get rows 0 → first_of h a ≡ None
  not_kept h team key table [] kept sel is_team is_key none =
      by_case (first_of h a) (pair_shown h table [] kept (own_pair team key table [] is_team is_key sel))
    where
      by_case : (first : Option Answered) → AreShown ShowsKept (option_to_list first) [] → first ≡ None
      by_case None all = refl
      by_case (Some f) all = absurd all
  not_kept h team key table (x ∷ rows) kept sel is_team is_key none = absurd (cc)

  -- a row that is shown is that of the pair's first arrival
  pub is_kept : (h : List Answered) (team key : List ℕ) (table rows : List Row) (row : Row) → AreKept h table
      → IsSelected (has_two_texts team key) reply_shown reply_order table rows
      → a.team ≡ team → a.key ≡ key → Some row ≡ slice_get rows 0 → (f : Answered) × (first_of h a ≡ Some f)
      × ShowsKept f row
  is_kept h team key table [] row kept sel is_team is_key some = absurd (cc)
  is_kept h team key table (x ∷ rows) row kept sel is_team is_key some =
      by_case (first_of h a) (pair_shown h table (x ∷ rows) kept
      (own_pair team key table (x ∷ rows) is_team is_key sel))
    where
      same : x ≡ row
      same = let both : Some row ≡ Some x = some in cc

      by_case : (first : Option Answered) → AreShown ShowsKept (option_to_list first) (x ∷ rows) → (f : Answered)
          × (first ≡ Some f) × ShowsKept f row
      by_case None all = absurd all
      by_case (Some f) all = (f, refl, subst (ShowsKept f) same all.0)
