-- Differences that are side by side in one message.
use Rattle.page_changes.proofs.Common.{◌≡◌, ◌+◌, ◌++◌, ◌∙◌, Bool, true, false, cond, ℕ, suc, List, [], ◌∷◌, take, drop}
use Rattle.page_changes.proofs.Common.{Option, Some, None, Bor, map, get_or, refl, sym, ap, subst, arith, append-nil}
use Rattle.page_changes.proofs.Common.{append_assoc, prefix_len, false≢true, Decides-eqb, Difference}
use Rattle.std.proofs.Common.{◌*◌, ◌==◌, ◌&&◌}
use Rattle.std.proofs.lemmas.Bool.{and_parts}
use Rattle.std.specs.Prelude.{unwrap_or}
use Rattle.std.specs.List.{filter, find}
use Rattle.base.specs.Ascending.{IsAt, IsGap}
use Rattle.base.proofs.AscendingLists.{find_at, find_gap}
use Rattle.page_changes.specs.Changes.{change_at, is_beside, is_in_message, is_of_message, kept_if, list_of, rank_in}
use Rattle.page_changes.specs.Changes.{rank_of, rank_of_change}
use Rattle.page_changes.specs.Parts.{parts_by}
use Rattle.page_changes.proofs.Cutting.{cut}

-- both are in one message: then both are in a message, of one rank
pub same_message : (x y : Difference) → is_beside x y ≡ true
    → (is_in_message x ≡ true) × (is_in_message y ≡ true) × (rank_of x ≡ rank_of y)
same_message x y e =
    let parts = and_parts (is_in_message x && is_in_message y) (rank_of x == rank_of y) e in
    let inside = and_parts (is_in_message x) (is_in_message y) parts.0 in
    (inside.0, inside.1, (Decides-eqb (rank_of x) (rank_of y)).0 parts.1)

-- of two messages that aren't one the ranks differ
pub other_message : (x y : Difference) → is_in_message x ≡ true → is_in_message y ≡ true → is_beside x y ≡ false
    → (rank_of y ≡ rank_of x → ⊥)
other_message x y first second e same =
    false≢true (sym e ∙ ap (λ b. b && is_in_message y && rank_of x == rank_of y) first
    ∙ ap (λ b. b && rank_of x == rank_of y) second ∙ (Decides-eqb (rank_of x) (rank_of y)).1 (sym same))

pub alike : (x y : Difference) → is_beside x y ≡ true → (z : Difference) → is_beside x z ≡ is_beside y z
alike x y e z =
    let same = same_message x y e in
    ap (λ b. b && is_in_message z && rank_of x == rank_of z) (same.0 ∙ sym same.1)
    ∙ ap (λ n. is_in_message y && is_in_message z && n == rank_of z) same.2

first_test : (own ds : List Difference) (d : Difference) → own ≡ d ∷ ds → is_of_message own ≡ is_in_message d
first_test own ds d e = ap is_of_message e

kept_first : (b : Bool) (own : List Difference) (old parts : List (List Difference))
    → (old ++ kept_if b own) ++ parts ≡ old ++ cond b (own ∷ parts) parts
kept_first true own old parts = append_assoc old (own ∷ []) parts
kept_first false own old parts = ap (λ v. v ++ parts) (append-nil old)

-- one message more
pub message_cut : (count : ℕ) (rest later own after : List Difference) (d : Difference)
    (old new all : List (List Difference)) → rest ≡ d ∷ later → count ≡ prefix_len (is_beside d) later
    → own ≡ take (1 + count) rest → after ≡ drop (1 + count) rest → new ≡ old ++ kept_if (is_in_message d) own
    → old ++ filter is_of_message (parts_by is_beside rest) ≡ all
    → new ++ filter is_of_message (parts_by is_beside after) ≡ all
message_cut count rest later own after d old new all e is own_is after_is new_is before =
    let parts = filter is_of_message (parts_by is_beside after) in
    let next : 1 + count ≡ suc count = omega arith in
    let taken : own ≡ d ∷ take count later = own_is ∙ ap (λ n. take n rest) next ∙ ap (take (suc count)) e in
    let test = first_test own (take count later) d taken in
    ap (λ v. v ++ parts) new_is
    ∙ kept_first (is_in_message d) own old parts
    ∙ ap (λ b. old ++ cond b (own ∷ parts) parts) (sym test)
    ∙ ap (λ v. old ++ filter is_of_message v) (sym (cut is_beside alike count rest later own after d e is own_is after_is))
    ∙ before

-- ---- the message of a number

abbrev list_in : Option (Bor (List Difference)) → Option (List Difference)
list_in None = None
list_in (Some m) = Some (list_of m)

found_list : (n : ℕ) (messages : List (Bor (List Difference)))
    → find (λ m. rank_in m == n) (map list_of messages)
    ≡ list_in (find (λ m. rank_of_change m == n) messages)
found_list n [] = refl
found_list n (m ∷ messages) =
    elim (rank_of_change m == n) as (λ b.
    cond b (Some (list_of m)) (find (λ x. rank_in x == n) (map list_of messages))
    ≡ list_in (cond b (Some m) (find (λ x. rank_of_change x == n) messages))) [
      | true ↦ refl
      | false ↦ found_list n messages
    ]

-- what differs of the message that a search finds, and nothing where it finds none
module _ (n rank i : ℕ) (messages searched : List (Bor (List Difference))) (ranked : rank ≡ 2 * n)
    (same : searched ≡ messages) where
  pub change_found : (read : List (Bor (List Difference))) (m : Bor (List Difference)) → read ≡ messages
      → IsAt rank_of_change searched rank i → m ≡ get_or read i m → list_of m ≡ change_at (map list_of messages) n
  change_found read m f at is =
      let here = subst (λ r. IsAt rank_of_change messages r i) ranked
      (subst (λ ms. IsAt rank_of_change ms rank i) same at) in
      ap list_of (is ∙ ap (λ ms. get_or ms i m) f)
      ∙ sym (ap (λ o. unwrap_or o []) (found_list (2 * n) messages
      ∙ ap list_in (find_at rank_of_change messages (2 * n) i m here)))

  pub change_missing : IsGap rank_of_change searched rank i → [] ≡ change_at (map list_of messages) n
  change_missing gap =
      let here = subst (λ r. IsGap rank_of_change messages r i) ranked
      (subst (λ ms. IsGap rank_of_change ms rank i) same gap) in
      sym (ap (λ o. unwrap_or o []) (found_list (2 * n) messages
      ∙ ap list_in (find_gap rank_of_change messages (2 * n) i here)))
