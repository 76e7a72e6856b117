-- The messages of one number among those that are in order.
use Rattle.page_numbers.proofs.Common.{◌≡◌, ℕ, ◌++◌, true, false, List, [], ◌∷◌, length, map, cond, Option, None, Some}
use Rattle.page_numbers.proofs.Common.{refl, ap, ◌∙◌, flat_map, map-append, filter-append, BlockForm, Message}
use Rattle.std.proofs.Common.{◌==◌}
use Rattle.std.specs.Prelude.{filter}
use Rattle.std.specs.List.Sorted.{IsNonDecreasingBy, IsStableByKey}
use Rattle.std.specs.Ordering.{nat_cmp}
use Rattle.office_spns.proofs.OfNumber.{has, kept}
use Rattle.page_numbers.specs.Index.{AreInOrder, Numbered, all_numbered, has_number, is_number, message_at}
use Rattle.page_numbers.specs.Index.{number_at, number_of, numbered, numbered_if}

-- ---- those of all live messages

of_one : (n : ℕ) (o : Option ℕ) (p : Message) (rest : List Message)
    → map message_at (filter (has number_at n) (numbered_if o p)) ++ rest ≡ cond (is_number n o) (p ∷ rest) rest
of_one n None p rest = refl
of_one n (Some m) p rest =
    elim (m == n) as (λ b. map message_at (cond b ((m, p) ∷ []) []) ++ rest ≡ cond b (p ∷ rest) rest) [
      | true ↦ refl
      | false ↦ refl
    ]

of_all : (form : BlockForm) (n : ℕ) (ps : List Message)
    → map message_at (filter (has number_at n) (flat_map (numbered form) ps)) ≡ filter (has_number form n) ps
of_all form n [] = refl
of_all form n (p ∷ ps) =
    ap (map message_at) (filter-append (has number_at n) (numbered form p) (flat_map (numbered form) ps))
    ∙ map-append message_at (filter (has number_at n) (numbered form p)) (filter (has number_at n) (flat_map (numbered form) ps))
    ∙ ap (λ v. map message_at (filter (has number_at n) (numbered form p)) ++ v) (of_all form n ps)
    ∙ of_one n (number_of form p.ident) p (filter (has_number form n) ps)

-- ---- those that a stable sort by the numbers leaves

pub in_order : (form : BlockForm) (messages : List Message) (found sorted : List Numbered)
    → found ≡ all_numbered form messages
    → IsNonDecreasingBy number_at sorted → IsStableByKey number_at nat_cmp found sorted
    → length sorted ≡ length found → AreInOrder form messages sorted
in_order form messages found sorted all rising stable same = record {
  rising = rising;
  of_number = λ n. ap (map message_at)
      (kept number_at (λ m x. (m, x.1)) (λ m x. refl) n found sorted stable same ∙ ap (filter (has number_at n)) all)
      ∙ of_all form n messages;
}
