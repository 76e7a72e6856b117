-- The places of one number among those that are in order.
use Rattle.std.proofs.Common.{◌≡◌, ℕ, ◌==◌, ◌++◌, true, false, List, [], ◌∷◌, length, map, cond, refl, ap, ◌∙◌}
use Rattle.std.specs.Prelude.{filter}
use Rattle.std.specs.List.{flat_map}
use Rattle.std.specs.List.Sorted.{IsNonDecreasingBy, IsStableByKey}
use Rattle.std.specs.Ordering.{nat_cmp}
use Rattle.std.proofs.lemmas.List.Elements.{filter-append}
use Rattle.dbc_sheet.specs.declared.message.Message.{Message}
use Rattle.dbc_sheet.specs.declared.sheet.Sheet.{Sheet}
use Rattle.dbc_sheet.specs.declared.signal.Signal.{Signal}
use Rattle.office_spns.specs.Spns.{SpnPlace, places_in}
use Rattle.office_spns.specs.SpnIndex.{AreInOrder, all_places, place_of, signals_in, spn_at}
use Rattle.office_spns.proofs.OfNumber.{has, kept}

-- ---- those of a sheet

of_message : (n : ℕ) (m : Message) (ss : List Signal)
    → filter (has spn_at n) (map (place_of m) ss) ≡ map (place_of m) (filter (λ (s : Signal). s.spn == n) ss)
of_message n m [] = refl
of_message n m (s ∷ ss) =
    elim (s.spn == n) as (λ b.
    cond b (place_of m s ∷ filter (has spn_at n) (map (place_of m) ss)) (filter (has spn_at n) (map (place_of m) ss))
    ≡ map (place_of m) (cond b (s ∷ filter (λ (t : Signal). t.spn == n) ss) (filter (λ (t : Signal). t.spn == n) ss))) [
      | true ↦ ap (λ v. place_of m s ∷ v) (of_message n m ss)
      | false ↦ of_message n m ss
    ]

of_messages : (n : ℕ) (ms : List Message) → filter (has spn_at n) (flat_map signals_in ms) ≡ flat_map (places_in n) ms
of_messages n [] = refl
of_messages n (m ∷ ms) =
    filter-append (has spn_at n) (signals_in m) (flat_map signals_in ms)
    ∙ ap (λ v. v ++ filter (has spn_at n) (flat_map signals_in ms)) (of_message n m m.signals)
    ∙ ap (λ v. places_in n m ++ v) (of_messages n ms)

-- ---- those that a stable sort by the numbers leaves

pub in_order : (s : Sheet) (found sorted : List SpnPlace) → found ≡ all_places s → IsNonDecreasingBy spn_at sorted
    → IsStableByKey spn_at nat_cmp found sorted → length sorted ≡ length found → AreInOrder s sorted
in_order s found sorted all rising stable same = record {
  rising = rising;
  of_number =
      λ n. kept spn_at (λ m p. (p.0, record p.1 { spn = m })) (λ m p. refl) n found sorted stable same
      ∙ ap (filter (has spn_at n)) all ∙ of_messages n s.messages;
}
