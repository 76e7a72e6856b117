-- Names in ascending order, each once.
use Rattle.page_changes.proofs.Common.{◌≡◌, ◌∙◌, ℕ, Bool, true, false, cond, List, [], ◌∷◌, map, Option, Some, None}
use Rattle.page_changes.proofs.Common.{refl, sym, ap, subst, AllByRecursion, IsStrictlySortedBy, is_lt, bytes_eq}
use Rattle.page_changes.proofs.Common.{nat_list_cmp_total, Less, text_cmp}
use Rattle.std.proofs.Common.{◌||◌, T}
use Rattle.std.specs.FinMap.{entries-from_sorted, find, from_entries, from_sorted, get-from_entries, get-from_sorted}
use Rattle.std.specs.FinMap.{is_sorted, keys, nat_cmp-IsAntisymmetric, same_map, slice_cmp-IsAntisymmetric}
use Rattle.std.specs.FinMap.Entries.{below_all}
use Rattle.std.specs.List.{list_any}
use Rattle.std.specs.Ordering.{eq_by_cmp}
use Rattle.std.specs.Cmp.Lexicographic.{nat_list_eq_equiv}
use Rattle.std.proofs.lemmas.Bool.{and_from}
use Rattle.std.proofs.lemmas.Map.Keys.{sorted_head, sorted_tail}
use Rattle.std.proofs.lemmas.Map.Text.{is_eq-slice_cmp}
use Rattle.page_parts.specs.Names.{AreAscending, HaveSame, has_name}
use Rattle.page_changes.specs.Names.{ascending}

abbrev pairs : List (List ℕ) → List (List ℕ × Unit {0})
pairs names = map (λ name. (name, tt {0})) names

keys_of_pairs : (names : List (List ℕ)) → map (λ (e : List ℕ × Unit {0}). e.0) (pairs names) ≡ names
keys_of_pairs [] = refl
keys_of_pairs (n ∷ names) = ap (λ v. n ∷ v) (keys_of_pairs names)

below_pairs : (n : List ℕ) (names : List (List ℕ)) → AllByRecursion (λ m. text_cmp n m ≡ Less) names
    → below_all text_cmp n (pairs names) ≡ true
below_pairs n [] h = refl
below_pairs n (m ∷ names) h =
    and_from (is_lt (text_cmp n m)) (below_all text_cmp n (pairs names)) (ap is_lt h.0) (below_pairs n names h.1)

sorted_pairs : (names : List (List ℕ)) → IsStrictlySortedBy text_cmp names → is_sorted text_cmp (pairs names) ≡ true
sorted_pairs [] h = refl
sorted_pairs (n ∷ names) h =
    and_from (below_all text_cmp n (pairs names)) (is_sorted text_cmp (pairs names))
    (below_pairs n names (sorted_head text_cmp n names h)) (sorted_pairs names (sorted_tail text_cmp n names h))

abbrev mark : Bool → Option (Unit {0})
mark b = cond b (Some (tt {0})) None

find_pairs : (q : List ℕ) (names : List (List ℕ))
    → find text_cmp q (pairs names) ≡ mark (list_any (eq_by_cmp text_cmp q) names)
find_pairs q [] = refl
find_pairs q (n ∷ names) =
    elim (eq_by_cmp text_cmp q n) as (λ b.
    cond b (Some (tt {0})) (find text_cmp q (pairs names)) ≡ mark (b || list_any (eq_by_cmp text_cmp q) names)) [
      | true ↦ refl
      | false ↦ find_pairs q names
    ]

-- what rises and has the same names is the names in ascending order
ascending_is : (sorted names : List (List ℕ)) → IsStrictlySortedBy text_cmp sorted
    → ((q : List ℕ) → list_any (eq_by_cmp text_cmp q) sorted ≡ list_any (eq_by_cmp text_cmp q) names)
    → sorted ≡ ascending names
ascending_is sorted names rises same =
    let fits : T (is_sorted text_cmp (pairs sorted)) = subst T (sym (sorted_pairs sorted rises)) tt in
    let maps : from_sorted {R = text_cmp} (pairs sorted) ≡ from_entries {R = text_cmp} (pairs names) =
    same_map nat_list_cmp_total (slice_cmp-IsAntisymmetric nat_cmp-IsAntisymmetric)
    (from_sorted {R = text_cmp} (pairs sorted)) (from_entries {R = text_cmp} (pairs names))
    (λ q. get-from_sorted text_cmp (pairs sorted) q fits ∙ find_pairs q sorted ∙ ap mark (same q)
    ∙ sym (find_pairs q names) ∙ sym (get-from_entries nat_list_cmp_total (pairs names) q)) in
    sym (keys_of_pairs sorted)
    ∙ ap (map (λ (e : List ℕ × Unit {0}). e.0)) (sym (entries-from_sorted text_cmp (pairs sorted) fits))
    ∙ ap (λ m. keys m) maps

-- ---- as names are kept

by_name : (q : List ℕ) (names : List (List ℕ)) → list_any (eq_by_cmp text_cmp q) names ≡ has_name names q
by_name q [] = refl
by_name q (n ∷ names) =
    ap (λ b. b || list_any (eq_by_cmp text_cmp q) names) (is_eq-slice_cmp q n ∙ nat_list_eq_equiv.symm q n)
    ∙ ap (λ b. bytes_eq n q || b) (by_name q names)

pub names_are : (names given : List (List ℕ)) → AreAscending names → HaveSame names given → names ≡ ascending given
names_are names given rises same =
    ascending_is names given rises (λ q. by_name q names ∙ same q ∙ sym (by_name q given))
