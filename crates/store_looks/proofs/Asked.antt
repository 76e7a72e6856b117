-- The requests of a team: those of its keys, one after the other.
use Rattle.store_looks.proofs.Common.{◌≡◌, ◌∙◌, ℕ, ◌+◌, Bool, true, false, List, [], ◌∷◌, ◌++◌, map, filter, take, Some}
use Rattle.store_looks.proofs.Common.{refl, sym, ap, subst, arith, AllByRecursion, flat_map, bytes_eq, Answered, asked}
use Rattle.store_looks.proofs.Common.{asked_of, AreKept, content_and_answer, kept_answer}
use Rattle.std.proofs.Common.{◌<◌, ◌≤◌, cond, not, ◌&&◌, length, set, get_or}
use Rattle.std.specs.Prelude.{IsPermutation}
use Rattle.std.specs.List.{swap}
use Rattle.std.specs.List.Sorted.{IsStrictlySortedBy, apply_swaps, SwapsInRange}
use Rattle.std.specs.declared.cmp.Ordering.TheVariants.{Less}
use Rattle.std.proofs.Math.ListN.{get_or-map}
use Rattle.std.proofs.lemmas.List.{get_or-map as mapped, length-map, map-set, take_all}
use Rattle.std.proofs.lemmas.List.Elements.{All-from_recursion}
use Rattle.std.proofs.lemmas.Slice.Eq.{bytes_eq-Decides}
use Rattle.base.specs.Keyed.{text_cmp}
use Rattle.sqlite.specs.Order.{Row}
use Rattle.sqlite_trees.proofs.ListLemmas.{all-filter, all-permutation}
use Rattle.office_history.specs.declared.arrival.Answer.{Answer}
use Rattle.office_history.specs.History.{first_arrivals, first_of, same_pair}
use Rattle.office_looks.specs.Requests.{AreRequestsOf, Asked, IsReplied, by_key, is_of_team, replied_to}
use Rattle.columns.proofs.Pieces.{items_more}
use Rattle.store_rows.specs.Listed.{AreShown}
use Rattle.store_changes.specs.Kept.{AreKeysOf, IsKept}
use Rattle.store_changes.specs.declared.requests.KeptRequest.{KeptRequest}
use Rattle.store_looks.specs.Asked.{IsFirstOf}

abbrev key_of : Answered → List ℕ
key_of a = a.key

-- ---- a first arrival is the one that is found under its key

same_bytes : (xs : List ℕ) → bytes_eq xs xs ≡ true
same_bytes xs = (bytes_eq-Decides xs xs).1 refl

same_itself : (a : Answered) → same_pair a a ≡ true
same_itself a = ap (λ t. t && bytes_eq a.key a.key) (same_bytes a.team) ∙ same_bytes a.key

found_after : (b : Answered) (h xs : List Answered) → AllByRecursion (λ a. first_of h a ≡ Some a) xs
    → AllByRecursion (λ a. first_of (b ∷ h) a ≡ Some a) (filter (λ a. not (same_pair b a)) xs)
found_after b h [] all = tt
found_after b h (a ∷ xs) all = by_test (same_pair b a) refl (found_after b h xs all.1)
  where
    rest : List Answered
    rest = filter (λ c. not (same_pair b c)) xs

    by_test : (t : Bool) → same_pair b a ≡ t → AllByRecursion (λ c. first_of (b ∷ h) c ≡ Some c) rest
        → AllByRecursion (λ c. first_of (b ∷ h) c ≡ Some c) (cond (not t) (a ∷ rest) rest)
    by_test true e later = later
    by_test false e later = (ap (λ t. cond t (Some b) (first_of h a)) e ∙ all.0, later)

firsts_found : (h : List Answered) → AllByRecursion (λ a. first_of h a ≡ Some a) (first_arrivals h)
firsts_found [] = tt
firsts_found (b ∷ h) = (
  ap (λ t. cond t (Some b) (first_of h b)) (same_itself b),
  found_after b h (first_arrivals h) (firsts_found h),
)

team_found : (h : List Answered) (team : List ℕ) (xs : List Answered)
    → AllByRecursion (λ a. first_of h a ≡ Some a) xs
    → AllByRecursion (IsFirstOf h team) (filter (is_of_team team) xs)
team_found h team [] all = tt
team_found h team (a ∷ xs) all = by_test (is_of_team team a) refl (team_found h team xs all.1)
  where
    by_test : (t : Bool) → is_of_team team a ≡ t → AllByRecursion (IsFirstOf h team) (filter (is_of_team team) xs)
        → AllByRecursion (IsFirstOf h team) (cond t (a ∷ filter (is_of_team team) xs) (filter (is_of_team team) xs))
    by_test true e later = (((bytes_eq-Decides a.team team).0 e, all.0), later)
    by_test false e later = later

all_replied : (xs : List Answered) (rows : List Row) → AreShown IsKept xs rows → AllByRecursion IsReplied xs
all_replied [] rows all = tt
all_replied (a ∷ xs) [] all = absurd all
all_replied (a ∷ xs) (x ∷ rows) all = ((all.0.0, all.0.1), all_replied xs rows all.1)

pub one_some : (x y : List ℕ × Answer) → Some x ≡ Some y → x ≡ y
one_some x y e = cc

-- ---- the arrivals in the order of their keys

map_swap : (f : Answered → List ℕ) (xs : List Answered) (i j : ℕ) → swap (map f xs) i j ≡ map f (swap xs i j)
map_swap f [] i j = refl
map_swap f (d ∷ ys) i j =
    let xs = d ∷ ys in
    ap (λ k. set (set (map f xs) i k) j (get_or (map f xs) i (f d))) (get_or-map f xs j d)
    ∙ ap (set (set (map f xs) i (f (get_or xs j d))) j) (get_or-map f xs i d)
    ∙ ap (λ l. set l j (f (get_or xs i d))) (sym (map-set f xs i (get_or xs j d)))
    ∙ sym (map-set f (set xs i (get_or xs j d)) j (get_or xs i d))

map_moved : (f : Answered → List ℕ) (xs : List Answered) (moves : List (ℕ × ℕ))
    → apply_swaps (map f xs) moves ≡ map f (apply_swaps xs moves)
map_moved f xs [] = refl
map_moved f xs (p ∷ moves) = ap (λ l. swap l p.0 p.1) (map_moved f xs moves) ∙ map_swap f (apply_swaps xs moves) p.0 p.1

keys_moved : (xs : List Answered) (keys : List (List ℕ)) → IsPermutation (map key_of xs) keys
    → (listed : List Answered) × IsPermutation xs listed × (keys ≡ map key_of listed)
keys_moved xs keys same =
    let below : SwapsInRange (length xs) same.moves =
    subst (λ n. SwapsInRange n same.moves) (length-map xs key_of) same.below in (
      apply_swaps xs same.moves,
      record { moves = same.moves; below = below; is = refl },
      same.is ∙ map_moved key_of xs same.moves,
    )

below_all : (a : Answered) (xs : List Answered) → AllByRecursion (λ k. text_cmp a.key k ≡ Less) (map key_of xs)
    → AllByRecursion (λ b. by_key a b ≡ Less) xs
below_all a [] all = tt
below_all a (b ∷ xs) all = (all.0, below_all a xs all.1)

by_keys : (xs : List Answered) → IsStrictlySortedBy text_cmp (map key_of xs) → IsStrictlySortedBy by_key xs
unfolding IsStrictlySortedBy
by_keys [] ascending = tt
by_keys (a ∷ xs) ascending = (below_all a xs ascending.0, by_keys xs ascending.1)

pub are_requests : (team : List ℕ) (h : List Answered) (rows : List Row) (keys : List (List ℕ)) (requests : List Asked)
    → AreKept h rows → AreKeysOf team h keys
    → ((listed : List Answered) → AllByRecursion (IsFirstOf h team) listed → keys ≡ map key_of listed
    → requests ≡ flat_map asked_of listed) → AreRequestsOf team h requests
are_requests team h rows keys requests kept are one =
    let mine = filter (is_of_team team) (first_arrivals h) in
    let moved = keys_moved mine keys are.same in
    let listed = moved.0 in
    record {
      listed = listed;
      same = moved.1;
      ascending = by_keys listed (subst (IsStrictlySortedBy text_cmp) moved.2 are.ascending);
      replied = All-from_recursion IsReplied listed (all-permutation IsReplied mine listed moved.1
          (all-filter IsReplied (is_of_team team) (first_arrivals h)
          (all_replied (first_arrivals h) kept.found kept.each)));
      are = one listed (all-permutation (IsFirstOf h team) mine listed moved.1
          (team_found h team (first_arrivals h) (firsts_found h))) moved.2;
    }

-- ---- one request after the other

at_key : (listed : List Answered) (i : ℕ) (d : Answered) (key : List ℕ) → i < length listed
    → get_or (map key_of listed) i key ≡ (get_or listed i d).key
at_key listed i d key low = mapped key_of listed i d key low

-- one request more, where the keys are those of the list
pub one_told : (h : List Answered) (team : List ℕ) (keys : List (List ℕ)) (listed : List Answered) (i : ℕ)
    (kept : KeptRequest) (key : List ℕ) (before after : List Asked) → keys ≡ map key_of listed
    → AllByRecursion (IsFirstOf h team) listed → i < length keys → key ≡ get_or keys i key
    → ((a : Answered) → IsFirstOf h team a → a.key ≡ key → kept_answer kept ≡ content_and_answer a)
    → before ≡ flat_map asked_of (take i listed)
    → after ≡ before ++ asked key kept.content kept.reply ∷ [] → after ≡ flat_map asked_of (take (i + 1) listed)
one_told h team keys [] i kept key before after same all within is found told more =
    absurd (let low : i < 0 = subst (λ l. i < length l) same within in omega (arith, low))
one_told h team keys (d ∷ rest) i kept key before after same all within is found told more =
    let listed = d ∷ rest in
    let low : i < length listed = subst (λ n. i < n) (ap length same ∙ length-map listed key_of) within in
    let this = get_or listed i d in
    let named : key ≡ this.key = is ∙ ap (λ l. get_or l i key) same ∙ at_key listed i d key low in
    items_more asked_of listed i d before (asked key kept.content kept.reply ∷ []) after low told
    (ap (λ k. asked k kept.content kept.reply ∷ []) named
    ∙ ap (λ (p : List ℕ × Answer). replied_to this.key p.0 p.1)
    (found this (All-from_recursion (IsFirstOf h team) listed all i d low) (sym named))) more

-- all of them
pub all_told : (keys : List (List ℕ)) (listed : List Answered) (i : ℕ) (requests : List Asked)
    → keys ≡ map key_of listed → length keys ≤ i → requests ≡ flat_map asked_of (take i listed)
    → requests ≡ flat_map asked_of listed
all_told keys listed i requests same ended told =
    let many : length keys ≡ length listed = ap length same ∙ length-map listed key_of in
    told ∙ ap (flat_map asked_of) (take_all i listed (subst (λ n. n ≤ i) many ended))
