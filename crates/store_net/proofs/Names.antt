-- The list of networks: the names that a query of all networks shows are those of the networks, in order, and so are
-- the lines that are written of them.
use Rattle.store_net.proofs.Common.{◌≡◌, ◌<◌, ◌≤◌, ◌+◌, ℕ, suc, List, [], ◌∷◌, ◌++◌, map, length, take, take_all}
use Rattle.store_net.proofs.Common.{get_or, Bool, true, false, cond, not, Some, None, refl, sym, ap, subst, ◌∙◌, arith}
use Rattle.store_net.proofs.Common.{find, AllByRecursion, list_any, is_eq, bytes_eq, Less, false≢true, length-map}
use Rattle.store_net.proofs.Common.{length_permutation, Row, column, value_cmp, Text, Sheet, Head, Net, Tables}
use Rattle.store_net.proofs.Common.{IsSelected, frozen_row, is_of_net, net_row, net_order, nets_text, AreListed}
use Rattle.store_net.proofs.Common.{AreShown, IsNetAt, RestRows, IsFrozenRow, IsNetRow, IsRowOf, numbered, IsNamed}
use Rattle.store_net.proofs.Common.{releases_total, none_listed, both_tests, selected_shown}
use Rattle.std.proofs.Common.{◌||◌}
use Rattle.std.specs.Prelude.{IsPermutation, filter}
use Rattle.std.specs.List.Sorted.{IsStrictlySortedBy}
use Rattle.std.proofs.lemmas.List.{get_or-map}
use Rattle.std.proofs.lemmas.List.Elements.{All-from_recursion}
use Rattle.std.proofs.lemmas.List.Sorted.{IsPermutation-cons, IsPermutation-filter_both, IsPermutation-refl}
use Rattle.std.proofs.lemmas.List.Sorted.{IsPermutation-sym, IsPermutation-trans}
use Rattle.std.proofs.lemmas.Slice.Eq.{bytes_eq-Decides}
use Rattle.sqlite.proofs.Callers.{one_permutation}
use Rattle.sqlite_trees.proofs.ListLemmas.{IsPermutation-filter}
use Rattle.dbc_words.proofs.Naming.{bytes_eq-flip}
use Rattle.office_types.specs.State.{by_name}
use Rattle.office_law.proofs.OrderedNets.{order_shows}
use Rattle.store_statements.specs.Rows.{is_any}
use Rattle.store_statements.specs.Shown.{net_names_order, net_names_shown, release_numbers_order, release_numbers_shown}
use Rattle.columns.proofs.Pieces.{items_more}
use Rattle.office_views.specs.NetList.{line_of, net_line}
use Rattle.store_rows.specs.NetIn.{IsRestAt, rest_of}
use Rattle.store_rows.proofs.Keys.{net_total, other_net, own_text, text_order}
use Rattle.store_rows.proofs.Listing.{found_listed}
use Rattle.store_rows.proofs.Setting.{left_none, left_others}
use Rattle.store_rows.proofs.Values.{one_text}
use Rattle.store_net.specs.Nets.{AreKnownNets, AreNets}

abbrev name_of : Net → List ℕ
name_of net = net.name

abbrev HasName : Row → Type 0
HasName row = (name : List ℕ) × IsNamed name row

-- one row of the name where it is among the networks', and none else
abbrev Alone : List ℕ → Bool → List Row → Type 0
Alone name true rows = (row : Row) × (rows ≡ row ∷ []) × IsNamed name row
Alone name false rows = rows ≡ []

abbrev among : List Net → List ℕ → Bool
among nets name = list_any (λ (net : Net). bytes_eq net.name name) nets

-- ---- rows with names

named_all : (names : List (List ℕ)) (rows : List Row) → AreShown IsNamed names rows → AllByRecursion HasName rows
named_all [] [] all = tt
named_all [] (x ∷ rows) all = absurd all
named_all (n ∷ names) [] all = absurd all
named_all (n ∷ names) (x ∷ rows) all = ((n, all.0), named_all names rows all.1)

kept_named : (test : Row → Bool) (rows : List Row) → AllByRecursion HasName rows
    → AllByRecursion HasName (filter test rows)
kept_named test [] all = tt
kept_named test (x ∷ rows) all = by_test (test x) (kept_named test rows all.1)
  where
    by_test : (b : Bool) → AllByRecursion HasName (filter test rows)
        → AllByRecursion HasName (cond b (x ∷ filter test rows) (filter test rows))
    by_test true rest = (all.0, rest)
    by_test false rest = rest

own_row : (name : List ℕ) (row : Row) → IsNamed name row → is_of_net name row ≡ true
own_row name row is = ap (λ v. is_eq (value_cmp v (Text name))) is ∙ own_text name name refl

no_row : (rows : List Row) → AllByRecursion HasName rows → ((name : List ℕ) → filter (is_of_net name) rows ≡ [])
    → rows ≡ []
no_row [] named none = refl
no_row (x ∷ rows) named none =
    let name = named.0.0 in
    let first : x ∷ filter (is_of_net name) rows ≡ [] =
    sym (ap (λ t. cond t (x ∷ filter (is_of_net name) rows) (filter (is_of_net name) rows))
    (own_row name x named.0.1)) ∙ none name in
    absurd (cc)

both_named : (names others : List (List ℕ)) (rows : List Row) → AreShown IsNamed names rows
    → AreShown IsNamed others rows → names ≡ others
both_named [] [] rows first second = refl
both_named [] (m ∷ others) [] first second = absurd second
both_named [] (m ∷ others) (x ∷ rows) first second = absurd first
both_named (n ∷ names) [] [] first second = absurd first
both_named (n ∷ names) [] (x ∷ rows) first second = absurd second
both_named (n ∷ names) (m ∷ others) [] first second = absurd first
both_named (n ∷ names) (m ∷ others) (x ∷ rows) first second =
    ap (λ v. v ∷ names) (one_text (column x 0) n m first.0 second.0)
    ∙ ap (λ l. m ∷ l) (both_named names others rows first.1 second.1)

-- ---- the rows of networks, in order

above : (net : Net) (row : Row) → IsNamed net.name row → (nets : List Net) (rows : List Row)
    → AllByRecursion (λ other. by_name net other ≡ Less) nets → AreShown IsNamed (map name_of nets) rows
    → AllByRecursion (λ other. net_order row other ≡ Less) rows
above net row is [] [] less all = tt
above net row is [] (x ∷ rows) less all = absurd all
above net row is (n ∷ nets) [] less all = tt
above net row is (n ∷ nets) (x ∷ rows) less all =
    let same : by_name net n ≡ net_order row x = text_order net.name n.name net.name n.name refl refl
    ∙ ap (λ v. value_cmp v (Text n.name)) (sym is) ∙ ap (value_cmp (column row 0)) (sym all.0) in
    (sym same ∙ less.0, above net row is nets rows less.1 all.1)

-- those above a network have other names
not_among : (net : Net) (nets : List Net) → AllByRecursion (λ other. by_name net other ≡ Less) nets
    → among nets net.name ≡ false
not_among net [] less = refl
not_among net (n ∷ nets) less =
    let apart : bytes_eq n.name net.name ≡ false = bytes_eq-flip n.name net.name ∙ sym (order_shows net n)
    ∙ ap is_eq less.0 in
    ap (λ t. t || among nets net.name) apart ∙ not_among net nets less.1

others_alone : (net : Net) (nets : List Net) (rows : List Row) → AllByRecursion (λ other. by_name net other ≡ Less) nets
    → ((name : List ℕ) → Alone name (among (net ∷ nets) name) (filter (is_of_net name) rows))
    → (name : List ℕ) → Alone name (among nets name)
    (filter (is_of_net name) (filter (λ row. not (is_of_net net.name row)) rows))
others_alone net nets rows less alone name = by_test (bytes_eq net.name name) refl
  where
    rest : List Row
    rest = filter (λ row. not (is_of_net net.name row)) rows

    by_test : (b : Bool) → bytes_eq net.name name ≡ b → Alone name (among nets name) (filter (is_of_net name) rest)
    by_test true e =
        let same : net.name ≡ name = (bytes_eq-Decides net.name name).0 e in
        subst (λ n. Alone n (among nets n) (filter (is_of_net n) rest)) same
        (subst (λ t. Alone net.name t (filter (is_of_net net.name) rest)) (sym (not_among net nets less))
        (left_none (is_of_net net.name) rows))
    by_test false e =
        subst (Alone name (among nets name))
        (sym (left_others (is_of_net name) (is_of_net net.name) (other_net net.name net.name name refl e) rows))
        (subst (λ t. Alone name (t || among nets name) (filter (is_of_net name) rows)) e (alone name))

nets_listed : (nets : List Net) (rows : List Row) → IsStrictlySortedBy by_name nets → AllByRecursion HasName rows
    → ((name : List ℕ) → Alone name (among nets name) (filter (is_of_net name) rows))
    → AreListed net_order IsNamed rows (map name_of nets)
unfolding IsStrictlySortedBy
nets_listed [] rows ascending named alone =
    subst (λ l. AreListed net_order IsNamed l []) (sym (no_row rows named alone)) none_listed
nets_listed (net ∷ nets) rows ascending named alone =
    let rest = filter (λ row. not (is_of_net net.name row)) rows in
    let mine = subst (λ t. Alone net.name (t || among nets net.name) (filter (is_of_net net.name) rows))
    ((bytes_eq-Decides net.name net.name).1 refl) (alone net.name) in
    let tail = nets_listed nets rest ascending.1 (kept_named (λ row. not (is_of_net net.name row)) rows named)
    (others_alone net nets rows ascending.0 alone) in
    let split : IsPermutation rows (mine.0 ∷ rest) =
    subst (λ l. IsPermutation rows (l ++ rest)) mine.1
    (IsPermutation-filter_both (is_of_net net.name) (λ row. not (is_of_net net.name row)) (λ row. refl) rows) in
    record {
      found = mine.0 ∷ tail.found;
      same = IsPermutation-trans rows (mine.0 ∷ rest) (mine.0 ∷ tail.found) split
          (IsPermutation-cons mine.0 rest tail.found tail.same);
      ascending = (above net mine.0 mine.2 nets tail.found ascending.0 tail.each, tail.ascending);
      each = (mine.2, tail.each);
    }

-- ---- the rows of a name, as the tables have them

alone_at : (name : List ℕ) (t : Tables) (nets : List Net)
    → IsRestAt name (rest_of name t) (find (λ (net : Net). bytes_eq net.name name) nets)
    → Alone name (among nets name) (filter (is_of_net name) t.net)
alone_at name t [] at = ap (λ (r : RestRows). r.head) at
alone_at name t (net ∷ nets) at = by_test (bytes_eq net.name name) (alone_at name t nets) at
  where
    by_test : (b : Bool) → (IsRestAt name (rest_of name t) (find (λ (n : Net). bytes_eq n.name name) nets)
        → Alone name (among nets name) (filter (is_of_net name) t.net))
        → IsRestAt name (rest_of name t) (cond b (Some net) (find (λ (n : Net). bytes_eq n.name name) nets))
        → Alone name (b || among nets name) (filter (is_of_net name) t.net)
    by_test false rest at = rest at
    by_test true rest at = one_row at.head.found at.head.same at.head.each
      where
        one_row : (found : List Row) → IsPermutation (filter (is_of_net name) t.net) found
            → AreShown (IsRowOf net_row (IsNetRow name)) (net.head ∷ []) found
            → Alone name true (filter (is_of_net name) t.net)
        one_row [] same all = absurd all
        one_row (x ∷ []) same all = (
          x,
          one_permutation x (filter (is_of_net name) t.net)
              (IsPermutation-sym (filter (is_of_net name) t.net) (x ∷ []) same),
          ap (λ r. column r 0) all.0.2
              ∙ ap Text all.0.1.net,
        )
        one_row (x ∷ y ∷ found) same all = absurd all.1

-- the same rows in another order
moved_alone : (name : List ℕ) (b : Bool) (rows rows2 : List Row) → IsPermutation rows rows2 → Alone name b rows
    → Alone name b rows2
moved_alone name true rows rows2 same alone =
    (alone.0, one_permutation alone.0 rows2 (subst (λ l. IsPermutation l rows2) alone.1 same), alone.2)
moved_alone name false rows rows2 same alone = none_permutation rows2 (subst (λ l. IsPermutation l rows2) alone same)
  where
    none_permutation : (l : List Row) → IsPermutation [] l → l ≡ []
    none_permutation [] same = refl
    none_permutation (x ∷ l) same = absurd (omega (arith, length_permutation [] (x ∷ l) same))

shown_names : (names : List (List ℕ)) (rows : List Row) → AreShown IsNamed names (map net_names_shown rows)
    → AreShown IsNamed names rows
shown_names [] [] all = tt
shown_names [] (x ∷ rows) all = absurd all
shown_names (n ∷ names) [] all = absurd all
shown_names (n ∷ names) (x ∷ rows) all = (all.0, shown_names names rows all.1)

pub names_are : (t : Tables) (rows : List Row) (names : List (List ℕ)) (nets : List Net)
    → IsSelected is_any net_names_shown net_names_order t.net rows → AreShown IsNamed names rows → AreKnownNets t nets
    → names ≡ map name_of nets
names_are t rows names nets sel shown are =
    let found = sel.found in
    let these = shown_names names found (subst (AreShown IsNamed names) sel.is shown) in
    let moved : (name : List ℕ) → IsPermutation (filter (is_of_net name) t.net) (filter (is_of_net name) found) =
    λ name.
    subst (λ l. IsPermutation l (filter (is_of_net name) found)) (both_tests is_any (is_of_net name) t.net)
    (IsPermutation-filter (is_of_net name) (filter is_any t.net) found sel.same) in
    let alone : (name : List ℕ) → Alone name (among nets name) (filter (is_of_net name) found) = λ name.
    moved_alone name (among nets name) (filter (is_of_net name) t.net) (filter (is_of_net name) found) (moved name)
    (alone_at name t nets (are.each name)) in
    let listed = nets_listed nets found are.ascending (named_all names found these) alone in
    both_named names (map name_of nets) found these
    (found_listed net_total found found (map name_of nets) listed (IsPermutation-refl found) sel.sorted)

-- whatever the form of their live messages
pub known_nets : (t : Tables) (nets : List Net) → AreNets t nets → AreKnownNets t nets
known_nets t nets are = record { ascending = are.ascending; each = λ name. (are.each name).rest }

-- ---- the line of a network

count_shown : {A X : Type 0} (R : A → X → Type 0) (items : List A) (rows : List X) → AreShown R items rows
    → length rows ≡ length items
count_shown R [] [] all = refl
count_shown R [] (x ∷ rows) all = absurd all
count_shown R (a ∷ items) [] all = absurd all
count_shown R (a ∷ items) (x ∷ rows) all = ap suc (count_shown R items rows all.1)

count_numbered : (first : ℕ) (releases : List Sheet) → length (numbered first releases) ≡ length releases
count_numbered first [] = refl
count_numbered first (s ∷ releases) = ap suc (count_numbered (first + 1) releases)

pub count_is : (name : List ℕ) (t : Tables) (net : Net) (rows : List Row) → IsNetAt name t (Some net)
    → IsSelected (is_of_net name) release_numbers_shown release_numbers_order t.frozen rows
    → length rows ≡ length net.releases
count_is name t net rows there sel =
    let all = selected_shown releases_total (IsRowOf frozen_row (IsFrozenRow name)) (λ _ _. Unit {0}) (is_of_net name)
    release_numbers_shown t.frozen rows (numbered 1 net.releases) (λ _ _ _. tt) there.rest.releases sel in
    count_shown (λ _ _. Unit {0}) (numbered 1 net.releases) rows all ∙ count_numbered 1 net.releases

pub line_is : (name : List ℕ) (net : Net) (head : Head) (releases : ℕ) → net.name ≡ name → Some head ≡ Some net.head
    → releases ≡ length net.releases → line_of name head releases ≡ net_line net
line_is name net head releases named same count =
    let heads : head ≡ net.head = cc in
    ap (λ n. line_of n head releases) (sym named) ∙ ap (λ h. line_of net.name h releases) heads
    ∙ ap (line_of net.name net.head) count

-- ---- one line after the other

none_found : (name : List ℕ) (nets : List Net) → among nets name ≡ false
    → find (λ (net : Net). bytes_eq net.name name) nets ≡ None
none_found name [] none = refl
none_found name (net ∷ nets) none = by_test (bytes_eq net.name name) (none_found name nets) none
  where
    by_test : (b : Bool) → (among nets name ≡ false → find (λ (n : Net). bytes_eq n.name name) nets ≡ None)
        → (b || among nets name) ≡ false
        → cond b (Some net) (find (λ (n : Net). bytes_eq n.name name) nets) ≡ None
    by_test true rest none = absurd (false≢true (sym none))
    by_test false rest none = rest none

each_from : (t : Tables) (nets : List Net) → IsStrictlySortedBy by_name nets
    → ((name : List ℕ) (net : Net) → find (λ (n : Net). bytes_eq n.name name) nets ≡ Some net
    → IsNetAt name t (Some net)) → AllByRecursion (λ (net : Net). IsNetAt net.name t (Some net)) nets
unfolding IsStrictlySortedBy
each_from t [] ascending at = tt
each_from t (net ∷ nets) ascending at =
    let here = at net.name net
    (ap (λ b. cond b (Some net) (find (λ (n : Net). bytes_eq n.name net.name) nets))
    ((bytes_eq-Decides net.name net.name).1 refl)) in (
      here,
      each_from t nets ascending.1
          (λ name one found. at name one (by_test name one ascending.0 found (bytes_eq net.name name) refl)),
    )
  where
    by_test : (name : List ℕ) (one : Net) → AllByRecursion (λ other. by_name net other ≡ Less) nets
        → find (λ (n : Net). bytes_eq n.name name) nets ≡ Some one
        → (b : Bool) → bytes_eq net.name name ≡ b → find (λ (n : Net). bytes_eq n.name name) (net ∷ nets) ≡ Some one
    by_test name one less found false e = ap (λ b. cond b (Some net) (find (λ (n : Net). bytes_eq n.name name) nets)) e
        ∙ found
    by_test name one less found true e =
        let same : net.name ≡ name = (bytes_eq-Decides net.name name).0 e in
        let none = none_found name nets (subst (λ n. among nets n ≡ false) same (not_among net nets less)) in
        let both : None ≡ Some one = sym none ∙ found in
        absurd (cc)

pub each_at : (t : Tables) (nets : List Net) → AreNets t nets
    → AllByRecursion (λ (net : Net). IsNetAt net.name t (Some net)) nets
each_at t nets are = each_from t nets are.ascending (λ name net found. subst (IsNetAt name t) found (are.each name))

name_in : (nets : List Net) (i : ℕ) (name : List ℕ) (d : Net) → i < length nets
    → name ≡ get_or (map name_of nets) i name → name ≡ (get_or nets i d).name
name_in nets i name d low is = is ∙ get_or-map name_of nets i d name low

pub lines_more : (t : Tables) (names : List (List ℕ)) (nets : List Net) (i : ℕ) (name : List ℕ)
    (before line after : List ℕ) → names ≡ map name_of nets
    → AllByRecursion (λ (net : Net). IsNetAt net.name t (Some net)) nets → i < length names → name ≡ get_or names i name
    → before ≡ nets_text (take i nets)
    → ((net : Net) → IsNetAt name t (Some net) → line ≡ net_line net) → after ≡ before ++ line
    → after ≡ nets_text (take (i + 1) nets)
lines_more t names [] i name before line after same there within is reported one more =
    absurd (let low : i < 0 = subst (λ l. i < length l) same within in omega (arith, low))
lines_more t names (net ∷ nets) i name before line after same there within is reported one more =
    let all = net ∷ nets in
    let low : i < length all = subst (λ n. i < n) (ap length same ∙ length-map all name_of) within in
    let this = get_or all i net in
    let named : name ≡ this.name = name_in all i name net low (is ∙ ap (λ l. get_or l i name) same) in
    let here = All-from_recursion (λ (n : Net). IsNetAt n.name t (Some n)) all there i net low in
    items_more net_line all i net before line after low reported
    (one this (subst (λ n. IsNetAt n t (Some this)) (sym named) here)) more

pub lines_whole : (names : List (List ℕ)) (nets : List Net) (i : ℕ) (text : List ℕ) → names ≡ map name_of nets
    → length names ≤ i → text ≡ nets_text (take i nets) → text ≡ nets_text nets
lines_whole names nets i text same ended reported =
    reported ∙ ap nets_text (take_all i nets (subst (λ n. n ≤ i) (ap length same ∙ length-map nets name_of) ended))
