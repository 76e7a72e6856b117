-- What the rows of queries show.
use Rattle.store_rows.proofs.Common.{◌≡◌, ℕ, ◌+◌, List, [], ◌∷◌, ◌++◌, map, Bool, true, false, cond, not, ◌&&◌, refl}
use Rattle.store_rows.proofs.Common.{sym, ap, subst, ◌∙◌, pos, arith, IsPermutation, IsSorted, is_eq, is_lt, nat_cmp}
use Rattle.store_rows.proofs.Common.{nat_tests, filter-append, Int, IsPermutation-filter, GrantedBlock, IsTotalOrder}
use Rattle.store_rows.proofs.Common.{Ordering, Row, column, value_cmp, Ident, Sheet, SpnBlock, Head, LiveMessage, Spn}
use Rattle.store_rows.proofs.Common.{form_number, IsSelected, net_row, block_row, frozen_row, is_of_net, is_of_form}
use Rattle.store_rows.proofs.Common.{net_order, messages_order, blocks_order, blocks_of_form_order, held_order}
use Rattle.store_rows.proofs.Common.{spns_order, approvals_order, releases_order}
use Rattle.std.proofs.Common.{◌==◌}
use Rattle.std.specs.Prelude.{filter}
use Rattle.store_rows.proofs.Keys.{int_test, net_total, messages_total, blocks_total, blocks_of_form_total, held_total}
use Rattle.store_rows.proofs.Keys.{spns_total, approvals_total, releases_total}
use Rattle.std.proofs.lemmas.List.Kept.{IsSortedBy-filter}
use Rattle.std.proofs.lemmas.List.Sorted.{ranks_by}
use Rattle.store_statements.specs.Rows.{message_row, is_any}
use Rattle.store_statements.specs.Shown.{net_shown, messages_shown, blocks_shown, blocks_of_form_shown, held_shown}
use Rattle.store_statements.specs.Shown.{spns_shown, approvals_shown, releases_shown}
use Rattle.store_rows.specs.Listed.{AreShown, AreListed}
use Rattle.store_rows.specs.Rows.{IsRowOf, IsNetRow, IsMessageRow, IsBlockRow, IsSpnBlockRow, IsHeldRow, IsApprovalRow}
use Rattle.store_rows.specs.Rows.{IsSpnRow, IsFrozenRow, is_granted, numbered}
use Rattle.store_rows.specs.Showing.{ShowsHead, ShowsMessage, ShowsBlock, ShowsSpnBlock, ShowsIdent, ShowsTeam}
use Rattle.store_rows.specs.Showing.{ShowsNumber, ShowsRelease, is_own}
use Rattle.store_rows.proofs.Listing.{found_listed}

shown_map : {A X Y : Type 0} (R : A → X → Type 0) (S : A → Y → Type 0) (f : X → Y)
    → ((a : A) (x : X) → R a x → S a (f x)) → (items : List A) (xs : List X) → AreShown R items xs
    → AreShown S items (map f xs)
shown_map R S f each [] [] all = tt
shown_map R S f each [] (x ∷ xs) all = absurd all
shown_map R S f each (a ∷ items) [] all = absurd all
shown_map R S f each (a ∷ items) (x ∷ xs) all = (each a x all.0, shown_map R S f each items xs all.1)

-- a query that requests the rows of a list shows its items
pub selected_shown : {A : Type 0} {by : Row → Row → Ordering} (o : IsTotalOrder by) (R S : A → Row → Type 0)
    (wanted : Row → Bool) (shown : Row → Row) (table rows : List Row) (items : List A)
    → ((a : A) (x : Row) → R a x → S a (shown x)) → AreListed by R (filter wanted table) items
    → IsSelected wanted shown by table rows → AreShown S items rows
selected_shown o R S wanted shown table rows items each listed sel =
    subst (AreShown S items) (sym sel.is)
    (shown_map R S shown each items sel.found
    (found_listed o (filter wanted table) sel.found items listed sel.same sel.sorted))

pub heads_shown : (name : List ℕ) (table rows : List Row) (heads : List Head)
    → AreListed net_order (IsRowOf net_row (IsNetRow name)) (filter (is_of_net name) table) heads
    → IsSelected (is_of_net name) net_shown net_order table rows → AreShown ShowsHead heads rows
heads_shown name table rows heads listed sel =
    selected_shown net_total (IsRowOf net_row (IsNetRow name)) ShowsHead (is_of_net name) net_shown table rows heads
    (λ h row r. subst (λ x. ShowsHead h (net_shown x)) (sym r.2) (record {
      kind = rw r.1.kind refl;
      reviews = rw r.1.reviews refl;
      phase = record { number = rw r.1.phase refl; submitter = rw r.1.submitter refl };
      text = r.0.frame.now;
      frame = refl;
      reads = r.1.frame;
    })) listed sel

pub live_shown : (name : List ℕ) (table rows : List Row) (live : List LiveMessage)
    → AreListed messages_order (IsRowOf message_row (IsMessageRow name)) (filter (is_of_net name) table) live
    → IsSelected (is_of_net name) messages_shown messages_order table rows → AreShown ShowsMessage live rows
live_shown name table rows live listed sel =
    selected_shown messages_total (IsRowOf message_row (IsMessageRow name)) ShowsMessage (is_of_net name) messages_shown
    table rows live
    (λ m row r. subst (λ x. ShowsMessage m (messages_shown x)) (sym r.2)
    (record { owner = rw r.1.owner refl; body = r.0.body.now; shown = refl; reads = r.1.body })) listed sel

pub held_are_shown : (name : List ℕ) (table rows : List Row) (held : List Ident)
    → AreListed held_order (IsHeldRow name) (filter (is_of_net name) table) held
    → IsSelected (is_of_net name) held_shown held_order table rows → AreShown ShowsIdent held rows
held_are_shown name table rows held listed sel =
    selected_shown held_total (IsHeldRow name) ShowsIdent (is_of_net name) held_shown table rows held
    (λ i row r. (r.0, ap (λ x. column x 1) r.1)) listed sel

pub approvals_are_shown : (name : List ℕ) (table rows : List Row) (teams : List (List ℕ))
    → AreListed approvals_order (IsApprovalRow name) (filter (is_of_net name) table) teams
    → IsSelected (is_of_net name) approvals_shown approvals_order table rows → AreShown ShowsTeam teams rows
approvals_are_shown name table rows teams listed sel =
    selected_shown approvals_total (IsApprovalRow name) ShowsTeam (is_of_net name) approvals_shown table rows teams
    (λ team row r. ap (λ x. column x 1) r) listed sel

pub spn_blocks_are_shown : (table rows : List Row) (blocks : List SpnBlock)
    → AreListed blocks_of_form_order (IsRowOf block_row IsSpnBlockRow) (filter (is_of_form (form_number Spn)) table)
    blocks
    → IsSelected (is_of_form (form_number Spn)) blocks_of_form_shown blocks_of_form_order table rows
    → AreShown ShowsSpnBlock blocks rows
spn_blocks_are_shown table rows blocks listed sel =
    selected_shown blocks_of_form_total (IsRowOf block_row IsSpnBlockRow) ShowsSpnBlock (is_of_form (form_number Spn))
    blocks_of_form_shown table rows blocks
    (λ b row r. subst (λ x. ShowsSpnBlock b (blocks_of_form_shown x)) (sym r.2)
    (record { net = rw r.1.net refl; first = rw r.1.first refl; last = rw r.1.last refl; team = rw r.1.team refl }))
    listed sel

every_row : (rows : List Row) → filter is_any rows ≡ rows
every_row [] = refl
every_row (x ∷ rows) = ap (λ l. x ∷ l) (every_row rows)

pub spns_are_shown : (table rows : List Row) (used : List ℕ) → AreListed spns_order IsSpnRow table used
    → IsSelected is_any spns_shown spns_order table rows → AreShown ShowsNumber used rows
spns_are_shown table rows used listed sel =
    selected_shown spns_total IsSpnRow ShowsNumber is_any spns_shown table rows used (λ n row r. ap (λ x. column x 0) r)
    (subst (λ l. AreListed spns_order IsSpnRow l used) (sym (every_row table)) listed) sel

sheets_alone : (first : ℕ) (releases : List Sheet) (rows : List Row)
    → AreShown (λ (r : ℕ × Sheet) row. ShowsRelease r.1 row) (numbered first releases) rows
    → AreShown ShowsRelease releases rows
sheets_alone first [] [] all = tt
sheets_alone first [] (x ∷ rows) all = absurd all
sheets_alone first (s ∷ releases) [] all = absurd all
sheets_alone first (s ∷ releases) (x ∷ rows) all = (all.0, sheets_alone (first + 1) releases rows all.1)

pub releases_are_shown : (name : List ℕ) (table rows : List Row) (releases : List Sheet)
    → AreListed releases_order (IsRowOf frozen_row (IsFrozenRow name)) (filter (is_of_net name) table)
    (numbered 1 releases)
    → IsSelected (is_of_net name) releases_shown releases_order table rows → AreShown ShowsRelease releases rows
releases_are_shown name table rows releases listed sel =
    sheets_alone 1 releases rows
    (selected_shown releases_total (IsRowOf frozen_row (IsFrozenRow name)) (λ (r : ℕ × Sheet) row. ShowsRelease r.1 row)
    (is_of_net name) releases_shown table rows (numbered 1 releases)
    (λ s row r. subst (λ x. ShowsRelease s.1 (releases_shown x)) (sym r.2)
    (record { text = r.0.body.now; body = refl; reads = r.1.body })) listed sel)

-- ---- a network's own blocks, among all its blocks

map_filter : {X Y : Type 0} (p : X → Bool) (q : Y → Bool) (f : X → Y) → ((x : X) → q (f x) ≡ p x) → (xs : List X)
    → filter q (map f xs) ≡ map f (filter p xs)
map_filter p q f same [] = refl
map_filter p q f same (x ∷ xs) =
    ap (λ b. cond b (f x ∷ filter q (map f xs)) (filter q (map f xs))) (same x)
    ∙ by_test (p x) (map_filter p q f same xs)
  where
    by_test : (b : Bool) → filter q (map f xs) ≡ map f (filter p xs)
        → cond b (f x ∷ filter q (map f xs)) (filter q (map f xs)) ≡ map f (cond b (x ∷ filter p xs) (filter p xs))
    by_test true rest = ap (λ l. f x ∷ l) rest
    by_test false rest = rest

pub both_tests : {X : Type 0} (p q : X → Bool) (xs : List X) → filter q (filter p xs) ≡ filter (λ x. p x && q x) xs
both_tests p q [] = refl
both_tests p q (x ∷ xs) = by_test (p x) (both_tests p q xs)
  where
    by_test : (b : Bool) → filter q (filter p xs) ≡ filter (λ y. p y && q y) xs
        → filter q (cond b (x ∷ filter p xs) (filter p xs)) ≡ cond (b && q x) (x ∷ filter (λ y. p y && q y) xs)
        (filter (λ y. p y && q y) xs)
    by_test true rest = ap (λ l. cond (q x) (x ∷ l) l) rest
    by_test false rest = rest

pub granted_are_shown : (name : List ℕ) (table rows : List Row) (blocks : List GrantedBlock)
    → AreListed blocks_order (IsRowOf block_row (IsBlockRow name)) (filter (is_granted name) table) blocks
    → IsSelected (is_of_net name) blocks_shown blocks_order table rows → AreShown ShowsBlock blocks (filter is_own rows)
granted_are_shown name table rows blocks listed sel =
    let own : Row → Bool = λ row. not (is_of_form (form_number Spn) row) in
    let same : IsPermutation (filter (is_granted name) table) (filter own sel.found) =
    subst (λ l. IsPermutation l (filter own sel.found)) (both_tests (is_of_net name) own table)
    (IsPermutation-filter own (filter (is_of_net name) table) sel.found sel.same) in
    let sorted : IsSorted blocks_order (filter own sel.found) =
    IsSortedBy-filter (λ x y. is_lt (blocks_order x y)) (ranks_by blocks_total (λ row. row)) own sel.found
    sel.sorted in
    let rows_are : filter is_own rows ≡ map blocks_shown (filter own sel.found) = ap (filter is_own) sel.is
    ∙ map_filter own is_own blocks_shown (λ row. refl) sel.found in
    subst (AreShown ShowsBlock blocks) (sym rows_are)
    (shown_map (IsRowOf block_row (IsBlockRow name)) ShowsBlock blocks_shown
    (λ g row r. subst (λ x. ShowsBlock g (blocks_shown x)) (sym r.2)
    (record {
      range = record { form = rw r.1.form refl; first = rw r.1.first refl; last = rw r.1.last refl };
      team =
          rw r.1.team refl;
    }))
    blocks (filter own sel.found)
    (found_listed blocks_total (filter (is_granted name) table) (filter own sel.found) blocks listed same sorted))

-- ---- one more row

pub shown_push : {A X : Type 0} (R : A → X → Type 0) (xs : List X) (x : X) (items : List A)
    → AreShown R items (xs ++ x ∷ []) → (most : List A) × (last : A) × (items ≡ most ++ last ∷ []) × AreShown R most xs
    × R last x
shown_push R [] x [] all = absurd all
shown_push R [] x (a ∷ []) all = ([], a, refl, tt, all.0)
shown_push R [] x (a ∷ b ∷ items) all = absurd all.1
shown_push R (y ∷ ys) x [] all = absurd all
shown_push R (y ∷ ys) x (a ∷ items) all =
    let rest = shown_push R ys x items all.1 in
    (a ∷ rest.0, rest.1, ap (◌∷◌ a) rest.2, (all.0, rest.3), rest.4)

pub shown_none : {A X : Type 0} (R : A → X → Type 0) (items : List A) → AreShown R items [] → items ≡ []
shown_none R [] all = refl
shown_none R (a ∷ items) all = absurd all

-- ---- rows that are a network's own

pub own_form : (row : Row) (form : ℕ) → column row 0 ≡ Int (pos form) → not (form == form_number Spn) ≡ is_own row
own_form row form is =
    let test : is_eq (nat_cmp form (form_number Spn)) ≡ (form == form_number Spn) = grind (arith, nat_tests) in
    ap not (sym test ∙ ap is_eq (sym (int_test form (form_number Spn))))
    ∙ ap (λ v. not (is_eq (value_cmp v (Int (pos (form_number Spn)))))) (sym is)

pub own_last : (rows : List Row) (x : Row) (t : Bool) → is_own x ≡ t
    → filter is_own (rows ++ x ∷ []) ≡ filter is_own rows ++ cond t (x ∷ []) []
own_last rows x t e = filter-append is_own rows (x ∷ []) ∙ ap (λ b. filter is_own rows ++ cond b (x ∷ []) []) e
