-- The release of a number, among the rows of all releases.
use Rattle.store_net.proofs.Common.{◌≡◌, ℕ, pos, List, [], ◌∷◌, Option, Some, None, Bool, true, false, cond, slice_get}
use Rattle.store_net.proofs.Common.{refl, sym, ap, subst, ◌∙◌, arith, find, option_map, is_eq, nat_cmp, nat_tests, Int}
use Rattle.store_net.proofs.Common.{Blob, Row, column, value_cmp, Sheet, Net, Tables, IsSelected, frozen_row}
use Rattle.store_net.proofs.Common.{has_net_and_number, is_of_net, AreListed, AreShown, IsNetAt, RestRows, IsFrozenRow}
use Rattle.store_net.proofs.Common.{IsRowOf, numbered, int_test, releases_total, kept_listed, none_listed, both_tests}
use Rattle.store_net.proofs.Common.{selected_shown, none_first, some_first}
use Rattle.std.proofs.Common.{◌==◌}
use Rattle.std.specs.Prelude.{filter}
use Rattle.dbc_grammar.specs.Reads.{Reads}
use Rattle.store_tables.specs.Selected.{has_number}
use Rattle.store_statements.specs.Shown.{release_order, release_shown, releases_order}
use Rattle.store_rows.proofs.Values.{one_blob}
use Rattle.store_net.specs.Parts.{HasReleases, releases_in}
use Rattle.store_net.specs.Texts.{release_at}

-- what the row of a release shows
abbrev ShowsBody : ℕ × Sheet → Row → Type 0
ShowsBody release row = (text : List ℕ) × (column row 0 ≡ Blob text) × Reads text release.1

abbrev has_this : ℕ → ℕ × Sheet → Bool
has_this number release = release.0 == number

pub its_releases : (name : List ℕ) (t : Tables) (net : Option Net) → IsNetAt name t net
    → HasReleases name t (releases_in net)
its_releases name t None at =
    subst (λ (r : RestRows). AreListed releases_order (IsRowOf frozen_row (IsFrozenRow name)) r.releases [])
    (sym at.rest) none_listed
its_releases name t (Some net) at = at.rest.releases

same_test : (name : List ℕ) (number : ℕ) (release : ℕ × Sheet) (row : Row)
    → IsRowOf frozen_row (IsFrozenRow name) release row → has_this number release ≡ has_number 1 number row
same_test name number release row is =
    let test : is_eq (nat_cmp is.0.number number) ≡ (is.0.number == number) = grind (arith, nat_tests) in
    ap (λ n. n == number) (sym is.1.number) ∙ sym test ∙ ap is_eq (sym (int_test is.0.number number))
    ∙ ap (λ r. is_eq (value_cmp (column r 1) (Int (pos number)))) (sym is.2)

these_shown : (name : List ℕ) (number : ℕ) (t : Tables) (rows : List Row) (releases : List Sheet)
    → HasReleases name t releases
    → IsSelected (has_net_and_number name number) release_shown release_order t.frozen rows
    → AreShown ShowsBody (filter (has_this number) (numbered 1 releases)) rows
these_shown name number t rows releases listed sel =
    let kept = kept_listed (has_this number) (has_number 1 number) (same_test name number)
    (filter (is_of_net name) t.frozen) (numbered 1 releases) listed in
    selected_shown releases_total (IsRowOf frozen_row (IsFrozenRow name)) ShowsBody (has_net_and_number name number)
    release_shown t.frozen rows (filter (has_this number) (numbered 1 releases))
    (λ release row is. (is.0.body.now, ap (λ r. column r 2) is.2, is.1.body))
    (subst (λ l. AreListed releases_order (IsRowOf frozen_row (IsFrozenRow name)) l
    (filter (has_this number) (numbered 1 releases))) (both_tests (is_of_net name) (has_number 1 number) t.frozen)
    kept)
    sel

first_found : {A : Type 0} (p : A → Bool) (items : List A) → slice_get (filter p items) 0 ≡ find p items
first_found p [] = refl
first_found p (a ∷ items) = by_test (p a) (first_found p items)
  where
    by_test : (b : Bool) → slice_get (filter p items) 0 ≡ find p items
        → slice_get (cond b (a ∷ filter p items) (filter p items)) 0 ≡ cond b (Some a) (find p items)
    by_test true rest = refl
    by_test false rest = rest

release_is : (net : Option Net) (number : ℕ) (found : Option (ℕ × Sheet))
    → found ≡ slice_get (filter (has_this number) (numbered 1 (releases_in net))) 0
    → release_at net number ≡ option_map (λ (r : ℕ × Sheet). r.1) found
release_is None number found is = sym (ap (option_map (λ (r : ℕ × Sheet). r.1)) is)
release_is (Some net) number found is =
    sym (ap (option_map (λ (r : ℕ × Sheet). r.1)) (is ∙ first_found (has_this number) (numbered 1 net.releases)))

-- where no row is shown there is no such release
pub no_release : (name : List ℕ) (number : ℕ) (t : Tables) (rows : List Row) (net : Option Net) → IsNetAt name t net
    → IsSelected (has_net_and_number name number) release_shown release_order t.frozen rows → None ≡ slice_get rows 0
    → release_at net number ≡ None
no_release name number t rows net at sel none =
    let shown = these_shown name number t rows (releases_in net) (its_releases name t net at) sel in
    release_is net number None
    (none_first ShowsBody (filter (has_this number) (numbered 1 (releases_in net))) rows shown none)

-- where one is, its body reads as the release
pub its_release : (name : List ℕ) (number : ℕ) (t : Tables) (rows : List Row) (row : Row) (body : List ℕ)
    (net : Option Net) → IsNetAt name t net
    → IsSelected (has_net_and_number name number) release_shown release_order t.frozen rows
    → Some row ≡ slice_get rows 0 → column row 0 ≡ Blob body
    → (release : Sheet) × (release_at net number ≡ Some release) × Reads body release
its_release name number t rows row body net at sel is shown_body =
    let shown = these_shown name number t rows (releases_in net) (its_releases name t net at) sel in
    let first = some_first ShowsBody (filter (has_this number) (numbered 1 (releases_in net))) rows row shown is in
    let release = first.0 in
    let same = one_blob (column row 0) first.2.0 body first.2.1 shown_body in
    (release.1, release_is net number (Some release) first.1, subst (λ (l : List ℕ). Reads l release.1) same first.2.2)
