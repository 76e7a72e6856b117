-- Networks of held histories.
use Rattle.store.proofs.Common.{◌≡◌, ℕ, List, [], ◌∷◌, refl, ap, subst, ◌∙◌, All-contains, Row, IsNet, net_named}
use Rattle.store.proofs.Common.{Contains-found, HistoriesLeaveOffices, IsNetAt}
use Rattle.std.proofs.Common.{pos, map}
use Rattle.std.specs.Prelude.{filter, IsPermutation}
use Rattle.std.proofs.lemmas.List.Sorted.{IsPermutation-map}
use Rattle.sqlite.specs.Order.{column}
use Rattle.sqlite.specs.declared.types.Value.{Value}
use Rattle.sqlite.specs.declared.types.Value.TheVariants.{Int}
use Rattle.can_id.specs.Ident.{dbc_number}
use Rattle.office_types.specs.declared.state.LiveMessage.{LiveMessage}
use Rattle.office_law.proofs.OrderedNets.{has}
use Rattle.store_statements.specs.Rows.{is_of_net}
use Rattle.store_rows.specs.Listed.{AreShown}
use Rattle.store_rows.specs.Live.{IsMsgRow}
use Rattle.store.specs.Laws.{HeldNetworksAreClear}

abbrev number_in : Row → Value
number_in row = column row 1

abbrev number_of : LiveMessage → Value
number_of m = Int (pos (dbc_number m.message.ident))

-- rows that stand for live messages have their numbers
numbers_shown : (name : List ℕ) (live : List LiveMessage) (rows : List Row) → AreShown (IsMsgRow name) live rows
    → map number_in rows ≡ map number_of live
numbers_shown name [] [] all = refl
numbers_shown name [] (row ∷ rows) all = absurd all
numbers_shown name (m ∷ live) [] all = absurd all
numbers_shown name (m ∷ live) (row ∷ rows) all =
    let first : number_in row ≡ number_of m = ap number_in all.0.row_is in
    ap (λ v. v ∷ map number_in rows) first ∙ ap (λ l. number_of m ∷ l) (numbers_shown name live rows all.1)

pub held_networks_are_clear : HistoriesLeaveOffices → HeldNetworksAreClear
held_networks_are_clear laws h t office holds legal name net found =
    let same : holds.holds.office ≡ office = laws.one h h holds.holds.office office refl holds.holds.legal legal in
    let kept = laws.kept h office holds.holds.in_range legal in
    let is : IsNet net = All-contains IsNet office.nets net kept.nets (Contains-found (has name) office.nets net
    found) in
    let at = subst (λ n. IsNetAt name t n) (ap (λ o. net_named o name) same ∙ found) (holds.holds.nets name) in
    let listed = at.live.messages in
    record {
      clear = is.live.clear;
      ascending = is.live.sheet.well_formed.together.ascending;
      numbers = subst (IsPermutation (map number_in (filter (is_of_net name) t.msg)))
          (numbers_shown name net.live listed.found listed.each)
          (IsPermutation-map number_in (filter (is_of_net name) t.msg) listed.found listed.same);
    }
