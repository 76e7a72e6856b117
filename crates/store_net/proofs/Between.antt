-- The queries on a range of numbers show the identifiers of live messages, and the held ones, that are in it.
use Rattle.store_net.proofs.Common.{◌≡◌, ◌∙◌, ℕ, pos, Bool, true, false, cond, List, [], ◌∷◌, filter, map, refl, sym}
use Rattle.store_net.proofs.Common.{ap, subst, AllByRecursion, nat_cmp, Int, Row, column, value_cmp, IsIdentifier}
use Rattle.store_net.proofs.Common.{dbc_number, Ident, LiveMessage, IsSelected, Tables, is_of_net, msgs_order}
use Rattle.store_net.proofs.Common.{AreListed, AreShown, AreLiveRows, IsMsgRow, live_rows, int_test, kept_listed}
use Rattle.store_net.proofs.Common.{both_tests, selected_shown}
use Rattle.std.proofs.Common.{◌&&◌}
use Rattle.std.specs.Ordering.{is_ge, is_le}
use Rattle.store_statements.specs.Rows.{has_number_between, is_between}
use Rattle.store_statements.specs.Shown.{held_order, held_shown, msg_numbers_order, msg_numbers_shown}
use Rattle.store_rows.specs.Showing.{ShowsIdent}
use Rattle.store_rows.specs.Rows.{IsHeldRow}
use Rattle.store_rows.proofs.Keys.{held_total}
use Rattle.store_rows.proofs.LiveRows.{msgs_total}
use Rattle.store_net.specs.Numbers.{HasTaken, idents_between, is_in, live_idents}
use Rattle.store_net.specs.Parts.{HasHeld}
use Rattle.store_net.specs.declared.ranges.TakenTable.{TakenTable}
use Rattle.store_net.specs.declared.ranges.TakenTable.TheVariants.{Live, Held}

abbrev ident_of_live : LiveMessage → Ident
ident_of_live m = m.message.ident

shown_mapped : (items : List LiveMessage) (rows : List Row)
    → AreShown (λ m row. ShowsIdent (ident_of_live m) row) items rows
    → AreShown ShowsIdent (map ident_of_live items) rows
shown_mapped [] [] shown = tt
shown_mapped [] (r ∷ rows) shown = absurd shown
shown_mapped (m ∷ items) [] shown = absurd shown
shown_mapped (m ∷ items) (r ∷ rows) shown = (shown.0, shown_mapped items rows shown.1)

idents_of_kept : (p : Ident → Bool) (live : List LiveMessage)
    → map ident_of_live (filter (λ m. p (ident_of_live m)) live) ≡ filter p (map ident_of_live live)
idents_of_kept p [] = refl
idents_of_kept p (m ∷ live) = by_test (p (ident_of_live m)) (idents_of_kept p live)
  where
    by_test : (b : Bool) → map ident_of_live (filter (λ o. p (ident_of_live o)) live)
        ≡ filter p (map ident_of_live live)
        → map ident_of_live (cond b (m ∷ filter (λ o. p (ident_of_live o)) live)
        (filter (λ o. p (ident_of_live o)) live)) ≡ cond b (ident_of_live m ∷ filter p (map ident_of_live live))
        (filter p (map ident_of_live live))
    by_test true rest = ap (λ l. ident_of_live m ∷ l) rest
    by_test false rest = rest

module _ (name : List ℕ) (t : Tables) (live : List LiveMessage) (h : AreLiveRows name (live_rows name t) live) where
  module _ (first last : ℕ) (rows : List Row)
      (sel : IsSelected (has_number_between name first last) msg_numbers_shown msg_numbers_order t.msg rows) where
    abbrev in_it : Ident → Bool
    in_it i = is_in first last (dbc_number i)

    in_row : (m : LiveMessage) (row : Row) → IsMsgRow name m row
        → in_it (ident_of_live m) ≡ is_between first last (column row 1)
    in_row m row r =
        let number : ℕ = dbc_number (ident_of_live m) in
        ap (λ c. is_ge c && is_le (nat_cmp number last)) (sym (int_test number first))
        ∙ ap (λ c. is_ge (value_cmp (Int (pos number)) (Int (pos first))) && is_le c) (sym (int_test number last))
        ∙ ap (λ x. is_between first last (column x 1)) (sym r.row_is)

    pub live_between : AreShown ShowsIdent (idents_between first last (live_idents live)) rows
    live_between =
        let kept = filter (λ m. in_it (ident_of_live m)) live in
        subst (λ l. AreShown ShowsIdent l rows) (idents_of_kept in_it live)
        (shown_mapped kept rows
        (selected_shown msgs_total (IsMsgRow name) (λ m row. ShowsIdent (ident_of_live m) row)
        (has_number_between name first last) msg_numbers_shown t.msg rows kept
        (λ m row r. (r.identifier, ap (λ x. column x 1) r.row_is))
        (subst (λ l. AreListed msgs_order (IsMsgRow name) l kept)
        (both_tests (is_of_net name) (λ row. is_between first last (column row 1)) t.msg)
        (kept_listed (λ m. in_it (ident_of_live m)) (λ row. is_between first last (column row 1)) in_row
        (filter (is_of_net name) t.msg) live h.messages)) sel))

  -- what live messages have are identifiers
  live_are_identifiers : AllByRecursion IsIdentifier (live_idents live)
  live_are_identifiers = each live h.messages.found h.messages.each
    where
      each : (items : List LiveMessage) (rows : List Row) → AreShown (IsMsgRow name) items rows
          → AllByRecursion IsIdentifier (live_idents items)
      each [] rows shown = tt
      each (m ∷ items) [] shown = absurd shown
      each (m ∷ items) (r ∷ rows) shown = (shown.0.identifier, each items rows shown.1)

-- ---- held ones

module _ (name : List ℕ) (t : Tables) (held : List Ident) (h : HasHeld name t held) where
  module _ (first last : ℕ) (rows : List Row)
      (sel : IsSelected (has_number_between name first last) held_shown held_order t.held rows) where
    abbrev is_held_in : Ident → Bool
    is_held_in i = is_in first last (dbc_number i)

    in_held_row : (i : Ident) (row : Row) → IsHeldRow name i row → is_held_in i ≡ is_between first last (column row 1)
    in_held_row i row r =
        let number : ℕ = dbc_number i in
        ap (λ c. is_ge c && is_le (nat_cmp number last)) (sym (int_test number first))
        ∙ ap (λ c. is_ge (value_cmp (Int (pos number)) (Int (pos first))) && is_le c) (sym (int_test number last))
        ∙ ap (λ x. is_between first last (column x 1)) (sym r.1)

    held_between : AreShown ShowsIdent (idents_between first last held) rows
    held_between =
        selected_shown held_total (IsHeldRow name) ShowsIdent (has_number_between name first last) held_shown t.held
        rows (filter is_held_in held)
        (λ i row r. (r.0, ap (λ x. column x 1) r.1))
        (subst (λ l. AreListed held_order (IsHeldRow name) l (filter is_held_in held))
        (both_tests (is_of_net name) (λ row. is_between first last (column row 1)) t.held)
        (kept_listed is_held_in (λ row. is_between first last (column row 1)) in_held_row
        (filter (is_of_net name) t.held) held h)) sel

  held_are_identifiers : AllByRecursion IsIdentifier held
  held_are_identifiers = each held h.found h.each
    where
      each : (items : List Ident) (rows : List Row) → AreShown (IsHeldRow name) items rows
          → AllByRecursion IsIdentifier items
      each [] rows shown = tt
      each (i ∷ items) [] shown = absurd shown
      each (i ∷ items) (r ∷ rows) shown = (shown.0.0, each items rows shown.1)

-- ---- either table

pub live_shown_between : (name : List ℕ) (t : Tables) (first last : ℕ) (rows : List Row)
    → IsSelected (has_number_between name first last) msg_numbers_shown msg_numbers_order t.msg rows
    → (idents : List Ident) → HasTaken Live name t idents → AreShown ShowsIdent (idents_between first last idents) rows
live_shown_between name t first last rows sel idents has =
    subst (λ l. AreShown ShowsIdent (idents_between first last l) rows) (sym has.2)
    (live_between name t has.0 has.1 first last rows sel)

pub held_shown_between : (name : List ℕ) (t : Tables) (first last : ℕ) (rows : List Row)
    → IsSelected (has_number_between name first last) held_shown held_order t.held rows
    → (idents : List Ident) → HasTaken Held name t idents → AreShown ShowsIdent (idents_between first last idents) rows
held_shown_between name t first last rows sel idents has = held_between name t idents has first last rows sel

-- what a table has are identifiers
pub taken_are_identifiers : (table : TakenTable) (name : List ℕ) (t : Tables) (idents : List Ident)
    → HasTaken table name t idents → AllByRecursion IsIdentifier idents
taken_are_identifiers Live name t idents has =
    subst (AllByRecursion IsIdentifier) (sym has.2) (live_are_identifiers name t has.0 has.1)
taken_are_identifiers Held name t idents has = held_are_identifiers name t idents has
