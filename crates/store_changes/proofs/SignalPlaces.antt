-- The places of a message's signals, as the query on those of a name shows them.
use Rattle.store_changes.proofs.Common.{◌≡◌, ◌∙◌, ℕ, pos, List, [], ◌∷◌, ◌++◌, map, Option, None, Some, codes, refl}
use Rattle.store_changes.proofs.Common.{sym, ap, subst, option_map, Int, Text, Row, column, dbc_number, Signal}
use Rattle.store_changes.proofs.Common.{LiveMessage, Tables, AreShown, live_named, SignalPath, IsGone, IsTakenOut}
use Rattle.store_changes.proofs.Common.{placed_named, without_place, without_places, PlacesAscend, ShowsPlaced}
use Rattle.std.proofs.Common.{negsuc}
use Rattle.std.proofs.lemmas.List.{map-append}
use Rattle.store_rows.specs.LiveWritten.{AreItsPlaces}
use Rattle.store_rows.proofs.LiveNamed.{places_of_named}
use Rattle.store_changes.specs.Places.{number_in, places_shown}

-- ---- the places of a name

-- two rows of the query, and one with no number
two_places : places_shown
    ((Int (pos 0) ∷ Text (codes "Speed") ∷ []) ∷ (Int (pos 2) ∷ Text (codes "Speed") ∷ []) ∷ (Int (negsuc 0) ∷ []) ∷ [])
    ≡ 0 ∷ 2 ∷ 0 ∷ []
two_places = refl

places_are : (placed : List (ℕ × Signal)) (rows : List Row) → AreShown ShowsPlaced placed rows
    → places_shown rows ≡ map (λ (q : ℕ × Signal). q.0) placed
places_are [] [] shown = refl
places_are [] (r ∷ rows) shown = absurd shown
places_are (q ∷ placed) [] shown = absurd shown
places_are (q ∷ placed) (r ∷ rows) shown = ap (λ n. n ∷ places_shown rows) (ap number_in shown.0.place)
    ∙ ap (λ l. q.0 ∷ l) (places_are placed rows shown.1)

pub its_places : (signal : List ℕ) (placed : List (ℕ × Signal)) (rows : List Row)
    → AreShown ShowsPlaced (placed_named signal placed) rows → PlacesAscend placed
    → AreItsPlaces signal (places_shown rows) placed
its_places signal placed rows shown ascend =
    subst (λ l. AreItsPlaces signal l placed) (sym (places_are (placed_named signal placed) rows shown))
    (places_of_named signal placed ascend)

-- ---- rows taken one after the other

pub one_removed : (net : List ℕ) (number : ℕ) (places : List ℕ) (place : ℕ) (t : Tables)
    → without_places net number (places ++ place ∷ []) t ≡ without_place net number place
    (without_places net number places t)
one_removed net number [] place t = refl
one_removed net number (p ∷ places) place t = one_removed net number places place (without_place net number p t)

pub places_removed : (net : List ℕ) (number : ℕ) (rows : List Row) (row : Row) (t : Tables)
    → without_places net number (places_shown (rows ++ row ∷ [])) t ≡ without_place net number
    (number_in (column row 0)) (without_places net number (places_shown rows) t)
places_removed net number rows row t =
    ap (λ l. without_places net number l t) (map-append (λ (r : Row). number_in (column r 0)) rows (row ∷ []))
    ∙ one_removed net number (places_shown rows) (number_in (column row 0)) t

-- ---- the number of a message that is there

pub there_if_numbered : (found : Option LiveMessage) (number : ℕ)
    → Some number ≡ option_map (λ (m : LiveMessage). dbc_number m.message.ident) found
    → (m : LiveMessage) × (found ≡ Some m) × (dbc_number m.message.ident ≡ number)
there_if_numbered None number some = absurd (cc)
there_if_numbered (Some m) number some = (m, refl, same)
  where
    same : dbc_number m.message.ident ≡ number
    same = cc

pub taken_out : (name : List ℕ) (path : SignalPath) (live : List LiveMessage) (m : LiveMessage) (t t2 : Tables)
    → live_named live path.message ≡ Some m
    → IsGone name (dbc_number m.message.ident) path.signal t t2 → IsTakenOut name path live t t2
taken_out name path live m t t2 there gone = subst {0, 0} (λ (o : Option LiveMessage). elim o [
  | None ↦ t2 ≡ t
  | Some m ↦ IsGone name (dbc_number m.message.ident) path.signal t t2
]) (sym there) gone
