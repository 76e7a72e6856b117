-- Live messages without value texts, or without receivers too, and their table.
use Rattle.store_net.proofs.Common.{◌≡◌, ◌∙◌, ℕ, suc, ◌<◌, List, [], ◌∷◌, map, length, Option, Some, None, refl, sym}
use Rattle.store_net.proofs.Common.{ap, subst, length-map, AllByRecursion, flat_map, Less, Row, by_number, Message}
use Rattle.store_net.proofs.Common.{Sheet, Signal, table_of, live_messages, sheet_with, Head, LiveMessage, Net, Tables}
use Rattle.store_net.proofs.Common.{IsSelected, has_net_and_number, receivers_order, receivers_shown, AreListed}
use Rattle.store_net.proofs.Common.{AreShown, AreSignalsOf, live_rows, bare_signal, HasRows, IsNetAt, ShowsLive}
use Rattle.store_net.proofs.Common.{ShowsPart, ShowsReceiver, placed_part, selected_shown}
use Rattle.std.proofs.Common.{length-append}
use Rattle.std.specs.List.Sorted.{IsStrictlySortedBy}
use Rattle.office_views.specs.Table.{message_row, signal_count}
use Rattle.store_rows.specs.Live.{IsReceiverRow, parts_of}
use Rattle.store_rows.specs.SignalShowing.{PlacesAscend, ShowsPlaced}
use Rattle.store_rows.proofs.LiveRows.{of_number, receivers_total}
use Rattle.store_rows.proofs.PartShown.{IsPart, Part, one_shown}
use Rattle.store_net.specs.SignalParts.{live_in}
use Rattle.store_net.specs.Texts.{live_table}
use Rattle.store_net.specs.declared.signal_parts.SignalParts.{SignalParts}
use Rattle.store_net.specs.declared.signal_parts.SignalParts.TheVariants.{RowOnly, All}
use Rattle.store_net.proofs.LiveSheet.{live_ascends}
use Rattle.store_net.proofs.Whole.{head_in}

-- ---- signals at their places, with these receivers and value texts

pub parts_shown : (part : Part) → IsPart part → (placed : List (ℕ × Signal)) (rows : List Row)
    → AreShown ShowsPlaced placed rows → AreShown ShowsPlaced (map (placed_part part) placed) rows
parts_shown part is [] [] shown = tt
parts_shown part is [] (row ∷ rows) shown = absurd shown
parts_shown part is (p ∷ placed) [] shown = absurd shown
parts_shown part is (p ∷ placed) (row ∷ rows) shown =
    (one_shown part is p row shown.0, parts_shown part is placed rows shown.1)

parts_above : (part : Part) (place : ℕ) (placed : List (ℕ × Signal)) → AllByRecursion (λ q. place < q.0) placed
    → AllByRecursion (λ q. place < q.0) (map (placed_part part) placed)
parts_above part place [] above = tt
parts_above part place (q ∷ placed) above = (above.0, parts_above part place placed above.1)

pub parts_ascend : (part : Part) (placed : List (ℕ × Signal)) → PlacesAscend placed
    → PlacesAscend (map (placed_part part) placed)
parts_ascend part [] ascend = tt
parts_ascend part (p ∷ placed) ascend = (parts_above part p.0 placed ascend.0, parts_ascend part placed ascend.1)

pub no_parts : {A : Type 0} (part : Part) (of : Signal → List A) (placed : List (ℕ × Signal))
    → ((s : Signal) → of (part s) ≡ []) → parts_of of (map (placed_part part) placed) ≡ []
no_parts part of [] none = refl
no_parts part of (p ∷ placed) none = rw (none p.1, no_parts part of placed none) refl

pub same_parts_of : {A : Type 0} (part : Part) (of : Signal → List A) (placed : List (ℕ × Signal))
    → ((s : Signal) → of (part s) ≡ of s) → parts_of of (map (placed_part part) placed) ≡ parts_of of placed
same_parts_of part of [] same = refl
same_parts_of part of (p ∷ placed) same = rw (same p.1, same_parts_of part of placed same) refl

pub part_signals : (part : Part) (placed : List (ℕ × Signal))
    → map (λ p. p.1) (map (placed_part part) placed) ≡ map part (map (λ p. p.1) placed)
part_signals part [] = refl
part_signals part (p ∷ placed) = ap (λ l. part p.1 ∷ l) (part_signals part placed)

-- the query on the receivers of a message shows those of its signals
pub receivers_are_shown : (name : List ℕ) (number : ℕ) (t : Tables) (signals : List Signal) (receivers : List Row)
    (h : AreSignalsOf name number (live_rows name t) signals)
    → IsSelected (has_net_and_number name number) receivers_shown receivers_order t.receiver receivers
    → AreShown (ShowsPart ShowsReceiver) (parts_of (λ s. s.receivers) h.placed) receivers
receivers_are_shown name number t signals receivers h sel =
    selected_shown receivers_total (IsReceiverRow name number) (ShowsPart ShowsReceiver)
    (has_net_and_number name number) receivers_shown t.receiver receivers (parts_of (λ s. s.receivers) h.placed) one
    (subst (λ l. AreListed receivers_order (IsReceiverRow name number) l (parts_of (λ s. s.receivers) h.placed))
    (of_number name number t.receiver) h.receivers) sel
  where
    one : (p : ℕ × List ℕ) (row : Row) → IsReceiverRow name number p row
        → ShowsPart ShowsReceiver p (receivers_shown row)
    one p row r = subst (λ x. ShowsPart ShowsReceiver p (receivers_shown x)) (sym r.row_is)
        (record { place = refl; part = refl })

-- a row of `msg` shows nothing of signals
pub live_shown : (detail : SignalParts) (m : LiveMessage) (row : Row) → ShowsLive m row
    → ShowsLive (live_in detail m) row
live_shown detail m row shown = record {
  number = shown.number;
  named = shown.named;
  owner = shown.owner;
  length = shown.length;
  sender = shown.sender;
  comment = shown.comment;
  identifier = shown.identifier;
  sent = shown.sent;
}

pub whole_live : (live : List LiveMessage) → map (live_in All) live ≡ live
whole_live [] = refl
whole_live (m ∷ live) = ap (λ l. m ∷ l) (whole_live live)

-- ---- the table

abbrev bare : LiveMessage → LiveMessage
bare = live_in RowOnly

number_above : (detail : SignalParts) (m : LiveMessage) (live : List LiveMessage)
    → AllByRecursion (λ o. by_number m.message o ≡ Less) (live_messages live)
    → AllByRecursion (λ o. by_number (live_in detail m).message o ≡ Less) (live_messages (map (live_in detail) live))
number_above detail m [] above = tt
number_above detail m (o ∷ live) above = (above.0, number_above detail m live above.1)

pub numbers_ascend : (detail : SignalParts) (live : List LiveMessage)
    → IsStrictlySortedBy by_number (live_messages live)
    → IsStrictlySortedBy by_number (live_messages (map (live_in detail) live))
unfolding IsStrictlySortedBy
numbers_ascend detail [] ascend = tt
numbers_ascend detail (m ∷ live) ascend = (number_above detail m live ascend.0, numbers_ascend detail live ascend.1)

rows_alike : (live : List LiveMessage) → map message_row (live_messages (map bare live))
    ≡ map message_row (live_messages live)
rows_alike [] = refl
rows_alike (m ∷ live) = rw (length-map m.message.signals bare_signal, rows_alike live) refl

counts_alike : (live : List LiveMessage)
    → signal_count (live_messages (map bare live)) ≡ signal_count (live_messages live)
counts_alike [] = refl
counts_alike (m ∷ live) =
    let of : List Message → List Signal = flat_map (λ (o : Message). o.signals) in
    length-append (map bare_signal m.message.signals) (of (live_messages (map bare live)))
    ∙ rw (length-map m.message.signals bare_signal, counts_alike live) refl
    ∙ sym (length-append m.message.signals (of (live_messages live)))

many_alike : (live : List LiveMessage) → length (live_messages (map bare live)) ≡ length (live_messages live)
many_alike [] = refl
many_alike (m ∷ live) = ap suc (many_alike live)

table_alike : (frame : Sheet) (live : List LiveMessage)
    → table_of (sheet_with frame (map bare live)) ≡ table_of (sheet_with frame live)
table_alike frame live = rw (rows_alike live, many_alike live, counts_alike live) refl

-- the table of the sheet that is built of the messages without them is that of the live sheet
pub bare_table : (name : List ℕ) (t : Tables) (net : Option Net) (head : Head) (live : List LiveMessage) (sheet : Sheet)
    → IsNetAt name t net → Some head ≡ head_in net
    → ((others : List LiveMessage) → HasRows name t others → live ≡ map bare others)
    → (IsStrictlySortedBy by_number (live_messages live) → sheet ≡ sheet_with head.frame live)
    → Some (table_of sheet) ≡ live_table net
bare_table name t None head live sheet there found one made = absurd (cc)
bare_table name t (Some net) head live sheet there found one made =
    let same : head ≡ net.head = cc in
    let live_is : live ≡ map bare net.live = one net.live there.live in
    let sorted = subst (λ (l : List LiveMessage). IsStrictlySortedBy by_number (live_messages l)) (sym live_is)
    (numbers_ascend RowOnly net.live (live_ascends name t net.live there.live)) in
    let is : sheet ≡ sheet_with net.head.frame (map bare net.live) =
    made sorted ∙ ap (λ (h : Head). sheet_with h.frame live) same ∙ ap (sheet_with net.head.frame) live_is in
    ap Some (ap table_of is ∙ table_alike net.head.frame net.live)

pub no_table : (net : Option Net) → None ≡ head_in net → None ≡ live_table net
no_table None none = refl
no_table (Some net) none = absurd (cc)
