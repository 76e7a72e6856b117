-- The message that a query on its name shows first is the live one.
use Rattle.store_rows.proofs.Common.{◌≡◌, ◌∙◌, ℕ, pos, List, filter, None, Some, sym, ap, subst, bytes_eq, Row, column}
use Rattle.store_rows.proofs.Common.{Int, dbc_number, Signal, LiveMessage, live_named, IsSelected, Tables}
use Rattle.store_rows.proofs.Common.{has_net_and_name, msg_named_order, msg_named_shown}
use Rattle.std.specs.Option.{option_map}
use Rattle.std.specs.Prelude.{slice_get}
use Rattle.store_rows.specs.Listed.{AreShown}
use Rattle.store_rows.specs.Live.{AreLiveRows, AreSignalsOf, live_rows}
use Rattle.store_rows.specs.SignalShowing.{ShowsLive}
use Rattle.store_rows.proofs.LiveRows.{find_first, named_are_shown, own_signals}
use Rattle.store_rows.proofs.Values.{one_number}
use Rattle.store_rows.proofs.First.{none_first, some_first}

module _ (name : List ℕ) (t : Tables) (live : List LiveMessage) (message : List ℕ) (rows : List Row)
    (h : AreLiveRows name (live_rows name t) live)
    (sel : IsSelected (has_net_and_name name message) msg_named_shown msg_named_order t.msg rows) where
  abbrev found : List LiveMessage
  found = filter (λ m. bytes_eq m.message.name message) live

  shown : AreShown ShowsLive found rows
  shown = named_are_shown name t live message rows h sel

  first : live_named live message ≡ slice_get found 0
  first = find_first (λ m. bytes_eq m.message.name message) live

  -- no row: no message of the name
  pub none_named : None ≡ slice_get rows 0 → None ≡ live_named live message
  none_named none = none_first ShowsLive found rows shown none ∙ sym first

  -- what was made of the first row and of the signals of its number is the message of the name
  pub one_message : (row : Row) (number : ℕ) (signals : List Signal) (made : LiveMessage) → Some row ≡ slice_get rows 0
      → column row 0 ≡ Int (pos number)
      → ((others : List Signal) → AreSignalsOf name number (live_rows name t) others → signals ≡ others)
      → ((other : LiveMessage) → ShowsLive other row → signals ≡ other.message.signals → made ≡ other)
      → Some made ≡ live_named live message
  one_message row number signals made some is read put =
      let it = some_first ShowsLive found rows row shown some in
      let named : live_named live message ≡ Some it.0 = first ∙ sym it.1 in
      let same : dbc_number it.0.message.ident ≡ number =
      one_number (column row 0) (dbc_number it.0.message.ident) number it.2.number is in
      ap Some (put it.0 it.2 (read it.0.message.signals
      (subst (λ n. AreSignalsOf name n (live_rows name t) it.0.message.signals) same
      (own_signals name t live message it.0 h named))))
      ∙ sym named

  -- the number in the first row is that of the message of the name
  pub named_number : (row : Row) (number : ℕ) → Some row ≡ slice_get rows 0 → column row 0 ≡ Int (pos number)
      → Some number ≡ option_map (λ (m : LiveMessage). dbc_number m.message.ident) (live_named live message)
  named_number row number some is =
      let it = some_first ShowsLive found rows row shown some in
      let named : live_named live message ≡ Some it.0 = first ∙ sym it.1 in
      let same : dbc_number it.0.message.ident ≡ number =
      one_number (column row 0) (dbc_number it.0.message.ident) number it.2.number is in
      ap Some (sym same) ∙ sym (ap (option_map (λ (m : LiveMessage). dbc_number m.message.ident)) named)
