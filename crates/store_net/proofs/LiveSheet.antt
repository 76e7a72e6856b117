-- A sheet that is built of the live messages is the live sheet.
use Rattle.store_net.proofs.Common.{◌≡◌, ℕ, ◌+◌, ◌<◌, List, [], ◌∷◌, ◌++◌, map, length, get_or, drop, Bool, true, false}
use Rattle.store_net.proofs.Common.{cond, Option, Some, None, IsPermutation, add-one, refl, sym, ap, subst, ◌∙◌}
use Rattle.store_net.proofs.Common.{AllByRecursion, bytes_eq, option_map, Ordering, Less, put, dbc_number, by_number}
use Rattle.store_net.proofs.Common.{has_number, Message, Sheet, message_chart, live_messages, sheet_with, Head}
use Rattle.store_net.proofs.Common.{LiveMessage, Net, Tables, msgs_order, Row, AreShown, IsMsgRow, HasRows, IsNetAt}
use Rattle.store_net.proofs.Common.{live_named}
use Rattle.std.proofs.Common.{find}
use Rattle.std.specs.List.Sorted.{IsStrictlySortedBy}
use Rattle.std.proofs.Math.Seq.{drop-cons}
use Rattle.dbc_sheet.specs.Messages.{AreMessages, number_of}
use Rattle.dbc_grammar.proofs.AscendingUnique.{one_ascending}
use Rattle.dbc_read.proofs.Putting.{one_put}
use Rattle.office_types.specs.State.{sheet_of}
use Rattle.store_rows.specs.Live.{msg_values}
use Rattle.store_rows.proofs.Keys.{number_order}
use Rattle.store_net.specs.Texts.{live_chart}
use Rattle.store_net.proofs.Whole.{head_in}

-- ---- live messages ascend, as their rows do

module _ {A B X : Type 0} (by : X → X → Ordering) (order : B → B → Ordering) (part : A → B) (R : A → X → Type 0)
    (same : (a b : A) (x y : X) → R a x → R b y → order (part a) (part b) ≡ by x y) where
  all_above : (a : A) (x : X) → R a x → (items : List A) (rows : List X) → AreShown R items rows
      → AllByRecursion (λ y. by x y ≡ Less) rows
      → AllByRecursion (λ b. order (part a) b ≡ Less) (map part items)
  all_above a x one [] rows all above = tt
  all_above a x one (b ∷ items) [] all above = absurd all
  all_above a x one (b ∷ items) (y ∷ rows) all above =
      (same a b x y one all.0 ∙ above.0, all_above a x one items rows all.1 above.1)

  parts_ascend : (items : List A) (rows : List X) → AreShown R items rows → IsStrictlySortedBy by rows
      → IsStrictlySortedBy order (map part items)
  unfolding IsStrictlySortedBy
  parts_ascend [] rows all strict = tt
  parts_ascend (a ∷ items) [] all strict = absurd all
  parts_ascend (a ∷ items) (x ∷ rows) all strict =
      (all_above a x all.0 items rows all.1 strict.0, parts_ascend items rows all.1 strict.1)

pub live_ascends : (name : List ℕ) (t : Tables) (live : List LiveMessage) → HasRows name t live
    → IsStrictlySortedBy by_number (live_messages live)
live_ascends name t live h =
    let alike : (a b : LiveMessage) (x y : Row) → IsMsgRow name a x → IsMsgRow name b y
    → by_number a.message b.message ≡ msgs_order x y = λ a b x y first second.
    number_order (dbc_number a.message.ident) (dbc_number b.message.ident) (dbc_number a.message.ident)
    (dbc_number b.message.ident) refl refl
    ∙ ap (λ (r : Row). msgs_order r (msg_values name b)) (sym first.row_is) ∙ ap (msgs_order x) (sym second.row_is) in
    parts_ascend msgs_order by_number (λ (m : LiveMessage). m.message) (IsMsgRow name) alike live h.messages.found
    h.messages.each h.messages.ascending

-- ---- one message after the other

pub next_put : (live : List LiveMessage) (done : List Message) (at : ℕ) (one : LiveMessage) (message : Message)
    → at < length live → one ≡ get_or live at one → message ≡ one.message
    → has_number done (number_of message) ≡ false
    → IsPermutation (live_messages live) (done ++ live_messages (drop at live))
    → IsPermutation (live_messages live) (put by_number message done ++ live_messages (drop (at + 1) live))
next_put live done at one message within is same absent all =
    let step : drop at live ≡ get_or live at one ∷ drop (at + 1) live = rw (add-one, drop-cons live at one within) in
    let next : live_messages (drop at live) ≡ message ∷ live_messages (drop (at + 1) live) =
    ap live_messages step ∙ ap (λ (m : LiveMessage). m.message ∷ live_messages (drop (at + 1) live)) (sym is)
    ∙ ap (λ (m : Message). m ∷ live_messages (drop (at + 1) live)) (sym same) in
    one_put (live_messages live) done message (live_messages (drop (at + 1) live)) absent
    (subst (λ l. IsPermutation (live_messages live) (done ++ l)) next all)

pub sheet_is : (frame sheet : Sheet) (live : List LiveMessage) → IsStrictlySortedBy by_number (live_messages live)
    → AreMessages sheet.messages
    → IsPermutation (live_messages live) sheet.messages → sheet ≡ record frame { messages = sheet.messages }
    → sheet ≡ sheet_with frame live
sheet_is frame sheet live sorted together all rest =
    rest ∙ ap (λ (l : List Message). record frame { messages = l })
    (sym (one_ascending number_of (live_messages live) sheet.messages sorted together.ascending all))

pub whole_sheet : (name : List ℕ) (t : Tables) (net : Option Net) (head : Head) (live : List LiveMessage)
    (sheet : Sheet) → IsNetAt name t net → Some head ≡ head_in net
    → ((others : List LiveMessage) → HasRows name t others → live ≡ others)
    → (IsStrictlySortedBy by_number (live_messages live) → sheet ≡ sheet_with head.frame live)
    → Some sheet ≡ option_map sheet_of net
whole_sheet name t None head live sheet there found one made = absurd (cc)
whole_sheet name t (Some net) head live sheet there found one made =
    let same : head ≡ net.head = cc in
    let live_is : live ≡ net.live = one net.live there.live in
    let sorted = subst (λ (l : List LiveMessage). IsStrictlySortedBy by_number (live_messages l)) (sym live_is)
    (live_ascends name t net.live there.live) in
    ap Some (made sorted ∙ ap (λ (h : Head). sheet_with h.frame live) same ∙ ap (sheet_with net.head.frame) live_is)

pub no_sheet : (net : Option Net) → None ≡ head_in net → None ≡ option_map sheet_of net
no_sheet None none = refl
no_sheet (Some net) none = absurd (cc)

-- ---- what is known of the live sheet

pub nothing_reported : (shown : Sheet → List ℕ) (net : Option Net) → None ≡ option_map sheet_of net
    → None ≡ option_map (λ (n : Net). shown (sheet_of n)) net
nothing_reported shown None none = refl
nothing_reported shown (Some net) none = absurd (cc)

pub reported : (shown : Sheet → List ℕ) (net : Option Net) (sheet : Sheet) (text : List ℕ)
    → Some sheet ≡ option_map sheet_of net → text ≡ shown sheet
    → Some text ≡ option_map (λ (n : Net). shown (sheet_of n)) net
reported shown None sheet text found is = absurd (cc)
reported shown (Some net) sheet text found is = let same : sheet ≡ sheet_of net = cc in ap Some (is ∙ ap shown same)

-- the message of a name in the live sheet is that of the live message
named_in_sheet : (live : List LiveMessage) (name : List ℕ)
    → find (λ (m : Message). bytes_eq m.name name) (live_messages live) ≡ option_map (λ (m : LiveMessage). m.message)
    (live_named live name)
named_in_sheet [] name = refl
named_in_sheet (m ∷ live) name = by_test (bytes_eq m.message.name name) (named_in_sheet live name)
  where
    by_test : (b : Bool) → find (λ (o : Message). bytes_eq o.name name) (live_messages live)
        ≡ option_map (λ (o : LiveMessage). o.message) (live_named live name)
        → cond b (Some m.message) (find (λ (o : Message). bytes_eq o.name name) (live_messages live))
        ≡ option_map (λ (o : LiveMessage). o.message) (cond b (Some m) (live_named live name))
    by_test true rest = refl
    by_test false rest = rest

abbrev live_messages_of : Option Net → List LiveMessage
live_messages_of net = elim net [ None ↦ [] | Some n ↦ n.live ]

-- the chart of the live message that is found
pub charted : (name message : List ℕ) (t : Tables) (net : Option Net) (found : Option LiveMessage) → IsNetAt name t net
    → ((live : List LiveMessage) → HasRows name t live → found ≡ live_named live message)
    → option_map (λ (m : LiveMessage). message_chart m.message) found ≡ live_chart net message
charted name message t None found at one =
    ap (option_map (λ (m : LiveMessage). message_chart m.message)) (one [] at.live)
charted name message t (Some net) found at one =
    ap (option_map (λ (m : LiveMessage). message_chart m.message)) (one net.live at.live)
    ∙ option_twice (live_named net.live message)
    ∙ ap (option_map message_chart) (sym (named_in_sheet net.live message))
  where
    option_twice : (o : Option LiveMessage) → option_map (λ (m : LiveMessage). message_chart m.message) o
        ≡ option_map message_chart (option_map (λ (m : LiveMessage). m.message) o)
    option_twice None = refl
    option_twice (Some m) = refl
