-- Commands on a live message's signals. They read the phase, the nodes, the named message with its owner, and the book,
-- and nothing else of the network.
use Rattle.std.specs.Prelude.{ℕ, Bool, not, ◌&&◌, nat_lt, nat_le, List, [], ◌∷◌, ◌++◌, length, Option, Some, None}
use Rattle.std.specs.Prelude.{is_some, is_none}
use Rattle.std.specs.List.{list_any, list_all}
use Rattle.std.specs.Str.{bytes_eq}
use Rattle.base.specs.Refusing.{Test}
use Rattle.bitlayout.specs.Bits.{is_inside}
use Rattle.bitlayout.specs.Clash.{first_clash_of}
use Rattle.bitlayout.specs.Mux.{is_multiplexor, is_under}
use Rattle.bitlayout.specs.Start.{place_from, least_start_of}
use Rattle.bitlayout.specs.declared.place.Place.{Place}
use Rattle.dbc_words.specs.Limits.{signal_limit, value_text_limit}
use Rattle.dbc_words.specs.Named.{has_name}
use Rattle.dbc_words.specs.declared.value_type.ValueType.TheVariants.{Integer}
use Rattle.dbc_sheet.specs.Signals.{has_multiplexor, at_signal, signal_is_multiplexor, places_of, signal_name}
use Rattle.dbc_sheet.specs.Signals.{without_signal}
use Rattle.dbc_sheet.specs.declared.signal.Signal.{Signal}
use Rattle.dbc_sheet.specs.declared.value_texts.ValueText.{ValueText}
use Rattle.office_types.specs.Free.{is_taken, least_free}
use Rattle.office_types.specs.declared.book.SpnBook.{SpnBook}
use Rattle.office_types.specs.declared.command.SetValues.{SetValues}
use Rattle.office_types.specs.declared.command.SignalPath.{SignalPath}
use Rattle.office_types.specs.declared.command.TakeBits.{TakeBits}
use Rattle.office_types.specs.declared.command.TakeSpn.{TakeSpn}
use Rattle.office_types.specs.declared.free.NumberForm.TheVariants.{Spn}
use Rattle.office_types.specs.declared.refusal.Refusal.{Refusal}
use Rattle.office_types.specs.declared.refusal.Refusal.TheVariants as no
use Rattle.office_types.specs.declared.reply.Reply.TheVariants.{Done, Number, Start}
use Rattle.office_types.specs.declared.state.LiveMessage.{LiveMessage}
use Rattle.office_types.specs.declared.state.Net.{Net}
use Rattle.office_rules.specs.Facts.{MessageFacts, message_facts, in_review, has_node, live_named, spn_blocks_of}
use Rattle.office_rules.specs.Lists.{none_of}
use Rattle.office_rules.specs.Numbers.{with_message}
use Rattle.office_rules.specs.Outcome.{Entries, no_entries, Outcome, Changing, when, on_net, requested_of, unless}
use Rattle.office_rules.specs.Outcome.{given_or}

-- The network is in draft, the message is live and the team's own, and is tested further.
abbrev pub on_message : List ℕ → MessageFacts → (LiveMessage → List (Test Refusal)) → List (Test Refusal)
on_message team facts tests =
    when (in_review facts.phase) no.InReview
    ∷ when (is_none facts.found) no.NoMessage
    ∷ requested_of facts.found (λ m. when (not (bytes_eq m.owner team)) no.NotOwner ∷ tests m)

abbrev pub has_signal : LiveMessage → List ℕ → Bool
has_signal m name = has_name signal_name m.message.signals name

-- the live message with other signals
abbrev pub with_signals : LiveMessage → List Signal → LiveMessage
with_signals m signals = record m { message = record m.message { signals = signals } }

-- the outcome on the named live message
abbrev pub on_found : Option Net → List ℕ → (Net → LiveMessage → Outcome) → Outcome
on_found net name out =
    given_or no.NoNet net (λ n. given_or no.NoMessage (live_named n.live name) (λ m. out n m))

-- Take a suspect parameter number: one that is in the book, or the least of the team's blocks that isn't, which enters
-- it.

abbrev pub spn_given : List ℕ → List ℕ → SpnBook → TakeSpn → Option ℕ
spn_given team name book c = elim c.same [
  | Some n ↦ Some n
  | None ↦ least_free book.used (spn_blocks_of book name team) Spn
]

abbrev pub spn_tests : List ℕ → List ℕ → SpnBook → TakeSpn → List (Test Refusal)
spn_tests team name book c = elim c.same [
  | Some n ↦ when (not (is_taken n book.used)) no.NoSpn ∷ []
  | None ↦
      when (none_of (spn_blocks_of book name team)) no.NoBlock
      ∷ when (is_none (spn_given team name book c)) no.BlockFull ∷ []
]

abbrev pub take_spn_tests : List ℕ → List ℕ → MessageFacts → SpnBook → TakeSpn → List (Test Refusal)
take_spn_tests team name facts book c =
    on_message team facts (λ m. when (not (has_signal m c.path.signal)) no.NoSignal ∷ spn_tests team name book c)

abbrev pub with_spn : LiveMessage → List ℕ → ℕ → LiveMessage
with_spn m signal n = with_signals m (at_signal (λ s. record s { spn = n }) signal m.message.signals)

abbrev pub spn_entered : ℕ → Entries
spn_entered n = record no_entries { numbers = n ∷ [] }

abbrev pub take_spn : List ℕ → List ℕ → Option Net → SpnBook → TakeSpn → Outcome
take_spn team name net book c =
    unless (on_net net (λ n. take_spn_tests team name (message_facts n c.path.message) book c))
    (on_found net c.path.message (λ n m.
    given_or no.BlockFull (spn_given team name book c) (λ number.
    Changing (Number number) (with_message n (with_spn m c.path.signal number)) (spn_entered number))))

-- Take bits: a last signal at the wanted start, or at the least one that leaves the signals clear.

abbrev pub place_at : TakeBits → ℕ → Place
place_at c start = place_from c.size c.order c.mux start

abbrev pub start_given : List Place → ℕ → TakeBits → Option ℕ
start_given places bytes c = elim c.start [
  | Some n ↦ Some n
  | None ↦ least_start_of places bytes c.size c.order c.mux
]

abbrev pub start_tests : List Place → ℕ → TakeBits → List (Test Refusal)
start_tests places bytes c = elim c.start [
  | Some n ↦
      when (not (is_inside (place_at c n).layout bytes)) no.OutsidePayload
      ∷ when (is_some (first_clash_of (places ++ place_at c n ∷ []) bytes)) no.Clash ∷ []
  | None ↦ when (is_none (start_given places bytes c)) no.NoRoom ∷ []
]

abbrev pub take_bits_tests : List ℕ → MessageFacts → TakeBits → List (Test Refusal)
take_bits_tests team facts c =
    on_message team facts (λ m.
    when (has_signal m c.path.signal) no.NameTaken
    ∷ when (not (list_all (has_node facts.nodes) c.receivers)) no.NoNode
    ∷ when (nat_le signal_limit (length m.message.signals)) no.TooMany
    ∷ when (is_multiplexor c.mux && has_multiplexor m.message.signals) no.TwoMultiplexors
    ∷ when (is_under c.mux && not (has_multiplexor m.message.signals)) no.NoMultiplexor
    ∷ start_tests (places_of m.message.signals) m.message.length c)

abbrev pub new_signal : TakeBits → ℕ → Signal
new_signal c start = record {
  name = c.path.signal;
  layout = (place_at c start).layout;
  signed = c.signed;
  mux = c.mux;
  factor = c.factor;
  offset = c.offset;
  minimum = c.minimum;
  maximum = c.maximum;
  unit = c.unit;
  receivers = c.receivers;
  comment = [];
  spn = 0;
  values = [];
  value_type = Integer;
}

abbrev pub with_last_signal : LiveMessage → Signal → LiveMessage
with_last_signal m s = with_signals m (m.message.signals ++ s ∷ [])

abbrev pub take_bits : List ℕ → Option Net → TakeBits → Outcome
take_bits team net c =
    unless (on_net net (λ n. take_bits_tests team (message_facts n c.path.message) c))
    (on_found net c.path.message (λ n m.
    given_or no.NoRoom (start_given (places_of m.message.signals) m.message.length c) (λ start.
    Changing (Start start) (with_message n (with_last_signal m (new_signal c start))) no_entries)))

-- Set the texts of a signal's values, in place of those that it has.

abbrev pub set_values_tests : List ℕ → MessageFacts → SetValues → List (Test Refusal)
set_values_tests team facts c =
    on_message team facts (λ m.
    when (not (has_signal m c.path.signal)) no.NoSignal
    ∷ when (nat_lt value_text_limit (length c.values)) no.TooMany ∷ [])

abbrev pub with_values : LiveMessage → List ℕ → List ValueText → LiveMessage
with_values m signal values = with_signals m (at_signal (λ s. record s { values = values }) signal m.message.signals)

abbrev pub set_values : List ℕ → Option Net → SetValues → Outcome
set_values team net c =
    unless (on_net net (λ n. set_values_tests team (message_facts n c.path.message) c))
    (on_found net c.path.message
    (λ n m. Changing Done (with_message n (with_values m c.path.signal c.values)) no_entries))

-- Take a signal out; not the multiplexor while another one is multiplexed.

abbrev pub is_needed : List Signal → List ℕ → Bool
is_needed signals name = list_any (λ s. bytes_eq s.name name && signal_is_multiplexor s) signals
    && list_any (λ s. is_under s.mux) signals

abbrev pub remove_signal_tests : List ℕ → MessageFacts → SignalPath → List (Test Refusal)
remove_signal_tests team facts path =
    on_message team facts (λ m.
    when (not (has_signal m path.signal)) no.NoSignal
    ∷ when (is_needed m.message.signals path.signal) no.NoMultiplexor ∷ [])

abbrev pub with_signal_out : LiveMessage → List ℕ → LiveMessage
with_signal_out m name = with_signals m (without_signal m.message.signals name)

abbrev pub remove_signal : List ℕ → Option Net → SignalPath → Outcome
remove_signal team net path =
    unless (on_net net (λ n. remove_signal_tests team (message_facts n path.message) path))
    (on_found net path.message (λ n m. Changing Done (with_message n (with_signal_out m path.signal)) no_entries))
