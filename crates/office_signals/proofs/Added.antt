-- The outcome of a command that adds a signal, and of one that is refused.
use Rattle.std.proofs.Common.{◌≡◌, ◌∙◌, ℕ, List, Option, Some, None, sym, ap}
use Rattle.base.specs.Refusing.{first_refusal}
use Rattle.dbc_sheet.specs.Signals.{places_of}
use Rattle.dbc_sheet.specs.declared.signal.Signal.{Signal}
use Rattle.office_types.specs.declared.command.TakeBits.{TakeBits}
use Rattle.office_types.specs.declared.refusal.Refusal.{Refusal}
use Rattle.office_types.specs.declared.refusal.Refusal.TheVariants as no
use Rattle.office_types.specs.declared.reply.Reply.TheVariants.{Start}
use Rattle.office_types.specs.declared.state.LiveMessage.{LiveMessage}
use Rattle.office_types.specs.declared.state.Net.{Net}
use Rattle.office_rules.specs.Facts.{MessageFacts, live_named, message_facts}
use Rattle.office_rules.specs.Numbers.{with_message}
use Rattle.office_rules.specs.Outcome.{Outcome, Refusing, Changing, given_or, no_entries, refused_or}
use Rattle.office_rules.specs.Signals.{new_signal, start_given, take_bits, take_bits_tests, with_last_signal}
use Rattle.office_signals.specs.Adding.{AddsSignal}

-- from a start that is given
abbrev bits_from : Net → TakeBits → LiveMessage → ℕ → Outcome
bits_from net c m start = Changing (Start start) (with_message net (with_last_signal m (new_signal c start))) no_entries

-- on a message that is found
abbrev bits_on : Net → TakeBits → LiveMessage → Outcome
bits_on net c m = given_or no.NoRoom (start_given (places_of m.message.signals) m.message.length c) (bits_from net c m)

module _ (team : List ℕ) (net : Net) (c : TakeBits) where
  pub bits_refused : (r : Refusal) → first_refusal (take_bits_tests team (message_facts net c.path.message) c) ≡ Some r
      → take_bits team (Some net) c ≡ Refusing r
  bits_refused r h = ap (λ o. refused_or o (given_or no.NoMessage (live_named net.live c.path.message) (bits_on net c)))
      h

  bits_added_from : (facts : MessageFacts) (m : LiveMessage) (start : ℕ) → facts ≡ message_facts net c.path.message
      → first_refusal (take_bits_tests team facts c) ≡ None
      → facts.found ≡ Some m → start_given (places_of m.message.signals) m.message.length c ≡ Some start
      → take_bits team (Some net) c ≡ bits_from net c m start
  bits_added_from facts m start same passed there given =
      let found : live_named net.live c.path.message ≡ Some m = sym (ap (λ (f : MessageFacts). f.found) same) ∙ there in
      let none : first_refusal (take_bits_tests team (message_facts net c.path.message) c) ≡ None =
      sym (ap (λ (f : MessageFacts). first_refusal (take_bits_tests team f c)) same) ∙ passed in
      ap (λ o. refused_or o (given_or no.NoMessage (live_named net.live c.path.message) (bits_on net c))) none
      ∙ ap (λ (o : Option LiveMessage). given_or no.NoMessage o (bits_on net c)) found
      ∙ ap (λ (o : Option ℕ). given_or no.NoRoom o (bits_from net c m)) given

  -- the signal comes after the others of its message, and nothing enters the book
  pub bits_added : (facts : MessageFacts) (s : Signal) → facts ≡ message_facts net c.path.message
      → (h : AddsSignal team facts c s)
      → take_bits team (Some net) c ≡ Changing (Start s.layout.start) (with_message net (with_last_signal h.live s))
      no_entries
  bits_added facts s same h =
      bits_added_from facts h.live s.layout.start same h.passed h.there h.given
      ∙ ap (λ (n : Signal). Changing (Start s.layout.start) (with_message net (with_last_signal h.live n)) no_entries)
      (sym h.new)
