-- Taking a live message out: its number is held for good where a release of the network has it, else it is free.
use Rattle.std.specs.Prelude.{ℕ, not, List, [], filter, Option, if◌then◌else◌}
use Rattle.base.specs.Keyed.{put}
use Rattle.base.specs.Refusing.{Test}
use Rattle.can_id.specs.declared.ident.Ident.{Ident}
use Rattle.office_types.specs.State.{by_ident}
use Rattle.office_types.specs.declared.refusal.Refusal.{Refusal}
use Rattle.office_types.specs.declared.reply.Reply.TheVariants.{Done}
use Rattle.office_types.specs.declared.state.Net.{Net}
use Rattle.office_rules.specs.Facts.{MessageFacts, message_facts, has_ident, was_released}
use Rattle.office_rules.specs.Outcome.{no_entries, Outcome, Changing, on_net, unless}
use Rattle.office_rules.specs.Signals.{on_message, on_found}

abbrev pub retire_tests : List ℕ → MessageFacts → List (Test Refusal)
retire_tests team facts = on_message team facts (λ m. [])

abbrev pub without_message : Net → Ident → Net
without_message net i = record net { live = filter (λ m. not (has_ident i m)) net.live }

abbrev pub with_held : Net → Ident → Net
with_held net i = record net { held = put by_ident i net.held }

abbrev pub retired : Net → Ident → Net
retired net i = if was_released net.releases i then with_held (without_message net i) i else without_message net i

abbrev pub retire : List ℕ → Option Net → List ℕ → Outcome
retire team net name =
    unless (on_net net (λ n. retire_tests team (message_facts n name)))
    (on_found net name (λ n m. Changing Done (retired n m.message.ident) no_entries))
