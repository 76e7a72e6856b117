-- What is read of a network, as the definitions speak of it: of the facts that a body is given, and of an excerpt.
use Rattle.std.specs.Prelude.{ℕ, Bool, List, Option}
use Rattle.std.specs.Option.{option_copied}
use Rattle.office_types.specs.declared.state.GrantedBlock.{GrantedBlock}
use Rattle.office_types.specs.declared.state.Head.{Head as NetHead}
use Rattle.office_types.specs.declared.state.LiveMessage.{LiveMessage}
use Rattle.office_types.specs.declared.state.Net.{Net}
use Rattle.office_rules.specs.Facts.{MessageFacts, NumberFacts, taken_groups, taken_numbers}
use Rattle.office_facts.specs.declared.excerpt.Excerpt.{Excerpt}
use Rattle.office_facts.specs.declared.excerpt.Excerpt.TheVariants as copy
use Rattle.office_facts.specs.declared.excerpt.Facts.{Facts as FactsModel}
use Rattle.office_facts.specs.declared.excerpt.Facts.TheVariants as code
use Rattle.office_facts.specs.declared.excerpt.NumberExcerpt.{NumberExcerpt}
use Rattle.office_facts.specs.declared.message.MessageFacts.{MessageFacts as MessageFactsModel}
use Rattle.office_facts.specs.declared.numbers.NumberFacts.{NumberFacts as NumberFactsModel}
use Rattle.office_facts.specs.declared.taken.TakenNumbers.{TakenNumbers}
use Rattle.office_facts.specs.declared.taken.TakenNumbers.TheVariants as those

-- what is read of a network, for each scope
pub data Facts : Type 0 where
  Head : NetHead → Facts
  Parts : NetHead → List GrantedBlock → Facts
  Message : MessageFacts → Facts
  Retiring : MessageFacts → Bool → Facts
  Numbers : NumberFacts → Facts
  Whole : Net → Facts

abbrev pub message_facts_of : MessageFactsModel → MessageFacts
message_facts_of f = record { phase = f.phase.now; nodes = f.nodes.now; found = option_copied f.found }

-- the numbers that may not be given out
abbrev pub taken_by : TakenNumbers → List ℕ
taken_by (those.Listed numbers) = numbers.now
taken_by (those.Ascending set) = set.now
taken_by (those.Idents net form) = taken_numbers net.now form
taken_by (those.Groups net) = taken_groups net.now

abbrev pub number_facts_of : NumberFactsModel → NumberFacts
number_facts_of f = record {
  kind = f.kind;
  phase = f.phase.now;
  nodes = f.nodes.now;
  blocks = f.blocks.now;
  named = f.named;
  full = f.full;
  want_live = f.want_live;
  want_held = f.want_held;
  taken = taken_by f.taken;
}

abbrev pub facts_of : FactsModel → Facts
facts_of (code.Head h) = Head h.now
facts_of (code.Parts h bs) = Parts h.now bs.now
facts_of (code.Message f) = Message (message_facts_of f)
facts_of (code.Retiring f released) = Retiring (message_facts_of f) released
facts_of (code.Numbers f) = Numbers (number_facts_of f)
facts_of (code.Whole net) = Whole net.now

-- the same of an excerpt

abbrev pub message_in : NetHead → Option LiveMessage → MessageFacts
message_in h found = record { phase = h.phase; nodes = h.frame.nodes; found = found }

abbrev pub numbers_in : NumberExcerpt → NumberFacts
numbers_in e = record {
  kind = e.head.kind;
  phase = e.head.phase;
  nodes = e.head.frame.nodes;
  blocks = e.blocks;
  named = e.named;
  full = e.full;
  want_live = e.want_live;
  want_held = e.want_held;
  taken = e.taken;
}

abbrev pub facts_in : Excerpt → Facts
facts_in (copy.Head h) = Head h
facts_in (copy.Parts h bs) = Parts h bs
facts_in (copy.Message h found) = Message (message_in h found)
facts_in (copy.Retiring h found released) = Retiring (message_in h found) released
facts_in (copy.Numbers e) = Numbers (numbers_in e)
