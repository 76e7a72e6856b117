use Rattle.dbc_statements.proofs.Common.{sym, ◌∙◌, is_open, many_at, entry_at, starts}
use Rattle.dbc_grammar.specs.Parsing.{entries_at}
use Rattle.dbc_grammar.proofs.Repeating.{entries_take}
use Rattle.dbc_statements.proofs.LoopRounds.{at_start, fewer, one_more}
use Rattle.dbc_statements.proofs.entries.entry_list.Goals as goal

pub entries-init : goal.entries-init
unfolding entries_at
entries-init c = rw c.in_ok-entries.ensures (at_start (many_at (starts is_open) entry_at c.args.tokens.now))

pub entries-smaller : goal.entries-smaller
entries-smaller c =
    fewer entries_take c.entries.entries c.entries.tokens c.add_entry.new.entries c.add_entry.new.tokens
    (sym c.is_open.ensures ∙ c.entries-test.true) c.in_ok-add_entry.ensures.ok

pub entries-preserved : goal.entries-preserved
entries-preserved c =
    one_more entries_take c.entries.entries c.entries.tokens c.add_entry.new.entries c.add_entry.new.tokens _
    (sym c.is_open.ensures ∙ c.entries-test.true) c.in_ok-add_entry.ensures.ok c.entries.invariant
