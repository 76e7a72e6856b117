use Rattle.dbc_statements.proofs.Common.{sym, ◌∙◌, is_symbol}
use Rattle.dbc_statements.proofs.Skip.{none_skipped, one_skipped, one_fewer, all_skipped}
use Rattle.dbc_statements.proofs.heading.skip_symbols.Goals as goal

pub symbols-init : goal.symbols-init
symbols-init c = none_skipped is_symbol c.args.tokens.now

pub symbols-smaller : goal.symbols-smaller
symbols-smaller c = rw c.skip.ensures
    (one_fewer is_symbol c.symbols.tokens (sym c.is_symbol.ensures ∙ c.symbols-test.true))

pub symbols-preserved : goal.symbols-preserved
symbols-preserved c = rw c.skip.ensures
    (one_skipped is_symbol c.args.tokens.now c.symbols.tokens c.symbols.invariant
    (sym c.is_symbol.ensures ∙ c.symbols-test.true))

pub returns : goal.returns
returns c = all_skipped is_symbol c.args.tokens.now c.symbols.tokens c.symbols.invariant
    (sym c.is_symbol.ensures ∙ c.symbols-test.false)
