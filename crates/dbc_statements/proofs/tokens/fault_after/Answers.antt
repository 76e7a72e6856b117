use Rattle.dbc_statements.proofs.Common.{ap, ◌∙◌, Lexed}
use Rattle.dbc_statements.proofs.Offsets.{same_fault}
use Rattle.dbc_statements.proofs.tokens.fault_after.Goals as goal

pub tokens-init : goal.tokens-init
tokens-init c = ap (λ (l : Lexed). l.fault) c.at-lexer.ensures ∙ same_fault c.args.source.now c.args.offset c.requires
