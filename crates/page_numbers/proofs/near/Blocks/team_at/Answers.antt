use Rattle.page_numbers.proofs.Common.{◌∙◌, arith}
use Rattle.page_numbers.proofs.near.Blocks.team_at.Goals as goal

pub returns : goal.returns
returns c = c.team_at.ensures ∙ c.near.ensures c.args.number (omega arith) (omega arith)
