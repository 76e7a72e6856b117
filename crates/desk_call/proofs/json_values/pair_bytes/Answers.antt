use Rattle.desk_call.proofs.Common.{arith}
use Rattle.desk_call.proofs.Pairs.{no_pair}
use Rattle.desk_call.proofs.json_values.pair_bytes.Goals as goal

pub returns-in-len1 : goal.returns-in-len1
returns-in-len1 c = no_pair c.args.items.now (λ e. omega arith)

pub returns-in-len3-up : goal.returns-in-len3-up
returns-in-len3-up c = no_pair c.args.items.now (λ e. omega arith)
