use Rattle.page_numbers.proofs.Common.{◌∙◌, List, ap, team_at, GrantedBlock}
use Rattle.page_numbers.proofs.near.Blocks.near.Goals as goal

pub returns : goal.returns
returns c = λ n from until.
    c.blocks_near.ensures c.self.invariant n from until
    ∙ ap (λ (blocks : List GrantedBlock). team_at blocks c.args.form n) c.self.view_is
