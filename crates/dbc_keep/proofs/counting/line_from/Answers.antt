use Rattle.dbc_keep.proofs.Common.{◌+◌, ap, ◌∙◌}
use Rattle.dbc_keep.specs.LeftOut.{line_at}
use Rattle.dbc_keep.proofs.Counted.{line_more}
use Rattle.dbc_keep.proofs.counting.line_from.Goals as goal

pub returns-then-from-at : goal.returns-then-from-at
returns-then-from-at c =
    let text = c.args.text.now in
    ap (λ n. n + c.line_feeds.result) c.requires.line
    ∙ ap (λ n. line_at text c.args.from + n) c.line_feeds.ensures.is
    ∙ line_more text c.args.from c.args.at c.if-from-at.true
