use Rattle.dbc_keep.proofs.Common.{sym, ◌∙◌, node_cited}
use Rattle.dbc_keep.proofs.Absent.{next_of}
use Rattle.dbc_keep.proofs.citing.node_words.Goals as goal

pub loop-left-preserved : goal.loop-left-preserved
loop-left-preserved c =
    next_of c.args.sheet.now node_cited c.loop-left.left.now _ c.in-len1-up.len_at_least
    (sym c.node_word.ensures ∙ c.in_default-node_word.is) ∙ c.loop-left.invariant
