use Rattle.dbc_keep.proofs.Common.{◌++◌, sym, ap, ◌∙◌, line_text, none}
use Rattle.dbc_write.proofs.Adds.{line}
use Rattle.dbc_keep.proofs.kept.placed_one.Goals as goal

pub returns-then-not-has : goal.returns-then-not-has
returns-then-not-has c = rw (sym c.has.ensures ∙ c.if-not-has.true) (none line_text c.args.text.now.items)

pub returns : goal.returns
returns c =
    rw (sym c.has.ensures ∙ c.if-not-has.false)
    (line (record {
      text = c.in_ok-extend_from_slice.ensures.items ∙ ap (λ v. c.args.text.now.items ++ v) c.passage.ensures;
    }) c.in_ok-push.ensures.items)
