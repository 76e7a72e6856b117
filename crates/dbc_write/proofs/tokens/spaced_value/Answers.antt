use Rattle.dbc_write.proofs.Common.{◌++◌, sym, ap, ◌∙◌, append_assoc, space, text_of}
use Rattle.dbc_write.proofs.Adds.{decimal_text}
use Rattle.dbc_write.proofs.tokens.spaced_value.Goals as goal

pub returns : goal.returns
returns c = record {
  text = c.in_ok-print_into.ensures.text ∙ ap (λ v. v ++ text_of c.args.decimal.now) c.in_ok-push.ensures.items
      ∙ append_assoc c.args.text.now.items space (text_of c.args.decimal.now)
      ∙ ap (λ v. c.args.text.now.items ++ v) (sym (decimal_text space c.args.decimal.now));
}
