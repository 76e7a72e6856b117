use Rattle.dbc_words.proofs.Texts.{text-Decides}
use Rattle.dbc_words.proofs.text.TextRuleRule.accepts.Goals as goal

pub returns-clause-keeps : goal.returns-clause-keeps
returns-clause-keeps c = rw c.is_text.ensures (text-Decides c.args.bytes.now)
