use Rattle.dbc_lint.proofs.Common.{lit<, rules, tests, YieldsList-from_str_split}
use Rattle.std.proofs.lemmas.Iterator.Search.{find_from_yields_List}
use Rattle.dbc_lint.specs.Kind.{is_unknown}
use Rattle.dbc_lint.proofs.kind.unknown_part.Goals as goal

pub returns : goal.returns
returns c =
    find_from_yields_List is_unknown _ _ _ c.find.ensures.ran
    (YieldsList-from_str_split 44 c.args.names.now (lit< tt) c.split.ensures.text c.split.ensures.has_more
    c.split.ensures.pattern) (λ x b q k. search (rules, tests))
