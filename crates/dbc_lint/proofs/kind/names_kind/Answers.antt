use Rattle.dbc_lint.proofs.Common.{lit<, rules, tests, bytes_eq, YieldsList-from_str_split}
use Rattle.std.proofs.lemmas.Iterator.Search.{any_from_yields_List}
use Rattle.dbc_lint.specs.Kind.{kind_name}
use Rattle.dbc_lint.proofs.kind.names_kind.Goals as goal

pub returns : goal.returns
returns c =
    any_from_yields_List (λ name. bytes_eq name (kind_name c.args.kind)) _ _ _ c.any.ensures.ran
    (YieldsList-from_str_split 44 c.args.names.now (lit< tt) c.split.ensures.text c.split.ensures.has_more
    c.split.ensures.pattern) (λ x b q k. search (rules, tests))
