use Rattle.dbc_read.proofs.Common.{◌++◌, [], ◌∷◌, IfSome_then, IfOk-weaker, statement_of}
use Rattle.dbc_read.proofs.late.all_definitions.Goals as goal

pub returns-clause-ok : goal.returns-clause-ok
returns-clause-ok c =
    IfOk-weaker c.further_definitions.result _ _ (λ found all.
    IfSome_then found all (λ g more. record {
      stated = more.stated;
      read = more.read;
      are = λ before h. more.are (before ++ statement_of c.args.late ∷ []) (c.in_ok-gather_definition.ensures before h);
    })) c.further_definitions.ensures.ok
