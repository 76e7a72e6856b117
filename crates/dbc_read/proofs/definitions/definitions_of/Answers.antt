use Rattle.dbc_read.proofs.Common.{[], IfSome_then, IfOk-weaker}
use Rattle.dbc_read.proofs.DefinitionsAlone.{none_defined}
use Rattle.dbc_read.proofs.definitions.definitions_of.Goals as goal

pub returns-clause-ok : goal.returns-clause-ok
returns-clause-ok c =
    IfOk-weaker c.further_definitions.result _ _ (λ found all.
    IfSome_then found all (λ g more. record {
      stated = more.stated;
      read = more.read;
      few = more.few;
      are =
          more.are [] (none_defined c.empty-nothing.result c.empty-nothing.ensures);
    })) c.further_definitions.ensures.ok
