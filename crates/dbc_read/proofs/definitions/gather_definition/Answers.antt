use Rattle.dbc_read.proofs.Common.{◌∙◌, sym, on_ok_weaker}
use Rattle.dbc_read.proofs.DefinitionsAlone.{one_dropped, one_gathered}
use Rattle.dbc_read.proofs.definitions.gather_definition.Goals as goal

pub returns-then-is_definition : goal.returns-then-is_definition
returns-then-is_definition c =
    on_ok_weaker c.gather_statement.result
    (one_gathered c.args.statement c.args.gathered.now c.gather_statement.new.gathered) c.gather_statement.ensures

pub returns : goal.returns
returns c = one_dropped c.args.statement c.args.gathered.now (sym c.is_definition.ensures ∙ c.if-is_definition.false)
