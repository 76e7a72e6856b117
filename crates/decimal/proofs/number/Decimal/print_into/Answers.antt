use Rattle.decimal.proofs.ReadsBack.{text_reads}
use Rattle.decimal.proofs.number.Decimal.print_into.Goals as goal

pub returns-clause-reads_back : goal.returns-clause-reads_back
returns-clause-reads_back c = text_reads c.args.self.now c.text_of.ensures.decimal
