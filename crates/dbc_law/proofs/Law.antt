-- The canonical text of a sheet has tokens, these divide into statements, and the statements say the sheet.
use Rattle.dbc_law.proofs.Common.{refl, canonical_text, IsSheet, Sheet}
use Rattle.dbc_grammar.specs.Reads.{Reads, ReadsAsOneAtMost}
use Rattle.dbc_grammar.specs.Saying.{passed_by}
use Rattle.dbc_grammar.proofs.OneReading.{reads_only}
use Rattle.dbc_law.specs.Law.{GrammarLaw}
use Rattle.dbc_law.proofs.Saying.{contents_say}
use Rattle.dbc_law.proofs.Statements.{lines_divide}
use Rattle.dbc_law.proofs.Tokens.{text_has_tokens}

canonical_reads : (s : Sheet) → IsSheet s → Reads (canonical_text s) s
canonical_reads s h =
    let (tokens, has_tokens, are_lines) = text_has_tokens s h in
    let (statements, divides, contents) = lines_divide s h tokens are_lines in (
      passed_by statements,
      record {
        tokens = tokens;
        statements = statements;
        has_tokens = has_tokens;
        divides = divides;
        says =
            contents_say s h statements contents;
        passes = refl;
      },
    )

pub grammar_law : ReadsAsOneAtMost → GrammarLaw
grammar_law one s h = reads_only one (canonical_text s) s (canonical_reads s h)
