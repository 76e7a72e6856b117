use Rattle.store_net.proofs.Common.{◌≡◌, Some, sym, ap, subst, ◌∙◌, canonical_text, Sheet}
use Rattle.dbc_grammar.specs.Reads.{ReadsOnlyAs}
use Rattle.store_net.proofs.release.canonical_of.Goals as goal

same_sheet : (read sheet : Sheet) → Some read ≡ Some sheet → read ≡ sheet
same_sheet read sheet both = cc

pub returns-in_ok-text_of-in-Some-clause-text : goal.returns-in_ok-text_of-in-Some-clause-text
returns-in_ok-text_of-in-Some-clause-text c sheet reads =
    c.in_ok-text_of-in-Some.ensures.text
    ∙ ap canonical_text (same_sheet c.in-Some.sheet sheet
    (sym c.in-Some.is ∙ c.in_ok-sheet.ensures.found sheet reads))

pub returns-in_ok-text_of-in-Some-clause-reads : goal.returns-in_ok-text_of-in-Some-clause-reads
returns-in_ok-text_of-in-Some-clause-reads c sheet reads =
    subst (λ (s : Sheet). ReadsOnlyAs c.in_ok-text_of-in-Some.field-0.items s)
    (same_sheet c.in-Some.sheet sheet (sym c.in-Some.is ∙ c.in_ok-sheet.ensures.found sheet reads))
    c.in_ok-text_of-in-Some.ensures.reads
