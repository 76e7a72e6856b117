use Rattle.dbc_keep.proofs.Common.{◌≡◌, ◌++◌, ap, ◌∙◌, flat_map, line_text}
use Rattle.dbc_keep.specs.Parts.{all_lines}
use Rattle.dbc_keep.proofs.Whole.{is_kept, keeps_each, nothing_kept, reads_only}
use Rattle.dbc_keep.proofs.kept.kept_text_of.Goals as goal

pub returns-clause-kept : goal.returns-clause-kept
returns-clause-kept c =
    let source = c.args.source.now in
    let s = c.args.reading.now.sheet in
    let passed = c.args.reading.now.passed in
    let lines = rw c.as_slice.ensures at c.in_ok-lines.ensures in
    let written : c.lines.new.text.items ≡ flat_map line_text (all_lines s source passed) =
    lines.text ∙ ap (λ v. v ++ flat_map line_text (all_lines s source passed)) c.new-text.ensures.items in
    let laws = c.kept_texts_read_as_their_sheets.ensures in
    is_kept source c.lines.new.text.items s passed c.requires written laws.found

pub returns-clause-reads : goal.returns-clause-reads
returns-clause-reads c =
    let source = c.args.source.now in
    let s = c.args.reading.now.sheet in
    let passed = c.args.reading.now.passed in
    let lines = rw c.as_slice.ensures at c.in_ok-lines.ensures in
    let written : c.lines.new.text.items ≡ flat_map line_text (all_lines s source passed) =
    lines.text ∙ ap (λ v. v ++ flat_map line_text (all_lines s source passed)) c.new-text.ensures.items in
    let laws = c.kept_texts_read_as_their_sheets.ensures in
    reads_only source c.lines.new.text.items s passed c.requires written laws.found laws.sheet
    c.texts_read_as_one_sheet.ensures

pub returns-clause-each : goal.returns-clause-each
returns-clause-each c =
    let source = c.args.source.now in
    let s = c.args.reading.now.sheet in
    let passed = c.args.reading.now.passed in
    let lines = rw c.as_slice.ensures at c.in_ok-lines.ensures in
    let written : c.lines.new.text.items ≡ flat_map line_text (all_lines s source passed) =
    lines.text ∙ ap (λ v. v ++ flat_map line_text (all_lines s source passed)) c.new-text.ensures.items in
    let laws = c.kept_texts_read_as_their_sheets.ensures in
    keeps_each source c.lines.new.text.items s passed c.requires written laws.found laws.passed laws.once

pub returns-clause-again : goal.returns-clause-again
returns-clause-again c =
    let source = c.args.source.now in
    let s = c.args.reading.now.sheet in
    let passed = c.args.reading.now.passed in
    let lines = rw c.as_slice.ensures at c.in_ok-lines.ensures in
    let written : c.lines.new.text.items ≡ flat_map line_text (all_lines s source passed) =
    lines.text ∙ ap (λ v. v ++ flat_map line_text (all_lines s source passed)) c.new-text.ensures.items in
    let laws = c.kept_texts_read_as_their_sheets.ensures in
    laws.again source c.lines.new.text.items
    (is_kept source c.lines.new.text.items s passed c.requires written laws.found)

pub returns-clause-nothing : goal.returns-clause-nothing
returns-clause-nothing c =
    let source = c.args.source.now in
    let s = c.args.reading.now.sheet in
    let passed = c.args.reading.now.passed in
    let lines = rw c.as_slice.ensures at c.in_ok-lines.ensures in
    let written : c.lines.new.text.items ≡ flat_map line_text (all_lines s source passed) =
    lines.text ∙ ap (λ v. v ++ flat_map line_text (all_lines s source passed)) c.new-text.ensures.items in
    let laws = c.kept_texts_read_as_their_sheets.ensures in
    nothing_kept source c.lines.new.text.items s passed c.requires written laws.nothing
