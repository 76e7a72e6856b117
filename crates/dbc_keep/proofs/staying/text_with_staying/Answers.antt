use Rattle.dbc_keep.proofs.Common.{◌≡◌, ◌++◌, ap, ◌∙◌, flat_map, line_text}
use Rattle.dbc_keep.specs.Parts.{all_lines}
use Rattle.dbc_keep.specs.Staying.{staying}
use Rattle.dbc_keep.proofs.StayingTexts.{keeps_staying, reads_only}
use Rattle.dbc_keep.proofs.staying.text_with_staying.Goals as goal

pub returns-clause-reads : goal.returns-clause-reads
returns-clause-reads c =
    let source = c.args.source.now in
    let s = c.args.sheet.now in
    let passed = c.args.reading.now.passed in
    let sorted = rw c.as_slice-passed.ensures at c.in_ok-stay.ensures.stay in
    let wrote = rw sorted at (rw c.deref.ensures.value at c.in_ok-lines.ensures) in
    let written : c.lines.new.text.items ≡ flat_map line_text (all_lines s source (staying s source passed)) =
    wrote.text
    ∙ ap (λ v. v ++ flat_map line_text (all_lines s source (staying s source passed))) c.new-text.ensures.items in
    let laws = c.kept_texts_read_as_their_sheets.ensures in
    reads_only source c.lines.new.text.items c.args.reading.now.sheet s passed c.requires
    c.sheets_are_well_formed.ensures written laws.found laws.stay laws.read c.texts_read_as_one_sheet.ensures

pub returns-clause-stay : goal.returns-clause-stay
returns-clause-stay c =
    let source = c.args.source.now in
    let s = c.args.sheet.now in
    let passed = c.args.reading.now.passed in
    let sorted = rw c.as_slice-passed.ensures at c.in_ok-stay.ensures.stay in
    let wrote = rw sorted at (rw c.deref.ensures.value at c.in_ok-lines.ensures) in
    let written : c.lines.new.text.items ≡ flat_map line_text (all_lines s source (staying s source passed)) =
    wrote.text
    ∙ ap (λ v. v ++ flat_map line_text (all_lines s source (staying s source passed))) c.new-text.ensures.items in
    let laws = c.kept_texts_read_as_their_sheets.ensures in
    keeps_staying source c.lines.new.text.items c.args.reading.now.sheet s passed c.requires
    c.sheets_are_well_formed.ensures written
    laws.found laws.stay laws.once
