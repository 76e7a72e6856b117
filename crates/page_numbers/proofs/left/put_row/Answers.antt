use Rattle.page_numbers.proofs.Common.{◌++◌, ◌∙◌, [], ap, element_html, added}
use Rattle.markup.specs.declared.tag.Tag.TheVariants as tag
use Rattle.page_parts.specs.Letters.{badge}
use Rattle.page_parts.specs.Words.{cell, number_cell}
use Rattle.page_numbers.specs.Counts.{counts_of, granted, short}
use Rattle.page_numbers.specs.Elements.{around}
use Rattle.page_numbers.specs.Left.{bar_cell, form_words, free_html, held_cell, runs_cell, left_row}
use Rattle.page_numbers.proofs.Closing.{closed, instead}
use Rattle.page_numbers.proofs.left.put_row.Goals as goal

pub returns : goal.returns
unfolding left_row
returns c =
    let names = c.args.letters.now in
    let team = c.args.team.now in
    let form = c.args.form in
    let left = counts_of c.args.tally.now in
    let head = around tag.HeadCell [] (badge names team) in
    let words = element_html tag.Cell [] (form_words form) in
    let all = number_cell (short (granted left)) in
    let bar = bar_cell names team left in
    let live = number_cell (short left.live) in
    let held = held_cell left.held in
    let free = cell (free_html left) in
    let runs = runs_cell form left.runs in
    closed c.args.page.now tag.Row [] (head ++ (words ++ (all ++ (bar ++ (live ++ (held ++ (free ++ runs))))))) c.open.ensures
    (added c.open.new.self head (words ++ (all ++ (bar ++ (live ++ (held ++ (free ++ runs)))))) c.put_team_head.ensures
    (added c.put_team_head.new.page words (all ++ (bar ++ (live ++ (held ++ (free ++ runs)))))
    (instead c.put_team_head.new.page _ words (ap (element_html tag.Cell []) c.form_words.ensures) c.element.ensures)
    (added c.element.new.self all (bar ++ (live ++ (held ++ (free ++ runs))))
    (instead c.element.new.self _ all (ap number_cell (c.short.ensures ∙ c.granted.ensures.shown)) c.put_number_cell.ensures)
    (added c.put_number_cell.new.page bar (live ++ (held ++ (free ++ runs))) c.put_bar.ensures
    (added c.put_bar.new.page live (held ++ (free ++ runs))
    (instead c.put_bar.new.page _ live (ap number_cell c.short-2.ensures) c.put_number_cell-2.ensures)
    (added c.put_number_cell-2.new.page held (free ++ runs) c.put_held_cell.ensures
    (added c.put_held_cell.new.page free runs c.put_free_cell.ensures
    (instead c.put_free_cell.new.page _ runs (ap (runs_cell form) c.deref.ensures.value) c.put_runs_cell.ensures))))))))
    c.close.ensures
