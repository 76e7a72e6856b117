use Rattle.page_numbers.proofs.Common.{◌++◌, ◌∙◌, ap, codes, cond, sym, element_html, added}
use Rattle.markup.specs.declared.tag.Tag.TheVariants as tag
use Rattle.page_numbers.specs.Counts.{known_of}
use Rattle.page_numbers.specs.Left.{blocks_html, left_body, no_block_html, teams_table}
use Rattle.page_numbers.specs.declared.left.TheConstants.{NOTE}
use Rattle.page_numbers.proofs.Closing.{instead}
use Rattle.page_numbers.proofs.left.put_body.Goals as goal

pub returns-then-is_empty : goal.returns-then-is_empty
returns-then-is_empty c =
    let subject = c.args.subject.now in
    let table = teams_table (known_of c.args.view.now) subject in
    let rest = element_html tag.Paragraph (codes " class=\"q\"") NOTE.now ++ blocks_html subject in
    instead c.args.page.now _ (left_body c.args.view.now subject)
    (sym (ap (λ b. cond b (no_block_html subject.name.now) (table ++ rest)) (sym c.is_empty.ensures ∙ c.if-is_empty.true)))
    c.put_no_block.ensures

pub returns : goal.returns
returns c =
    let subject = c.args.subject.now in
    let table = teams_table (known_of c.args.view.now) subject in
    let note = element_html tag.Paragraph (codes " class=\"q\"") NOTE.now in
    let blocks = blocks_html subject in
    instead c.args.page.now (table ++ (note ++ blocks)) (left_body c.args.view.now subject)
    (sym (ap (λ b. cond b (no_block_html subject.name.now) (table ++ (note ++ blocks)))
    (sym c.is_empty.ensures ∙ c.if-is_empty.false)))
    (added c.args.page.now table (note ++ blocks) c.in_ok-put_teams.ensures
    (added c.put_teams.new.page note blocks c.element.ensures c.put_blocks.ensures))
