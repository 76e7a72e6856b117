use Rattle.page_numbers.proofs.Common.{◌++◌, [], codes, escaped, added}
use Rattle.markup.specs.declared.tag.Tag.TheVariants as tag
use Rattle.page_parts.specs.Words.{quiet}
use Rattle.page_numbers.specs.Elements.{around}
use Rattle.page_numbers.proofs.Closing.{closed}
use Rattle.page_numbers.proofs.left.put_no_block.Goals as goal

pub returns : goal.returns
returns c =
    let name = escaped c.args.name.now in
    let none = codes "No block is granted. " in
    let grants = quiet (codes "The office grants them: ") in
    let before = codes "grant net=" in
    let after = codes " team=.. form=.. first=.. last=.." in
    let code = around tag.Code [] (before ++ (name ++ after)) in
    closed c.args.page.now tag.Paragraph [] (none ++ (grants ++ code)) c.open.ensures
    (added c.open.new.self none (grants ++ code) c.text.ensures
    (added c.text.new.self grants code c.put_quiet.ensures
    (closed c.put_quiet.new.page tag.Code [] (before ++ (name ++ after)) c.open-2.ensures
    (added c.open-2.new.self before (name ++ after) c.text-2.ensures
    (added c.text-2.new.self name after c.text-3.ensures c.text-4.ensures)) c.close.ensures))) c.close-2.ensures
