use Rattle.page_messages.proofs.Common.{◌++◌, added}
use Rattle.page_messages.proofs.Adding.{enclosed}
use Rattle.page_messages.specs.Names.{message_head}
use Rattle.page_messages.specs.Messages.{cells_of, number_cells, people_cells, releases_cell, row_attributes}
use Rattle.page_messages.specs.Messages.{state_cell}
use Rattle.markup.specs.declared.tag.Tag.TheVariants as tag
use Rattle.page_messages.proofs.messages.put_message_row.Goals as goal

pub returns : goal.returns
returns c =
    let subject = c.args.subject.now in
    let marks = c.args.marks.now in
    let columns = c.args.columns in
    let i = c.args.index in
    let m = c.args.message.now in
    let numbers = number_cells columns m in
    let people = people_cells subject i m in
    let releases = releases_cell columns marks i in
    let state = state_cell columns marks i in
    let opened = c.open_message_row.new.page in
    enclosed tag.Row (row_attributes m) (cells_of subject marks columns i m) c.args.page.now opened _ _
    c.open_message_row.ensures
    (added opened (message_head m) (numbers ++ (people ++ (releases ++ state))) c.put_message_head.ensures
    (added c.put_message_head.new.page numbers (people ++ (releases ++ state)) c.put_number_cells.ensures
    (added c.put_number_cells.new.page people (releases ++ state) c.put_people_cells.ensures
    (added c.put_people_cells.new.page releases state c.put_releases_cell.ensures c.put_state_cell.ensures))))
    c.close.ensures
