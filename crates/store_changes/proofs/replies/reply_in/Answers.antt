use Rattle.store_changes.proofs.Common.{sym, ◌∙◌}
use Rattle.store_changes.proofs.ReplyNumbers.{reported}
use Rattle.store_changes.proofs.replies.reply_in.Goals as goal

pub returns-in-Some : goal.returns-in-Some
returns-in-Some c other shows parts =
    reported c.args.row.now other c.in-Some.reply _ _ _ _ c.args.parts c.in_ok-number_at.ensures
    c.in_ok-number_at-2.ensures c.in_ok-number_at-3.ensures c.in_ok-number_at-4.ensures
    shows parts (sym c.in-Some.is ∙ c.of_numbers.ensures)
