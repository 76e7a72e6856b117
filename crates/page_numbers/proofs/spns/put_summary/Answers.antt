use Rattle.page_numbers.proofs.Common.{◌-◌, ◌++◌, ◌∙◌, ap, codes, decimal, length, added}
use Rattle.std.proofs.Common.{count_by}
use Rattle.page_parts.specs.Words.{counted}
use Rattle.page_numbers.specs.Spns.{is_live_row}
use Rattle.page_numbers.proofs.Closing.{instead}
use Rattle.page_numbers.proofs.spns.put_summary.Goals as goal

pub returns : goal.returns
returns c =
    let rows = c.args.rows.now in
    let count = count_by is_live_row rows in
    let live = counted count (codes "signal") in
    let on = codes " with a number, " in
    let others = decimal (length rows - count) in
    let burnt = codes " burnt" in
    added c.args.page.now live (on ++ (others ++ burnt))
    (instead c.args.page.now _ live (ap (λ k. counted k (codes "signal")) c.live_count-live.ensures) c.put_count.ensures)
    (added c.put_count.new.page on (others ++ burnt) c.text.ensures
    (added c.text.new.self others burnt
    (instead c.text.new.self _ others
    (ap decimal (c.saturating_sub.ensures ∙ ap (λ k. length rows - k) c.live_count-live.ensures)) c.number.ensures)
    c.text-2.ensures))
