use Rattle.page_changes.specs.Releases.{row_back}
use Rattle.page_changes.proofs.Backwards.{number_added}
use Rattle.page_changes.proofs.releases.put_rows.Goals as goal

pub loop-back-preserved : goal.loop-back-preserved
loop-back-preserved c =
    number_added (row_back c.args.releases.now) c.loop-back.back c.args.page.now c.loop-back.page c.put_at.new.page
    c.loop-back.invariant c.in_ok-put_at.ensures
