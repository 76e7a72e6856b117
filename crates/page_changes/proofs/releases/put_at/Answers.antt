use Rattle.page_changes.proofs.Common.{◌+◌, OnOk, Option, subst, sym, Sheet, Becomes, adding}
use Rattle.page_changes.specs.Releases.{release_row}
use Rattle.page_changes.proofs.Unchanged.{unchanged}
use Rattle.page_changes.proofs.releases.put_at.Goals as goal

pub returns-in-None : goal.returns-in-None
returns-in-None c = rw (sym c.in-None.ensures) (unchanged c.args.page.now)

pub returns-in-Some : goal.returns-in-Some
returns-in-Some c =
    rw (sym c.in-Some.ensures)
    (subst (λ (before : Option Sheet). OnOk c.put_release.result (Becomes c.put_release.new.page
    (adding (release_row (c.args.index + 1) before c.in-Some.sheet.now) c.args.page.now)))
    c.before_at-before.ensures c.put_release.ensures)
