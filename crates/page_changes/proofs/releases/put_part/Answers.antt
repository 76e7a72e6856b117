use Rattle.page_changes.proofs.Common.{refl, append_assoc, None, length, codes}
use Rattle.page_parts.specs.Frames.{with_part, with_wide}
use Rattle.page_changes.specs.Releases.{more_releases, release_table, releases_part}
use Rattle.page_changes.proofs.Steps.{add, by, end, finish, start}
use Rattle.page_changes.proofs.releases.put_part.Goals as goal

pub returns : goal.returns
unfolding releases_part
returns c =
    finish (end (add (end (add (by (by (start c.args.page.now)
    (with_part (codes "releases") (codes "Releases") None) (λ w. refl) c.open_part.ensures)
    (with_wide (codes "Releases")) (λ w. refl) c.open_wide.ensures)
    (release_table c.args.releases.now) c.in_ok-put_table.ensures) c.close.ensures)
    (more_releases (length c.args.releases.now)) c.put_more.ensures) c.close-2.ensures)
    (releases_part c.args.releases.now) (simp append_assoc) refl refl
