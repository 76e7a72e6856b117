use Rattle.office_law.proofs.OtherReleases.{releases_dont_count}
use Rattle.office_law.proofs.laws.releases_dont_count.Goals as goal

pub returns : goal.returns
returns c = releases_dont_count
