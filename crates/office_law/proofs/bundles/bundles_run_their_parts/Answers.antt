use Rattle.office_law.proofs.BundleRuns.{bundles_run_their_parts}
use Rattle.office_law.proofs.bundles.bundles_run_their_parts.Goals as goal

pub returns : goal.returns
returns c = bundles_run_their_parts
