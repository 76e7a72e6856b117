use Rattle.bitlayout.proofs.Common.{arith}
use Rattle.std.proofs.lemmas.Grind.{common_steps}
use Rattle.bitlayout.specs.Clash.{clash_after}
use Rattle.bitlayout.proofs.Collisions.{no_partner}
use Rattle.bitlayout.proofs.clash.fault_alone.Goals as goal

pub returns-else-is_under : goal.returns-else-is_under
unfolding clash_after
returns-else-is_under c =
    let alone = no_partner c.args.earlier.now c.args.place c.requires in
    rw alone (grind (arith, common_steps))
