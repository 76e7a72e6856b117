use Rattle.bitlayout.proofs.Common.{refl, sym}
use Rattle.bitlayout.proofs.Presence.{meets_decides, meets_unless_under}
use Rattle.bitlayout.proofs.place.meet.Goals as goal

pub returns-in-Always : goal.returns-in-Always
returns-in-Always c =
    let all = meets_unless_under c.args.a c.args.b c.in-Always.is in
    record { both_present = (λ _. (meets_decides c.args.a c.args.b).0 all, λ _. refl); computed = sym all }
