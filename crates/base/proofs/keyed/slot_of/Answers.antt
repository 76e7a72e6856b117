use Rattle.std.proofs.Common.{◌≡◌, ◌∙◌, ◌-◌, ◌<◌, suc, drop, length, sym, ap, arith}
use Rattle.std.specs.List.{insert}
use Rattle.base.specs.Keyed.{are_above}
use Rattle.base.proofs.PutCode.{put_after, put_at, put_first}
use Rattle.base.proofs.keyed.slot_of.Goals as goal

pub returns-in-Equal : goal.returns-in-Equal
returns-in-Equal g c =
    let order = g.T.Keyed.order in
    let xs = c.args.items.now in
    let next : c.loop-end.end ≡ suc (c.loop-end.end - 1) = omega arith in
    let within : c.loop-end.end - 1 < length c.args.items.now = omega arith in (
      within,
      put_at order c.args.item.now xs (c.loop-end.end - 1) c.index-items-index.result within c.index-items-index.is
          (sym c.compare.ensures ∙ c.in-Equal.is)
          (ap (λ k. are_above order c.args.item.now (drop k xs)) (sym next) ∙ c.loop-end.invariant.above),
    )

pub returns-in-Greater : goal.returns-in-Greater
returns-in-Greater g c =
    let order = g.T.Keyed.order in
    let xs = c.args.items.now in
    let next : c.loop-end.end ≡ suc (c.loop-end.end - 1) = omega arith in
    let within : c.loop-end.end - 1 < length c.args.items.now = omega arith in (
      c.loop-end.invariant.within,
      put_after order c.args.item.now xs (c.loop-end.end - 1) c.index-items-index.result within c.index-items-index.is
          (sym c.compare.ensures ∙ c.in-Greater.is)
          (ap (λ k. are_above order c.args.item.now (drop k xs)) (sym next) ∙ c.loop-end.invariant.above)
          ∙ ap (λ k. insert xs k c.args.item.now) (sym next),
    )

pub returns : goal.returns
returns g c =
    let order = g.T.Keyed.order in
    let xs = c.args.items.now in
    let none : c.loop-end.end ≡ 0 = omega arith in (
      omega arith,
      put_first order c.args.item.now xs (ap (λ k. are_above order c.args.item.now (drop k xs)) (sym none)
          ∙ c.loop-end.invariant.above),
    )
