use Rattle.store_net.proofs.Common.{◌≡◌, ◌∷◌, ◌++◌, ◌+◌, ◌<◌, [], length, take, sym, subst, take_more, AreShown}
use Rattle.store_net.proofs.Common.{IsNamed}
use Rattle.store_rows.proofs.Listing.{last_shown}
use Rattle.store_net.proofs.nets.names_in.Goals as goal

pub loop-row-preserved : goal.loop-row-preserved
loop-row-preserved c =
    let rows = c.args.rows.now in
    let at = c.loop-row.row-index in
    let item = c.row-item.result in
    let within : at < length rows = c.loop-row-test.true in
    let next : take (at + 1) rows ≡ take at rows ++ item ∷ [] = rw (take_more rows at item within, ← c.row-item.is) in
    let all = last_shown IsNamed c.in_ok-name.name item c.loop-row.names.items (take at rows) c.in_ok-name.ensures
    c.loop-row.invariant in
    subst (AreShown IsNamed c.push.new.self.items) (sym next)
    (subst (λ l. AreShown IsNamed l (take at rows ++ item ∷ [])) (sym c.in_ok-push.ensures.items) all)
