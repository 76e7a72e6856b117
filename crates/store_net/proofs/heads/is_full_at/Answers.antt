use Rattle.store_net.proofs.Common.{◌≡◌, ◌<◌, length, sym, false, arith, nat_le, nat_tests, state, message_limit}
use Rattle.store_net.proofs.Common.{tables_of, is_of_net}
use Rattle.store_net.proofs.HeadsShown.{filter_shorter, rows_counted}
use Rattle.store_net.proofs.heads.is_full_at.Goals as goal

pub returns-then-branch-clause-found : goal.returns-then-branch-clause-found
returns-then-branch-clause-found g c clean office live h =
    let name = c.args.name.now in
    let t = tables_of (state g.S.Store c.args.tx.now.conn.now).now.trees in
    let few = c.in_ok-are_few.ensures.found clean office c.if-branch.true in
    let those = rows_counted name t live h in
    let shorter = filter_shorter (is_of_net name) t.msg in
    let less : length live < message_limit = omega (arith, few, those, shorter) in
    let no : nat_le message_limit (length live) ≡ false = grind (arith, nat_tests, less) in
    sym no
