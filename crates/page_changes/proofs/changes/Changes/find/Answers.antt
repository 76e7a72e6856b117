use Rattle.page_changes.proofs.Common.{List, Bor, ap, subst, sym, IsStrictlySortedBy, nat_cmp, on, Difference}
use Rattle.std.proofs.Common.{ℕ, ◌*◌}
use Rattle.page_changes.specs.Changes.{rank_of_change}
use Rattle.page_changes.proofs.ChangeParts.{change_found, change_missing}
use Rattle.page_changes.proofs.changes.Changes.find.Goals as goal

pub returns-in-Some : goal.returns-in-Some
returns-in-Some c = λ sorted.
    let searched = c.deref.ensures.value in
    change_found c.args.number (2 * c.from-rank.result) c.in-Ok.index c.args.self.now.messages.items c.deref.result.now
    (ap (λ (n : ℕ). 2 * n) c.from-rank.ensures) searched c.deref-in-Ok.result.now c.in-Some.message.now
    c.deref-in-Ok.ensures.value (c.in-Ok.ensures.found (subst (λ (ms : List (Bor (List Difference))).
    IsStrictlySortedBy (on rank_of_change nat_cmp) ms) (sym searched) sorted)) c.in-Some.ensures.lookup.1

pub returns-in-Err : goal.returns-in-Err
returns-in-Err c = λ sorted.
    let searched = c.deref.ensures.value in
    change_missing c.args.number (2 * c.from-rank.result) c.in-Err.field-0 c.args.self.now.messages.items
    c.deref.result.now (ap (λ (n : ℕ). 2 * n) c.from-rank.ensures) searched
    (c.in-Err.ensures.absent (subst (λ (ms : List (Bor (List Difference))).
    IsStrictlySortedBy (on rank_of_change nat_cmp) ms) (sym searched) sorted))
