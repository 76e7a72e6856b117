use Rattle.std.proofs.Common.{◌≡◌, OnOk, OnErr, ℕ, List, sym, subst}
use Rattle.std.specs.declared.result.Result.{Result}
use Rattle.std.specs.declared.result.Result.TheVariants.{Ok, Err}
use Rattle.std.specs.declared.alloc.AllocError.{AllocError}
use Rattle.std.specs.Ordering.{nat_cmp}
use Rattle.base.specs.Keyed.{put}
use Rattle.office_types.specs.Book.{AreUsed}
use Rattle.office_types.proofs.Used.{AreUsed-put}
use Rattle.office_types.proofs.book.UsedSpns.enter.Goals as goal

kept : (r : Result (Unit {0}) AllocError) (n : ℕ) (used more : List ℕ) → AreUsed used → AreUsed (put nat_cmp n used)
    → OnOk r (more ≡ put nat_cmp n used) → OnErr r (more ≡ used) → AreUsed more
kept (Ok v) n used more before after ok err = subst AreUsed (sym ok) after
kept (Err e) n used more before after ok err = subst AreUsed (sym err) before

pub invariant_of-self : goal.invariant_of-self
invariant_of-self c =
    kept c.put_item.result c.spn.inside.number c.self.inside.numbers c.put_item.new.items c.self.invariant
    (AreUsed-put c.spn.inside.number c.self.inside.numbers c.spn.invariant c.self.invariant) c.put_item.ensures.ok
    c.put_item.ensures.err
