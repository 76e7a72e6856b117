-- Of two, the first where it is so, and otherwise the second.
use Rattle.page_messages.proofs.Common.{◌≡◌, ◌∙◌, Bool, true, false, ap, cond, not, refl, sym, Becomes, Writing}

pub then_so : (b : Bool) (x y new : Writing) → b ≡ true → Becomes new x → Becomes new (cond b x y)
then_so b x y new e h kept = h kept ∙ sym (ap (λ v. cond v x y) e)

pub else_so : (b : Bool) (x y new : Writing) → b ≡ false → Becomes new y → Becomes new (cond b x y)
else_so b x y new e h kept = h kept ∙ sym (ap (λ v. cond v x y) e)

-- what isn't off is on
pub on : (b : Bool) → not b ≡ false → b ≡ true
on true e = refl
on false e = sym e
