-- Identifiers that are the same.
use Rattle.office_rules.proofs.Common.{◌≡◌, Ident}
use Rattle.std.proofs.Common.{true, ap, eqb-true}
use Rattle.std.proofs.lemmas.Bool.{false≢true}
use Rattle.can_id.specs.declared.ident.Ident.TheVariants as id
use Rattle.office_rules.specs.Facts.{same_ident}

pub same_ident-true : (a b : Ident) → same_ident a b ≡ true → a ≡ b
same_ident-true (id.Std m) (id.Std n) e = ap (λ v. id.Std v) (eqb-true m n e)
same_ident-true (id.Std m) (id.Ext n) e = absurd (false≢true e)
same_ident-true (id.Ext m) (id.Std n) e = absurd (false≢true e)
same_ident-true (id.Ext m) (id.Ext n) e = ap (λ v. id.Ext v) (eqb-true m n e)
