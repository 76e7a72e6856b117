use Rattle.store.proofs.Common.{refl}
use Rattle.store.proofs.TablesInForm.{form_schema, never_foreign}
use Rattle.store.proofs.opening.is_office.Goals as goal

pub returns-in-Foreign : goal.returns-in-Foreign
returns-in-Foreign g c = (
  λ no. absurd (cc),
  λ office. absurd (never_foreign _ c.form_of.result c.in-Foreign.is c.form_of.ensures.known
      office),
)

pub returns-in_default : goal.returns-in_default
returns-in_default g c = (
  λ _. form_schema c.form_of.result c.in_default.not-Foreign _ (c.form_of.ensures.exact c.in_default.not-Foreign),
  λ _. refl,
)
