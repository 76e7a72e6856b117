-- What nothing is added to.
use Rattle.page_changes.proofs.Common.{[], sym, ap, append-nil, Becomes, Writing, adding}

pub unchanged : (a : Writing) → Becomes a (adding [] a)
unchanged a kept = ap (λ v. record a { text = v }) (sym (append-nil a.text))
