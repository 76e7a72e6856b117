use Rattle.store_looks.proofs.Common.{Some, sym, subst, ◌∙◌, AreRead, HasLast}
use Rattle.store_looks.proofs.Seeing.{last_read}
use Rattle.store_looks.proofs.view.releases_for.Goals as goal

pub returns-in-Nothing-clause-found : goal.returns-in-Nothing-clause-found
returns-in-Nothing-clause-found g c clean office net at =
    subst (λ releases. AreRead releases net.releases c.without_texts.result) (sym c.in-Nothing.is)
    (c.without_texts.ensures ∙ c.new.ensures)

pub returns-in_ok-sheets-in-Last-clause-found : goal.returns-in_ok-sheets-in-Last-clause-found
returns-in_ok-sheets-in-Last-clause-found g c clean office net at =
    let found = c.without_texts-in-Last.result in
    subst (λ releases. AreRead releases net.releases found) (sym c.in-Last.is)
    (last_read net.releases found (subst (HasLast net.releases) (sym c.without_texts-in-Last.ensures)
    (c.in_ok-sheets-in-Last.ensures.found clean office net at)))

pub returns-in_ok-read-in-All-clause-found : goal.returns-in_ok-read-in-All-clause-found
returns-in_ok-read-in-All-clause-found g c clean office net at =
    subst (λ releases. AreRead releases net.releases c.of.result) (sym c.in-All.is)
    (c.of.ensures ∙ c.in_ok-read-in-All.ensures.found clean office (Some net) at)
