use Rattle.store_looks.proofs.Common.{◌∙◌, sym, ap, option_map, content_and_answer, kept_answer}
use Rattle.store_looks.proofs.Asked.{one_some}
use Rattle.store_looks.proofs.requests.kept_under.Goals as goal

pub returns-in-Some-clause-found : goal.returns-in-Some-clause-found
returns-in-Some-clause-found g c clean office h kept parts a first key =
    one_some _ _ (sym (ap (option_map kept_answer) c.in-Some.is)
    ∙ c.in_ok-kept.ensures.found clean office h kept parts a first.0 key
    ∙ ap (option_map content_and_answer) first.1)
