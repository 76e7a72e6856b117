use Rattle.store_changes.proofs.Common.{[], sym, ap, subst, ◌∙◌, false≢true}
use Rattle.std.proofs.Common.{◌≢◌, IfSome}
use Rattle.dbc_words.specs.Name.{is_name}
use Rattle.store_changes.proofs.message_rows.sender_text.Goals as goal

pub returns-in-Some-clause-sent : goal.returns-in-Some-clause-sent
unfolding is_name
returns-in-Some-clause-sent c =
    subst (λ o. IfSome o (λ n. n ≢ [])) (sym c.in-Some.is)
    (λ empty. false≢true (ap is_name (sym empty) ∙ c.as_bytes.ensures.keeps))
