use Rattle.store_looks.proofs.Common.{ap, sym, ◌∙◌, shown_of}
use Rattle.store_looks.specs.Seen.{seen_text}
use Rattle.store_looks.proofs.shown.shown.Goals as goal

pub returns-in_ok-duplicate-in-Some-clause-text : goal.returns-in_ok-duplicate-in-Some-clause-text
returns-in_ok-duplicate-in-Some-clause-text c =
    c.in_ok-text-in-Some.ensures ∙ ap (shown_of c.args.form c.args.look.now) c.view.ensures
    ∙ ap (seen_text c.args.form c.args.look.now) (sym c.in-Some.is)
