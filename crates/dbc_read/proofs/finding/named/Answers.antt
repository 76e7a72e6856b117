use Rattle.dbc_read.proofs.Common.{◌≡◌, ◌∙◌, ◌+◌, ◌++◌, List, Some, length, subst, bytes_eq, take-append-drop, Signal}
use Rattle.dbc_read.specs.Lookup.{IsIndexIn}
use Rattle.dbc_read.proofs.Positions.{after_front, none_after}
use Rattle.dbc_read.proofs.finding.named.Goals as goal

pub returns-in-Some : goal.returns-in-Some
returns-in-Some c =
    let test = λ (s : Signal). bytes_eq s.name c.args.name.now in
    let before = c.split_at.result.0.now in
    let after = c.split_at.result.1.now in
    let parts : before ++ after ≡ c.args.signals.now = (λ i. c.split_at.ensures.front i ++ c.split_at.ensures.back i)
    ∙ take-append-drop c.min.result c.args.signals.now in
    subst (λ (l : List Signal). IsIndexIn test l (Some (length before + c.in-Some.index))) parts
    (after_front test before after c.in-Some.index c.in-Some.ensures)

pub returns-in-None : goal.returns-in-None
returns-in-None c =
    let test = λ (s : Signal). bytes_eq s.name c.args.name.now in
    let before = c.split_at.result.0.now in
    let after = c.split_at.result.1.now in
    let parts : before ++ after ≡ c.args.signals.now = (λ i. c.split_at.ensures.front i ++ c.split_at.ensures.back i)
    ∙ take-append-drop c.min.result c.args.signals.now in
    subst (λ (l : List Signal). IsIndexIn test l c.first_named-in-None.result) parts
    (none_after test before after c.first_named-in-None.result c.first_named-in-None.ensures c.in-None.ensures)
