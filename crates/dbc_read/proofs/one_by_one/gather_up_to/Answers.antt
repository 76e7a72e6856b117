use Rattle.dbc_read.proofs.Common.{◌≡◌, ◌∙◌, ◌++◌, List, sym, subst, with_items_is, IfSome_then, err_from_is_err_and}
use Rattle.dbc_read.proofs.Common.{MessageLine}
use Rattle.dbc_read.specs.Attaching.{in_signals}
use Rattle.dbc_read.specs.Gathering.{AreBare, one_or_none, with_definitions}
use Rattle.dbc_read.specs.Settling.{AreSettled}
use Rattle.dbc_read.proofs.OneByOne.{begin_without}
use Rattle.dbc_read.proofs.Settled.{all_settled}
use Rattle.dbc_read.proofs.one_by_one.gather_up_to.Goals as goal

pub gather_others-requires-clause-bare : goal.gather_others-requires-clause-bare
gather_others-requires-clause-bare c =
    let g = c.gather_definitions.new.gathered in
    let messages : c.deref_mut.result.now ≡ g.messages = c.deref_mut.ensures.value ∙ c.into_vec-lines.ensures
    ∙ c.take.ensures.items in
    subst AreBare (sym messages) (c.in_ok-first.ensures.bare (subst AreBare (sym c.requires.messages) tt))

pub returns-in_err-settled-clause-err : goal.returns-in_err-settled-clause-err
returns-in_err-settled-clause-err c =
    let begun = c.in_ok-first.ensures.ok in
    let p = err_from_is_err_and c.from_residual-in_err-settled.result c.from_residual-in_err-settled.ensures.1 in
    rw (p.1, p.2) (λ memory. begin_without (begun.stated ++ one_or_none c.in_ok-first.first)
    c.args.statements.now.tokens c.gather_definitions.new.statements.tokens begun.read
    (c.in_err-settled.ensures.err memory))

pub returns-clause-ok : goal.returns-clause-ok
returns-clause-ok c =
    let g = c.gather_definitions.new.gathered in
    let now = c.gather_others.new.gathered in
    let lines : List MessageLine = c.deref_mut.result.now in
    let new_lines : List MessageLine = c.gather_others.new.lines in
    let long = c.gather_others.auto.lines in
    let kept : c.from_vec.result ≡ new_lines = c.from_vec.ensures
    ∙ with_items_is c.into_vec-lines.result new_lines (long ∙ c.deref_mut.ensures.len) in
    let nodes : c.take-nodes.result ≡ g.nodes = c.take-nodes.ensures.items in
    let messages : lines ≡ g.messages = c.deref_mut.ensures.value ∙ c.into_vec-lines.ensures ∙ c.take.ensures.items in
    IfSome_then c.in_ok-settled.settled c.in_ok-settled.ensures.ok (λ settled follow.
    subst (λ (l : List MessageLine). AreSettled settled c.args.statements.now.tokens
    c.gather_others.new.statements.tokens (in_signals (with_definitions c.take-nodes.result l now))) (sym kept)
    (all_settled settled c.args.statements.now.tokens c.gather_definitions.new.statements.tokens
    c.gather_others.new.statements.tokens c.args.gathered.now g _ now c.in_ok-first.first
    c.take-nodes.result c.as_slice.result.now lines new_lines nodes (c.as_slice.ensures ∙ nodes) messages
    (λ i. with_definitions (c.take-nodes.ensures.rest i) (c.take.ensures.rest i) g)
    c.requires c.in_ok-first.ensures.ok follow))
