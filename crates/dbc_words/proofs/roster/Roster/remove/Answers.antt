use Rattle.dbc_words.proofs.Common.{◌∙◌, Some, sym, ap, position-Some, position, bytes_eq}
use Rattle.dbc_words.specs.Named.{thing_named, without_named}
use Rattle.dbc_words.proofs.NamedThings.{all_without, find_none, found_at, none_at, removed_at}
use Rattle.dbc_words.proofs.Rosters.{shrunk_roster}
use Rattle.dbc_words.proofs.roster.Roster.remove.Goals as goal

pub invariant_of-self : goal.invariant_of-self
invariant_of-self g c =
    let name = g.T.Named.name_of in
    let n = c.args.name.now in
    let things = c.self.inside.things.items in
    let at = position-Some (λ t. bytes_eq (name t) n) things c.in-Some.at c.remove-thing.result
    (ap (position (λ t. bytes_eq (name t) n)) c.self.view_is ∙ sym c.index_of.ensures ∙ c.in-Some.is) in
    shrunk_roster name things c.remove-thing.new.self.items n c.in-Some.at c.remove-thing.result c.self.inside.names
    c.remove_name.new.index c.self.invariant at.0 at.1
    c.remove-thing.ensures.items c.remove_name.ensures

pub returns-in-Some-clause-found : goal.returns-in-Some-clause-found
returns-in-Some-clause-found g c =
    let name = g.T.Named.name_of in
    let n = c.args.name.now in
    let things = c.self.inside.things.items in
    let at = position-Some (λ t. bytes_eq (name t) n) things c.in-Some.at c.remove-thing.result
    (ap (position (λ t. bytes_eq (name t) n)) c.self.view_is ∙ sym c.index_of.ensures ∙ c.in-Some.is) in
    ap Some c.remove-thing.ensures.value
    ∙ sym (found_at name n things c.in-Some.at c.remove-thing.result c.self.invariant.apart at.0 at.1)
    ∙ ap (λ xs. thing_named name xs n) c.self.view_is

pub returns-in-Some-clause-rest : goal.returns-in-Some-clause-rest
returns-in-Some-clause-rest g c =
    let name = g.T.Named.name_of in
    let n = c.args.name.now in
    let things = c.self.inside.things.items in
    let at = position-Some (λ t. bytes_eq (name t) n) things c.in-Some.at c.remove-thing.result
    (ap (position (λ t. bytes_eq (name t) n)) c.self.view_is ∙ sym c.index_of.ensures ∙ c.in-Some.is) in
    c.remove-thing.ensures.items ∙ removed_at name n things c.in-Some.at c.remove-thing.result c.self.invariant.apart
    at.0 at.1
    ∙ ap (λ xs. without_named name xs n) c.self.view_is

pub returns-in-None-clause-found : goal.returns-in-None-clause-found
returns-in-None-clause-found g c =
    sym (find_none g.T.Named.name_of c.args.name.now c.args.self.now
    (none_at (λ t. bytes_eq (g.T.Named.name_of t) c.args.name.now) c.args.self.now
    (sym c.index_of.ensures ∙ c.in-None.is)))

pub returns-in-None-clause-rest : goal.returns-in-None-clause-rest
returns-in-None-clause-rest g c =
    sym (all_without g.T.Named.name_of c.args.name.now c.args.self.now
    (none_at (λ t. bytes_eq (g.T.Named.name_of t) c.args.name.now) c.args.self.now
    (sym c.index_of.ensures ∙ c.in-None.is)))
