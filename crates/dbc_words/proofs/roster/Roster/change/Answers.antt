use Rattle.dbc_words.proofs.Common.{◌∙◌, get_or, set, refl, sym, ap, position-Some, position, bytes_eq}
use Rattle.std.proofs.Math.Seq.{map-set_same}
use Rattle.std.proofs.lemmas.List.{length-set}
use Rattle.dbc_words.specs.Named.{at_named}
use Rattle.dbc_words.proofs.NamedThings.{changed_at, none_at, none_changed, there_at}
use Rattle.dbc_words.proofs.Rosters.{renamed_roster}
use Rattle.dbc_words.proofs.roster.Roster.change.Goals as goal

pub invariant_of-self : goal.invariant_of-self
invariant_of-self g c =
    let name = g.T.Named.name_of in
    let things = c.self.inside.things.items in
    renamed_roster name things (set things c.in-Some.at c.change.new.arg2) c.self.inside.names c.self.invariant
    (length-set things c.in-Some.at c.change.new.arg2)
    (map-set_same name things c.in-Some.at c.change.new.arg2 c.index_mut.result.now
    (c.requires.named (get_or things c.in-Some.at c.index_mut.result.now) c.change.new.arg2
    (record { shown = _; shows = c.index_mut.ensures.value; left = _; met = c.change.ensures; leaves = refl })))

pub returns-in-Some-clause-there : goal.returns-in-Some-clause-there
returns-in-Some-clause-there g c =
    let name = g.T.Named.name_of in
    let at = position-Some (λ t. bytes_eq (name t) c.args.name.now) c.args.self.now c.in-Some.at c.index_mut.result.now
    (sym c.index_of.ensures ∙ c.in-Some.is) in
    sym (there_at name c.args.name.now c.args.self.now c.in-Some.at c.index_mut.result.now at.0 at.1)

pub returns-in-Some-clause-changed : goal.returns-in-Some-clause-changed
returns-in-Some-clause-changed g c = λ after changes.
    let name = g.T.Named.name_of in
    let n = c.args.name.now in
    let things = c.self.inside.things.items in
    let at = position-Some (λ t. bytes_eq (name t) n) things c.in-Some.at c.index_mut.result.now
    (ap (position (λ t. bytes_eq (name t) n)) c.self.view_is ∙ sym c.index_of.ensures ∙ c.in-Some.is) in
    changed_at name n after things c.in-Some.at c.index_mut.result.now c.change.new.arg2 c.self.invariant.apart at.0
    at.1
    (changes (get_or things c.in-Some.at c.index_mut.result.now) c.change.new.arg2
    (record { shown = _; shows = c.index_mut.ensures.value; left = _; met = c.change.ensures; leaves = refl }))
    ∙ ap (at_named name after n) c.self.view_is

pub returns-in-None-clause-there : goal.returns-in-None-clause-there
returns-in-None-clause-there g c =
    sym (none_at (λ t. bytes_eq (g.T.Named.name_of t) c.args.name.now) c.args.self.now
    (sym c.index_of.ensures ∙ c.in-None.is))

pub returns-in-None-clause-changed : goal.returns-in-None-clause-changed
returns-in-None-clause-changed g c = λ after changes.
    sym (none_changed g.T.Named.name_of c.args.name.now after c.args.self.now
    (none_at (λ t. bytes_eq (g.T.Named.name_of t) c.args.name.now) c.args.self.now
    (sym c.index_of.ensures ∙ c.in-None.is)))
