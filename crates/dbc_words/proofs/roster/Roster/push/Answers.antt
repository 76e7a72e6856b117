use Rattle.dbc_words.proofs.Common.{◌∙◌, ap, refl, ◌++◌, ◌∷◌, [], length, nat_le}
use Rattle.dbc_words.specs.Limits.{roster_limit}
use Rattle.dbc_words.specs.Named.{has_name}
use Rattle.dbc_words.proofs.Rosters.{grown_roster, indexed_roster}
use Rattle.dbc_words.proofs.roster.Roster.push.Goals as goal

pub invariant_of-self-2 : goal.invariant_of-self-2
invariant_of-self-2 g c =
    let name = g.T.Named.name_of in
    let things = c.self.inside.things.items in
    let made = rw c.deref.ensures.value at c.make_index.ensures in
    grown_roster name things c.push_reserved.new.self.items c.args.thing c.make_index.new.index c.add_name.new.index
    (indexed_roster name things things c.self.inside.names c.make_index.new.index c.self.invariant refl
    (made c.self.invariant.index))
    (ap (λ xs. nat_le roster_limit (length xs)) c.self.view_is ∙ c.requires.room)
    (ap (λ xs. has_name name xs (name c.args.thing)) c.self.view_is ∙ c.requires.new)
    (c.push_reserved.ensures.items ∙ ap (λ xs. xs ++ c.args.thing ∷ []) c.reserve.ensures.items)
    (rw c.name.ensures at c.in_ok-add_name.ensures.ok)
