use Rattle.dbc_words.proofs.Common.{◌∙◌}
use Rattle.dbc_words.proofs.Rosters.{copied_roster}
use Rattle.dbc_words.proofs.roster.RosterCopying.duplicate.Goals as goal

pub invariant_of-result : goal.invariant_of-result
invariant_of-result g c =
    copied_roster g.T.Named.name_of c.self.inside.things.items c.in_ok-duplicates.field-0.items c.self.inside.names
    c.in_ok-copy_index.field-0 c.self.invariant
    (c.in_ok-duplicates.ensures ∙ c.deref.ensures.value) c.in_ok-copy_index.ensures
