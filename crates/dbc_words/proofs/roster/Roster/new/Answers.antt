use Rattle.dbc_words.proofs.Rosters.{empty_roster}
use Rattle.dbc_words.proofs.roster.Roster.new.Goals as goal

pub invariant_of-result : goal.invariant_of-result
invariant_of-result g c = empty_roster g.T.Named.name_of c.new.result.items c.new.ensures.items
