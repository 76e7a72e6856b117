use Rattle.office_facts.specs.FactsOf.{message_facts_of}
use Rattle.office.proofs.Looked.{facts_are_those, live_rises}
use Rattle.office.proofs.looking_up.facts_by.Goals as goal

pub look_up-at-requires-clause-rising : goal.look_up-at-requires-clause-rising
look_up-at-requires-clause-rising c = live_rises c.args.net.now c.requires.net

pub returns : goal.returns
returns c =
    facts_are_those c.args.net.now c.args.name.now c.look_up-at.result (message_facts_of c.facts_at.result)
    c.facts_at.ensures c.look_up-at.ensures
