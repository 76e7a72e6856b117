use Rattle.dbc_lint.proofs.Common.{take}
use Rattle.dbc_lint.specs.OfSpn.{places}
use Rattle.dbc_lint.specs.SpnPlaces.{HasFirsts}
use Rattle.dbc_lint.proofs.spn_places.FirstPlaces.of.Given as goal

abbrev pub invariant-loop-message : goal.invariant-loop-message
invariant-loop-message l = HasFirsts (places (take l.message-index l.messages)) l.firsts
