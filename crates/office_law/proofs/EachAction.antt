-- The laws hold of each action.
use Rattle.office_law.proofs.Common.{ℕ, List, Action}
use Rattle.office_types.specs.declared.command.Action.TheVariants as act
use Rattle.office_law.proofs.NumberLaws.{take_ident_laws, take_pgn_laws}
use Rattle.office_law.proofs.OfAction.{ActionLaws}
use Rattle.office_law.proofs.OpeningLaws.{add_node_laws, grant_laws, open_net_laws}
use Rattle.office_law.proofs.RetiringLaws.{retire_laws}
use Rattle.office_law.proofs.ReviewLaws.{approve_laws, reject_laws, release_laws, submit_laws}
use Rattle.office_law.proofs.SignalLaws.{remove_signal_laws, set_values_laws, take_bits_laws, take_spn_laws}

pub laws_of : (team name : List ℕ) (a : Action) → ActionLaws team name a
laws_of team name (act.OpenNet c) = open_net_laws team name c
laws_of team name (act.Grant c) = grant_laws team name c
laws_of team name (act.AddNode node) = add_node_laws team name node
laws_of team name (act.TakeIdent c) = take_ident_laws team name c
laws_of team name (act.TakePgn c) = take_pgn_laws team name c
laws_of team name (act.TakeSpn c) = take_spn_laws team name c
laws_of team name (act.TakeBits c) = take_bits_laws team name c
laws_of team name (act.SetValues c) = set_values_laws team name c
laws_of team name (act.RemoveSignal path) = remove_signal_laws team name path
laws_of team name (act.Retire message) = retire_laws team name message
laws_of team name act.Submit = submit_laws team name
laws_of team name act.Approve = approve_laws team name
laws_of team name act.Reject = reject_laws team name
laws_of team name act.Release = release_laws team name
