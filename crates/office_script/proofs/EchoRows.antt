-- Echoes computed.
use Rattle.std.proofs.Common.{◌≡◌, [], ◌∷◌, codes, map, refl, None, true, false}
use Rattle.std.specs.Fmt.{digits}
use Rattle.office_types.specs.declared.command.Action.TheVariants as act
use Rattle.office_types.specs.declared.command.Command.{Command}
use Rattle.office_types.specs.declared.command.Task.{Task}
use Rattle.office_types.specs.declared.command.Task.TheVariants.{Act, Import, Bundle}
use Rattle.office_types.specs.declared.refusal.Refusal.TheVariants as no
use Rattle.office_types.specs.declared.reply.PartReply.TheVariants as part
use Rattle.office_types.specs.declared.reply.Reply.TheVariants as reply
use Rattle.office_history.specs.declared.arrival.Answer.TheVariants.{Reply, KeyReused}
use Rattle.office_script.specs.Echoes.{echo_of, is_refused}

abbrev on_truck : Task → Command
on_truck task = record { net = codes "truck"; task = task }

-- a submission, its repeat under a used key, and a refusal
submitted : map (echo_of (codes "s2") (on_truck (Act act.Submit)))
    (Reply reply.Done ∷ KeyReused ∷ Reply (reply.Refused no.InReview) ∷ [])
    ≡ codes "s2 submit truck: done\n" ∷ codes "s2 submit truck: refused 70 KeyReused\n"
    ∷ codes "s2 submit truck: refused 54 InReview\n" ∷ []
unfolding digits
submitted = refl

-- a node, a message and a signal
subjects : map (λ a. echo_of (codes "e1") (on_truck (Act a)) (Reply reply.Done))
    (act.AddNode (codes "ECM") ∷ act.Retire (codes "EEC1")
    ∷ act.RemoveSignal (record { message = codes "EEC1"; signal = codes "EngineSpeed" }) ∷ [])
    ≡ codes "e1 add_node ECM: done\n" ∷ codes "e1 retire EEC1: done\n"
    ∷ codes "e1 remove_signal EEC1.EngineSpeed: done\n" ∷ []
unfolding digits
subjects = refl

-- a bundle that was carried out has a line for each part, and one that was refused has one
bundle : map (echo_of (codes "b1") (on_truck (Bundle (act.AddNode (codes "ECM")
    ∷ act.TakeSpn (record { path = record { message = codes "EEC1"; signal = codes "EngineSpeed" }; same = None })
    ∷ []))))
    (Reply (reply.Bundle (part.Done ∷ part.Number 190 ∷ []))
    ∷ Reply (reply.Refused (no.BundleRefused (record { fault = 50; at = 1 }))) ∷ [])
    ≡ codes "b1 add_node ECM: done\nb1 take_spn EEC1.EngineSpeed: number 190\n"
    ∷ codes "b1 bundle truck: refused 62 BundleRefused 50 1\n" ∷ []
unfolding digits
bundle = refl

-- an import
imported : echo_of (codes "i1") (on_truck (Import [])) (Reply (reply.Counts 12 0))
    ≡ codes "i1 import truck: counts 12 0\n"
unfolding digits
imported = refl

refusals : map is_refused
    (Reply (reply.Refused no.NoNet) ∷ KeyReused ∷ Reply reply.Done ∷ Reply (reply.Bundle []) ∷ [])
    ≡ true ∷ true ∷ false ∷ false ∷ []
refusals = refl
