-- Worked examples, computed from the definitions.
use Rattle.office_law.proofs.Common.{◌≡◌, ℕ, List, [], ◌∷◌, Some, None, refl, first_refusal, least_free, Act, Done}
use Rattle.office_law.proofs.Common.{Refused, Refusing, TeamCommand, opening, action_tests}
use Rattle.std.specs.Prelude.{codes}
use Rattle.office_types.specs.declared.command.Action.TheVariants as act
use Rattle.office_types.specs.declared.free.NumberForm.TheVariants.{Std}
use Rattle.office_types.specs.declared.refusal.Refusal.TheVariants as no
use Rattle.office_rules.specs.Profile.{Two}
use Rattle.office_law.specs.Histories.{history, net_after}

submits : List ℕ → TeamCommand
submits net = (Two, codes "engine", record { net = net; task = Act act.Submit })

-- the history of one of two networks
one_of_two : history (codes "truck") (submits (codes "truck") ∷ submits (codes "bus") ∷ submits (codes "truck") ∷ [])
    (Done ∷ Done ∷ Refused no.InReview ∷ [])
    ≡ (Two, codes "engine", record { net = codes "truck"; task = Act act.Submit }, Done)
    ∷ (Two, codes "engine", record { net = codes "truck"; task = Act act.Submit }, Refused no.InReview) ∷ []
unfolding submits
one_of_two = refl

nothing_left : net_after None (Refusing no.NoNet) ≡ None
nothing_left = refl

-- the first test of the list that holds
no_network : first_refusal (action_tests (codes "engine") (codes "truck") None opening.book act.Submit) ≡ Some no.NoNet
no_network = refl

-- numbers outside the block don't matter
inside_alone : least_free (4 ∷ 9 ∷ []) (record { first = 4; last = 6 } ∷ []) Std ≡ least_free (3 ∷ 4 ∷ [])
    (record { first = 4; last = 6 } ∷ []) Std
inside_alone = refl
