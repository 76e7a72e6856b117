-- A network that was read by how many releases it has.
use Rattle.store.proofs.Common.{◌≡◌, ◌∙◌, ◌+◌, ℕ, false, List, Option, Some, None, ap, subst, SpnBook, Decision}
use Rattle.store.proofs.Common.{Command, Net, IsDecision, IsNext, next_number}
use Rattle.office_rules.specs.Commands.{reads_bodies}
use Rattle.office_law.specs.Released.{BodiesDontCount}
use Rattle.store_net.specs.Counted.{HasAsMany}

pub net_counted : BodiesDontCount → (team : List ℕ) (c : Command) (d : Decision) (net made : Option Net)
    (book : SpnBook) (next : ℕ) → reads_bodies c.task ≡ false → HasAsMany net made → next ≡ next_number made
    → IsDecision team (record { net = made; book = book }) c d
    → IsDecision team (record { net = net; book = book }) c d × IsNext (Some next) net d.changes
net_counted law team c d None made book next unread absent next_is h = (
  subst (λ m. IsDecision team (record { net = m; book = book }) c d) absent h,
  λ released. ap Some (next_is ∙ ap next_number absent),
)
net_counted law team c d (Some net) made book next unread many next_is h = (
  law team net many.0 net.releases book c d unread many.1
      (subst (λ m. IsDecision team (record { net = m; book = book }) c d) many.2 h),
  λ released. ap Some (next_is ∙ ap next_number many.2 ∙ ap (λ n. n + 1) many.1),
)
