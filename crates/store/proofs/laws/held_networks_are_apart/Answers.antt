use Rattle.store.proofs.laws.held_networks_are_apart.Goals as goal

pub returns : goal.returns
returns c = λ h g a t u holds others unrequested one_h one_g same.
    c.answers_are_apart.ensures h g a unrequested one_h one_g same (holds.holds.office, holds.holds.legal)
    (others.holds.office, others.holds.legal)
