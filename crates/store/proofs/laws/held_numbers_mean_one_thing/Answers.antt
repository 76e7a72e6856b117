use Rattle.store.proofs.laws.held_numbers_mean_one_thing.Goals as goal

pub returns : goal.returns
returns c = record {
  spns = λ h t holds. c.spns_are_given_once.ensures h holds.holds.office holds.holds.legal;
  names = λ h t office net r s m n holds legal. c.numbers_keep_their_names.ensures h office net r s m n
      holds.holds.in_range legal;
}
