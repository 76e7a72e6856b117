use Rattle.bitlayout.proofs.Masks.{none_in_zeros, zeros_are}
use Rattle.bitlayout.proofs.mask.Mask.empty.Goals as goal

pub invariant_of-result : goal.invariant_of-result
invariant_of-result c = zeros_are

pub returns : goal.returns
returns c q h = none_in_zeros 224 q h
