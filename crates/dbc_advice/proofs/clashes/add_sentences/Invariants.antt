use Rattle.dbc_advice.proofs.Common.{◌≡◌, ◌++◌, drop, map}
use Rattle.dbc_advice.specs.Clashes.{bytes_of, clash_sentence}
use Rattle.dbc_advice.specs.declared.reasons.ClashReason.{ClashReason}
use Rattle.dbc_advice.proofs.clashes.add_sentences.Given as goal

abbrev pub invariant-loop-reason : goal.invariant-loop-reason
invariant-loop-reason l =
    map bytes_of l.sentences.items ++ map (λ (r : ClashReason). clash_sentence (l.message, r)) (drop l.reason-index l.reasons)
    ≡ map bytes_of l.initial.sentences.items ++ map (λ (r : ClashReason). clash_sentence (l.message, r)) l.reasons
