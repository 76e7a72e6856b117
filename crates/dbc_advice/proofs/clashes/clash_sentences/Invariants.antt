use Rattle.dbc_advice.proofs.Common.{◌≡◌, ◌≤◌, length, map, take}
use Rattle.dbc_advice.specs.Clashes.{bytes_of, clash_sentence, clashes_of}
use Rattle.dbc_advice.specs.Limits.{clashes_reported}
use Rattle.dbc_advice.proofs.clashes.clash_sentences.Given as goal

abbrev pub invariant-loop-message : goal.invariant-loop-message
invariant-loop-message l = record {
  told : map bytes_of l.sentences.items ≡ map clash_sentence (clashes_of (take l.message-index l.sheet.messages));
  few : length l.sentences.items ≤ clashes_reported;
}
