use Rattle.dbc_words.proofs.Common.{◌≡◌, drop}
use Rattle.dbc_words.specs.Text.{is_text, is_text_after}
use Rattle.dbc_words.proofs.text.is_text.Given as goal

abbrev pub invariant-loop-byte : goal.invariant-loop-byte
invariant-loop-byte l = is_text_after l.escaped (drop l.byte-index l.bytes) ≡ is_text l.bytes
