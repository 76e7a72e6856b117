use Rattle.dbc_advice.proofs.Common.{◌≡◌, encode_utf8_all}
use Rattle.std.proofs.Common.{string_bytes}
use Rattle.dbc_advice.specs.ShownPath.{shown_characters}
use Rattle.dbc_advice.proofs.paths.shown_path.Given as goal

abbrev pub invariant-loop-c : goal.invariant-loop-c
invariant-loop-c l = string_bytes l.shown ≡ encode_utf8_all (shown_characters l.yielded)
