use Rattle.dbc_compare.proofs.Common.{ap, sym}
use Rattle.std.specs.Str.{chars, is_utf8}
use Rattle.std.specs.Str.Lossy.{utf8_error_len, utf8_lossy, utf8_valid_len}
use Rattle.serde_json.proofs.OnLiterals.{serde_json_on_literals}
use Rattle.dbc_compare.specs.List.{no_difference}
use Rattle.dbc_compare.proofs.list.no_difference.Goals as goal

pub returns-then-json : goal.returns-then-json
unfolding utf8_lossy utf8_valid_len utf8_error_len is_utf8 chars serde_json_on_literals
returns-then-json c = sym (ap no_difference c.if-json.true)
