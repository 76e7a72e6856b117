use Rattle.std.proofs.Common.{arith, ◌≤◌, length}
use Rattle.httparse.specs.Grammar.{print_request, HasNoRequest}
use Rattle.desk_head.specs.Limits.{head_limit}
use Rattle.desk_head.proofs.Fronts.{front_of_front}
use Rattle.desk_head.proofs.parsing.parse_head.Goals as goal

pub returns-else-bytes-lt-HEAD_LIMIT : goal.returns-else-bytes-lt-HEAD_LIMIT
returns-else-bytes-lt-HEAD_LIMIT c more h rest has =
    let small : length (print_request h) ≤ head_limit = has.1.bytes in
    let fits : length (print_request h) ≤ length c.args.bytes.now = omega arith in
    let none : HasNoRequest c.args.bytes.now = rw c.in-Ok-Partial.field-0-is at c.in-Ok-Partial.ensures.partial in
    none h _ (has.0.0, front_of_front c.args.bytes.now more _ rest has.0.1 fits)
