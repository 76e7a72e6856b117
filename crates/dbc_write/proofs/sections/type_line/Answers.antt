use Rattle.dbc_write.proofs.Common.{◌≡◌, ◌==◌, ◌∙◌, false}
use Rattle.std.proofs.Common.{arith}
use Rattle.std.proofs.lemmas.Bool.Decides.{nat_tests}
use Rattle.dbc_words.specs.ValueType.{value_type_number}
use Rattle.dbc_write.proofs.Adds.{also, line}
use Rattle.dbc_write.proofs.sections.type_line.Goals as goal

pub returns : goal.returns
returns c =
    let number = c.from-number.ensures ∙ c.number.ensures in
    let some : (value_type_number c.args.signal.now.value_type == 0) ≡ false = grind (arith, nat_tests, number) in
    let name = rw c.as_bytes.ensures.bytes at c.in_ok-spaced_word.ensures in
    let message = rw c.number-2.ensures at c.in_ok-spaced_number.ensures in
    let signal = also (also c.in_ok-tight_word.ensures message) name in
    let cited = also signal c.in_ok-spaced_mark.ensures in
    let type = rw number at c.in_ok-spaced_number-2.ensures in
    rw some (line (also (also cited type) c.in_ok-tight_mark.ensures) c.in_ok-push.ensures.items)
