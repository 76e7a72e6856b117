use Rattle.decimal.proofs.Common.{ℕ, List, length, ap, arith}
use Rattle.decimal.proofs.Texts.{decimal_short}
use Rattle.decimal.proofs.printing.push_number.Goals as goal

pub push_str-requires : goal.push_str-requires
push_str-requires c =
    let short = decimal_short 36 c.args.number (omega arith) (omega arith) c.requires.number in
    let size = ap (λ (bs : List ℕ). length bs) c.format.ensures.text in
    omega (arith, short, size)

pub returns-clause-room : goal.returns-clause-room
returns-clause-room c =
    let short = decimal_short 36 c.args.number (omega arith) (omega arith) c.requires.number in
    let size = ap (λ (bs : List ℕ). length bs) c.format.ensures.text in
    let now = c.push_str.ensures.len in
    omega (arith, short, size, now)
