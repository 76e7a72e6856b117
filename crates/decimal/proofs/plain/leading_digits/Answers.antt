use Rattle.decimal.proofs.Common.{◌*◌, ◌+◌, ◌-◌, ◌≡◌, ◌∙◌, arith, length, true, get_or, refl, sym, is_ascii_digit}
use Rattle.std.proofs.lemmas.List.Sums.{prefix_len-drop_yes}
use Rattle.decimal.proofs.DigitLists.{digit_range}
use Rattle.decimal.proofs.PlainNumbers.{digit_more, room_after, room_left}
use Rattle.decimal.proofs.plain.leading_digits.Goals as goal

pub overflow_mul-number : goal.overflow_mul-number
overflow_mul-number c =
    let n = length c.args.bytes.now - (c.loop-len.len + 1) in
    let left = room_left (c.loop-len.number * 10 + 0) n
    (room_after c.loop-len.number 0 (length c.args.bytes.now) c.loop-len.len (omega arith) (omega arith)
    c.loop-len.invariant.room) in
    omega (arith, left)

pub overflow_add-number : goal.overflow_add-number
overflow_add-number c =
    let n = length c.args.bytes.now - (c.loop-len.len + 1) in
    let digit : is_ascii_digit (get_or c.args.bytes.now c.loop-len.len 0) ≡ true = sym c.is_ascii_digit.ensures.value
    ∙ c.if-not-is_ascii_digit.false in
    let range = digit_range (get_or c.args.bytes.now c.loop-len.len 0) digit in
    let is = c.from.ensures in
    let left = room_left (c.loop-len.number * 10 + c.from.result) n
    (room_after c.loop-len.number c.from.result (length c.args.bytes.now) c.loop-len.len (omega arith)
    (omega (arith, range, is)) c.loop-len.invariant.room) in
    omega (arith, left)

pub loop-len-preserved : goal.loop-len-preserved
loop-len-preserved c =
    let bs = c.args.bytes.now in
    let i = c.loop-len.len in
    let digit : is_ascii_digit (get_or c.args.bytes.now c.loop-len.len 0) ≡ true = sym c.is_ascii_digit.ensures.value
    ∙ c.if-not-is_ascii_digit.false in
    let range = digit_range (get_or c.args.bytes.now c.loop-len.len 0) digit in
    let is = c.from.ensures in
    let within = c.loop-len-test.true in
    let more = prefix_len-drop_yes is_ascii_digit bs i 0 within digit in
    let before = c.loop-len.invariant.prefix in
    record {
      prefix = omega (arith, more, before);
      number = rw is (digit_more c.args.number bs i c.loop-len.number (get_or bs i 0) within refl digit
          c.loop-len.invariant.number);
      room = room_after c.loop-len.number c.from.result (length bs) i within (omega (arith, range, is))
          c.loop-len.invariant.room;
    }
