use Rattle.office_script.specs.Escapes.{unescaped}
use Rattle.office_script.proofs.EscapeLaws.{meant, escape_stops, escape_more, itself_more, read_whole}
use Rattle.office_script.proofs.escapes.unescape.Goals as goal

pub loop-first-preserved-then-first-eq37 : goal.loop-first-preserved-then-first-eq37
loop-first-preserved-then-first-eq37 c =
    rw c.in_ok-push.ensures.items
    (escape_more _ c.loop-first.bytes.items c.loop-first.rest.now c.in-Some.after.now
    c.in-Some-escaped_byte.following.now c.in-Some.first.now c.in-Some-escaped_byte.byte c.loop-first.invariant
    c.in-Some.ensures.cases.0 c.if-first-eq37.true c.in-Some-escaped_byte.ensures.first)

pub loop-first-preserved : goal.loop-first-preserved
loop-first-preserved c =
    rw c.in_ok-push-2.ensures.items
    (itself_more _ c.loop-first.bytes.items c.loop-first.rest.now c.in-Some.after.now c.in-Some.first.now
    c.loop-first.invariant c.in-Some.ensures.cases.0 c.if-first-eq37.false)

pub returns-in_default-escaped_byte : goal.returns-in_default-escaped_byte
returns-in_default-escaped_byte c =
    let none = escape_stops (unescaped c.args.written.now) c.loop-first.bytes.items c.loop-first.rest.now
    c.in-Some.after.now c.in-Some.first.now c.loop-first.invariant c.in-Some.ensures.cases.0
    c.if-first-eq37.true c.in_default-escaped_byte.ensures.first in
    record { value = none; meaning = meant c.args.written.now _ none }

pub returns : goal.returns
returns c =
    let all = read_whole (unescaped c.args.written.now) c.loop-first.bytes.items c.loop-first.rest.now
    c.loop-first.invariant c.in_default.ensures.cases in
    record { value = all; meaning = meant c.args.written.now _ all }
