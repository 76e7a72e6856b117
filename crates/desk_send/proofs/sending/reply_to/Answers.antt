use Rattle.desk_send.proofs.Common.{◌<◌, arith}
use Rattle.std.proofs.Common.{◌-◌}
use Rattle.desk_send.proofs.Trying.{none_left, still_on, tried_again, tried_in_vain, tried_out_of_memory}
use Rattle.desk_send.proofs.Trying.{tried_to_an_answer}
use Rattle.desk_send.proofs.sending.reply_to.Goals as goal

pub loop-left-preserved : goal.loop-left-preserved
loop-left-preserved g c =
    let i = c.loop-left.invariant in
    let first = g.K.Desks.known c.args.desks.now in
    let mid = g.K.Desks.known c.loop-left.desks in
    let after = g.K.Desks.known c.try_once.new.desks in
    let some : 0 < c.loop-left.left = c.loop-left-test.true in
    let within = i.within in
    record {
      within = omega (arith, within);
      still = still_on first mid after i.still c.in-Again.ensures.still;
      so_far = tried_again first c.args.port c.args.request.now mid after (c.loop-left.left - 1) c.loop-left.left
          c.args.tries (omega (arith, some)) i.still i.so_far c.in-Again.ensures.shows;
    }

pub returns-in-Answered-clause-comes : goal.returns-in-Answered-clause-comes
returns-in-Answered-clause-comes g c =
    let i = c.loop-left.invariant in
    let some : 0 < c.loop-left.left = c.loop-left-test.true in
    tried_to_an_answer (g.K.Desks.known c.args.desks.now) c.args.port c.args.request.now
    (g.K.Desks.known c.loop-left.desks) (g.K.Desks.known c.try_once.new.desks) (c.loop-left.left - 1) c.loop-left.left
    c.args.tries (omega (arith, some)) i.still i.so_far c.in-Answered.answer c.in-Answered.ensures.shows

pub returns-in-Over-clause-comes : goal.returns-in-Over-clause-comes
returns-in-Over-clause-comes g c =
    let i = c.loop-left.invariant in
    let some : 0 < c.loop-left.left = c.loop-left-test.true in
    tried_in_vain (g.K.Desks.known c.args.desks.now) c.args.port c.args.request.now
    (g.K.Desks.known c.loop-left.desks) (g.K.Desks.known c.try_once.new.desks) (c.loop-left.left - 1) c.loop-left.left
    c.args.tries (omega (arith, some)) i.still i.so_far c.in-Over.ensures.shows

pub returns-in-OutOfMemory-clause-comes : goal.returns-in-OutOfMemory-clause-comes
returns-in-OutOfMemory-clause-comes g c =
    let i = c.loop-left.invariant in
    let some : 0 < c.loop-left.left = c.loop-left-test.true in
    tried_out_of_memory (g.K.Desks.known c.args.desks.now) c.args.port c.args.request.now
    (g.K.Desks.known c.loop-left.desks) (g.K.Desks.known c.try_once.new.desks) (c.loop-left.left - 1) c.loop-left.left
    c.args.tries (omega (arith, some)) i.still i.so_far c.in-OutOfMemory.ensures.shows

pub returns-clause-comes : goal.returns-clause-comes
returns-clause-comes g c =
    let i = c.loop-left.invariant in
    let none = c.loop-left-test.false in
    none_left (g.K.Desks.known c.args.desks.now) c.args.port c.args.request.now (g.K.Desks.known c.loop-left.desks)
    c.loop-left.left c.args.tries (omega (arith, none)) i.so_far
