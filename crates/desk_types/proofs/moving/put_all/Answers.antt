use Rattle.std.proofs.Common.{rules, arith, ◌++◌, take, drop, sym}
use Rattle.std.proofs.lemmas.List.{take-append-drop, take_rest}
use Rattle.std.proofs.Math.Seq.{take-add}
use Rattle.std.proofs.KnownBytes.{Appends-trans, Appends-kept}
use Rattle.std.specs.Io.KnownBytes.{Appends}
use Rattle.desk_types.proofs.moving.put_all.Goals as goal

pub loop-at-preserved : goal.loop-at-preserved
loop-at-preserved g c =
    let reported = g.W.Sink.reported in
    let text = c.args.text.now in
    let both : Appends (reported c.args.sink.now) (reported c.put.new.self)
    (take c.loop-at.at text ++ take c.in-Ok.n (drop c.loop-at.at text)) =
    Appends-trans _ _ _ _ _ c.loop-at.invariant.reported (rw (take_rest text c.loop-at.at) at c.in-Ok.ensures.bytes) in
    record {
      within = omega (arith, c.in-Ok.ensures.within);
      reported = rw (take-add c.loop-at.at c.in-Ok.n text) both;
      count = search rules;
    }

pub returns-in-Err-clause-front : goal.returns-in-Err-clause-front
returns-in-Err-clause-front g c = (
  take c.loop-at.at c.args.text.now,
  drop c.loop-at.at c.args.text.now,
  sym (take-append-drop c.loop-at.at c.args.text.now),
  Appends-kept _ _ _ _ c.loop-at.invariant.reported c.in-Err.ensures.bytes,
)
