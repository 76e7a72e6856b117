use Rattle.desk.proofs.Turns.{says_by}
use Rattle.desk.proofs.serving.say_failure.Goals as goal

pub returns-then-not-had_failed : goal.returns-then-not-had_failed
returns-then-not-had_failed g c =
    let reported = g.E.Write.contents in
    says_by c.args.had_failed c.args.has_failed (reported c.args.errors.now) (reported c.write-stated.new.self)
    c.write-stated.result c.if-has_failed.true c.if-not-had_failed.true c.write-stated.ensures.bytes
