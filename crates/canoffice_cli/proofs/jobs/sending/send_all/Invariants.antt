use Rattle.canoffice_cli.proofs.Common.{◌≡◌, ◌≤◌, length, IsTrue, vec_capacity, vec_len, AreStill}
use Rattle.canoffice_cli.specs.Answered.{NoneRefused}
use Rattle.canoffice_cli.proofs.Sent.{Answered}
use Rattle.canoffice_cli.proofs.jobs.sending.send_all.Given as goal

-- the requests so far have answers
abbrev pub invariant-loop-request : goal.invariant-loop-request
invariant-loop-request g l =
    let first = g.K.Desks.known l.fn.desks in
    record {
      within : l.request-index ≤ length l.requests;
      len : vec_len l.answers ≡ l.request-index;
      room : length l.requests ≤ vec_capacity l.answers;
      each : length l.answers.items ≡ l.request-index;
      none : IsTrue l.sending.manner.strict → NoneRefused l.answers.items;
      still : AreStill first (g.K.Desks.known l.desks);
      came : Answered first l.sending (g.K.Desks.known l.desks) l.requests l.request-index l.answers.items;
    }
