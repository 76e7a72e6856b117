use Rattle.office_decide.proofs.Common.{sym, subst, IfOk-weaker}
use Rattle.office_decide.specs.Imported.{IsWantedReading}
use Rattle.office_decide.proofs.Decisions.{no_reading}
use Rattle.office_decide.proofs.importing.decide_import_of.Goals as goal

pub returns-in-Some : goal.returns-in-Some
returns-in-Some c = record {
  reading = no_reading;
  read = subst (λ o. IsWantedReading o no_reading) (sym (c.in-Some.ensures.wanted c.args.file.now)) (tt {0});
  decides = λ name book. c.in-Some.ensures.decision c.args.team.now name book no_reading;
}

pub returns-in-None : goal.returns-in-None
returns-in-None c =
    IfOk-weaker c.decide_read.result _ _
    (λ d h. record {
      reading = h.reading;
      read = subst (λ o. IsWantedReading o h.reading) (sym (c.in-None.ensures.wanted c.args.file.now)) h.read;
      decides = h.decides;
    })
    c.decide_read.ensures
