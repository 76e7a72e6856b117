use Rattle.std.proofs.Common.{subst, sym}
use Rattle.std.proofs.lemmas.Result.{IfOk-weaker}
use Rattle.office_reasons.specs.Pieces.{IsSentence}
use Rattle.office_reasons.proofs.Texts.{visible_sentence}
use Rattle.office_reasons.proofs.pieces.sentence_of.Goals as goal

pub returns-clause-sentence : goal.returns-clause-sentence
returns-clause-sentence c = IfOk-weaker c.visible_bytes.result _ _
    (λ sentence is. subst IsSentence (sym is) (visible_sentence c.as_bytes.result.now)) c.visible_bytes.ensures
