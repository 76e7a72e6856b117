use Rattle.std.proofs.Common.{◌≡◌, ℕ, ◌+◌, List, codes, ap, subst, ◌∙◌}
use Rattle.std.specs.Prelude.{IfOk}
use Rattle.dbc_advice.specs.ReportedLine.{reported_line}
use Rattle.office_script.specs.Words.{words_of}
use Rattle.office_advice.specs.Explained.{position_of_word}
use Rattle.office_advice.specs.Words.{word_of}
use Rattle.office_advice.specs.Sentence.{sentence_of}
use Rattle.office_advice.proofs.explaining.wrong_line.Goals as goal

pub returns : goal.returns
returns c =
    let file = c.args.name.now in
    let sentence : c.deref.result.now ≡ sentence_of c.args.wrong.cause
    (word_of (words_of c.args.line.now) c.args.wrong.word) =
    c.deref.ensures.value ∙ c.in_ok-sentence.ensures
    ∙ ap (λ (w : List ℕ). sentence_of c.args.wrong.cause w) c.word_at-found.ensures.word in
    let P : List ℕ → Type 0 = λ v. IfOk c.reported_line.result (λ reported. reported.items ≡ v) in
    subst P (ap (λ (n : ℕ). reported_line file (record { line = c.args.number; column = n + 1 }) (codes "bad line")
    c.deref.result.now) c.word_at-found.ensures.offset
    ∙ ap (λ (s : List ℕ). reported_line file (position_of_word c.args.number c.args.line.now c.args.wrong.word)
    (codes "bad line") s) sentence) c.reported_line.ensures
