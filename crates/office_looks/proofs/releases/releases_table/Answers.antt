use Rattle.office_looks.proofs.Common.{◌≡◌, ◌+◌, ◌<◌, ◌++◌, ◌∷◌, [], length, drop, take, get_or, sym, ap, ◌∙◌}
use Rattle.office_looks.proofs.Common.{append_assoc, drop_more, last_release}
use Rattle.office_looks.specs.Releases.{release_row, rows_after}
use Rattle.office_looks.proofs.LastOf.{last_taken}
use Rattle.office_looks.proofs.releases.releases_table.Goals as goal

pub loop-index-preserved : goal.loop-index-preserved
loop-index-preserved c =
    let sheets = c.as_slice-sheets.result.now in
    let i = c.loop-index.index in
    let s = c.index-sheets-index.result in
    let is : s ≡ get_or sheets i s = c.index-sheets-index.is in
    let within : i < length sheets = c.loop-index-test.true in
    let before = last_release (take i sheets) in
    let row = release_row (i + 1) before s in
    let rows = c.loop-index.rows in
    let rest = drop (i + 1) sheets in
    let here : drop i sheets ≡ s ∷ rest = drop_more sheets i s within ∙ ap (λ x. x ∷ rest) (sym is) in
    let more : c.push_release.new.rows ≡ rows ++ row ∷ [] =
    c.in_ok-push_release.ensures ∙ ap (λ b. rows ++ release_row (i + 1) b s ∷ []) c.last_of-before.ensures in
    c.loop-index.invariant
    ∙ ap (λ v. rows ++ rows_after (i + 1) before v) here
    ∙ sym (append_assoc rows (row ∷ []) (rows_after (i + 1 + 1) s rest))
    ∙ ap (λ v. v ++ rows_after (i + 1 + 1) s rest) (sym more)
    ∙ ap (λ x. c.push_release.new.rows ++ rows_after (i + 1 + 1) x rest) (sym (last_taken sheets i s within is))
