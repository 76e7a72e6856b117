use Rattle.dbc_advice.proofs.Common.{ℕ, List, ◌++◌, ap, ◌∙◌, arith}
use Rattle.dbc_advice.specs.Citation.{cited_of}
use Rattle.dbc_advice.proofs.PartedMore.{cited_after, other_after}
use Rattle.dbc_advice.proofs.leaving.parted.Goals as goal
use Rattle.dbc_advice.proofs.leaving.parted.Goals.{in-Some+in_ok-line-in-Some+in_ok-extend_from_slice-in-Some}
use Rattle.dbc_advice.proofs.leaving.parted.Goals.{in-None+in_ok-push-in-None}

pub loop-passed-preserved : goal.loop-passed-preserved
loop-passed-preserved c =
    let old = c.loop-passed in
    let new = c.match-missing_at in
    let shown = c.as_slice-passed-items in
    let source = c.args.source in
    let sheet = c.args.reading.now.sheet in
    let passed = c.args.reading.now.passed in
    elim c.match-missing_at.branch [
      | in-Some+in_ok-line-in-Some+in_ok-extend_from_slice-in-Some w ↦
          record {
            reported = rw w.missing-is
                (rw w.others-is (cited_after source.name.now source.text.now sheet passed shown.result.now
                old.passed-index _ (cited_of w.in-Some.citation) old.lines.items new.lines.items old.missing
                old.others.items
                shown.ensures c.loop-passed-test.true (w.in-Some.ensures c.in_ok-names.ensures) old.invariant.reported
                (ap (λ v. v.items) w.lines-is ∙ w.in_ok-extend_from_slice-in-Some.ensures.items
                ∙ ap (λ (x : List ℕ). old.lines.items ++ x)
                (w.deref.ensures.value ∙ w.in_ok-line-in-Some.ensures))));
            few = omega (arith, w.missing-is, old.invariant.few);
          }
      | in-None+in_ok-push-in-None w ↦
          record {
            reported = rw w.missing-is
                (rw w.lines-is (other_after source.name.now source.text.now sheet passed shown.result.now
                old.passed-index _ old.lines.items old.missing old.others.items new.others.items
                shown.ensures c.loop-passed-test.true (w.in-None.ensures c.in_ok-names.ensures) old.invariant.reported
                (ap (λ v. v.items) w.others-is ∙ w.in_ok-push-in-None.ensures.items)));
            few = omega (arith, w.missing-is, old.invariant.few);
          }
    ]
