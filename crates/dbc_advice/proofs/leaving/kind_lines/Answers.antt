use Rattle.dbc_advice.proofs.Common.{◌++◌, ℕ, List, sym, ap, ◌∙◌}
use Rattle.dbc_advice.specs.LeftOut.{has_keyword}
use Rattle.dbc_advice.proofs.PassedKinds.{keywords_added, keywords_kept, line_added, line_kept}
use Rattle.dbc_advice.proofs.leaving.kind_lines.Goals as goal
use Rattle.dbc_advice.proofs.leaving.kind_lines.Goals.{then-not-has_keyword+in_ok-line+in_ok-extend_from_slice+in_ok-push}
use Rattle.dbc_advice.proofs.leaving.kind_lines.Goals.{else-not-has_keyword}

pub loop-one-preserved : goal.loop-one-preserved
loop-one-preserved c =
    let old = c.loop-one in
    let new = c.if-not-has_keyword in
    let source = c.args.source in
    let passed = c.args.passed.now in
    elim c.if-not-has_keyword.branch [
      | then-not-has_keyword+in_ok-line+in_ok-extend_from_slice+in_ok-push w ↦
          record {
            lines = line_added source.name.now source.text.now old.firsts.items passed old.one-index _ old.lines.items
                w.in_ok-line.line.items new.lines.items c.loop-one-test.true old.invariant.come
                (ap (has_keyword _) (sym c.deref.ensures.value) ∙ sym c.has_keyword.ensures ∙ w.if-not-has_keyword.true)
                w.in_ok-line.ensures
                (ap (λ v. v.items) w.lines-is ∙ w.in_ok-extend_from_slice.ensures.items
                ∙ ap (λ (x : List ℕ). old.lines.items ++ x) w.deref-then-not-has_keyword.ensures.value)
                old.invariant.lines;
            come = keywords_added old.firsts.items new.firsts.items passed old.one-index _ c.loop-one-test.true
                old.invariant.come (ap (λ v. v.items) w.firsts-is ∙ w.in_ok-push.ensures.items);
          }
      | else-not-has_keyword w ↦
          record {
            lines = rw w.lines-is (line_kept source.name.now source.text.now old.firsts.items passed old.one-index _
                old.lines.items c.loop-one-test.true old.invariant.come
                (ap (has_keyword _) (sym c.deref.ensures.value) ∙ sym c.has_keyword.ensures
                ∙ w.if-not-has_keyword.false) old.invariant.lines);
            come = rw w.firsts-is (keywords_kept old.firsts.items passed old.one-index _ c.loop-one-test.true
                old.invariant.come
                (ap (has_keyword _) (sym c.deref.ensures.value) ∙ sym c.has_keyword.ensures
                ∙ w.if-not-has_keyword.false));
          }
    ]
