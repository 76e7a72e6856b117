use Rattle.canoffice_cli.proofs.Common.{◌≡◌, ◌∙◌, ap, map, refl, IfOk-weaker, start_and_keyword}
use Rattle.canoffice_cli.specs.Jobs.Checked.{passed_kind}
use Rattle.canoffice_cli.proofs.jobs.checking.plain_check.Goals as goal

pub returns : goal.returns
returns c =
    let passed_is : c.in_ok-passed.passed ≡ passed_kind (map start_and_keyword c.args.reading.now.passed) =
    c.in_ok-passed.ensures ∙ ap (λ ps. passed_kind (map start_and_keyword ps)) c.as_slice.ensures in
    IfOk-weaker c.listed.result _ _ (λ report is. (
      c.in_ok-verdict.verdict,
      c.in_ok-verdict.status,
      c.in_ok-verdict.ensures,
      is ∙ rw (c.in_ok-kinds.ensures.items, passed_is) refl,
    )) c.listed.ensures
