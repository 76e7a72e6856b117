use Rattle.canoffice_cli.proofs.Common.{◌≡◌, ◌∙◌, ap, length, map, refl, IfOk-weaker, start_and_keyword}
use Rattle.dbc_lint.specs.Listing.{remark_rows}
use Rattle.canoffice_cli.specs.Jobs.Checked.{passed_kind, remark_kind, remarked}
use Rattle.canoffice_cli.proofs.jobs.checking.remarked_check.Goals as goal

pub returns : goal.returns
returns c =
    let passed_is : c.in_ok-passed.passed ≡ passed_kind (map start_and_keyword c.args.reading.now.passed) =
    c.in_ok-passed.ensures ∙ ap (λ ps. passed_kind (map start_and_keyword ps)) c.as_slice.ensures in
    let remarks_are : c.of.result ≡ remark_kind (remark_rows c.args.source.now c.args.names.now c.args.remarks.now) =
    c.of.ensures ∙ ap remark_kind c.in_ok-rows.ensures in
    let status_is : c.remarked-status.result ≡ remarked c.in_ok-verdict.status
    (length (remark_rows c.args.source.now c.args.names.now c.args.remarks.now)) =
    c.remarked-status.ensures
    ∙ ap (remarked c.in_ok-verdict.status) (c.count.ensures ∙ ap length c.in_ok-rows.ensures) in
    IfOk-weaker c.listed.result _ _ (λ report is. (
      c.in_ok-verdict.verdict,
      c.in_ok-verdict.status,
      c.in_ok-verdict.ensures,
      is ∙ rw (c.in_ok-kinds.ensures.items, passed_is, remarks_are, status_is) refl,
    )) c.listed.ensures
