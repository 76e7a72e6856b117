use Rattle.std.proofs.lemmas.Result.{IfOk-weaker}
use Rattle.office_page.proofs.sheet_page.file_page.Goals as goal

pub returns : goal.returns
returns c =
    IfOk-weaker c.sheet_page.result _ _ (λ page shown. record {
      is = record {
        checked = c.in_ok-checked.checked;
        is_checked = c.in_ok-checked.ensures;
        shown = shown;
      };
    }) c.sheet_page.ensures
