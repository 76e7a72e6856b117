use Rattle.canoffice_cli.proofs.Common.{ℕ, List, inl, subst}
use Rattle.office_page.specs.Page.{IsFilePage}
use Rattle.canoffice_cli.proofs.jobs.paging.page_of_text.Goals as goal

pub returns-in_ok-output-in-Ok : goal.returns-in_ok-output-in-Ok
returns-in_ok-output-in-Ok c =
    let reading = c.in-Ok.reading in
    let text = c.in_ok-output-in-Ok.output.items in
    inl (record {
      reading = reading;
      reads = rw c.in-Ok.is at c.in_ok-reading.ensures.reads;
      page = text;
      is = subst (λ (name : List ℕ). IsFilePage name c.args.source.now reading text) c.page_name.ensures
          c.in_ok-output-in-Ok.ensures;
      printed = c.of_output.ensures;
    })
