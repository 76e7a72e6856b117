use Rattle.dbc_read.proofs.Common.{◌≡◌, ◌∙◌, ◌++◌, List, [], IsPermutation, ap, subst, sym, unwrap_or, AllByRecursion}
use Rattle.dbc_read.proofs.Common.{Message, Sheet, err_from_is_err_and}
use Rattle.dbc_read.specs.Attaching.{in_signals, messages_of_lines}
use Rattle.dbc_read.specs.Built.{messages_in, nodes_in, tables_in}
use Rattle.dbc_read.specs.Fit.{CanShareSheet, IsFit}
use Rattle.dbc_read.proofs.Building.{lines_built}
use Rattle.dbc_read.proofs.Refused.{unless}
use Rattle.dbc_read.proofs.gathered.Gathered.into_reading.Goals as goal

pub returns-clause-built : goal.returns-clause-built
returns-clause-built c =
    let g = c.args.self in
    let before : c.add_tables.new.sheet
    ≡ record {
      version = unwrap_or g.version [];
      comment = unwrap_or g.comment [];
      nodes = nodes_in g;
      tables =
          tables_in g;
      messages = [];
    }
    = c.in_ok-add_tables.ensures.ok
    ∙ ap (λ (s : Sheet). record s { tables = s.tables ++ tables_in g })
    (c.in_ok-add_nodes.ensures.ok ∙ ap (λ (s : Sheet). record s { nodes = s.nodes ++ nodes_in g })
    c.bare_sheet-sheet.ensures) in
    let rest = c.in_ok-add_lines.ensures.rest in
    let built : messages_of_lines g.messages g.message_comments ≡ messages_in (in_signals g) =
    sym (lines_built g.messages g.message_comments) in
    record {
      is_sheet = c.sheets_are_well_formed.ensures;
      version = ap (λ (s : Sheet). s.version) rest ∙ ap (λ (s : Sheet). s.version) before;
      comment = ap (λ (s : Sheet). s.comment) rest ∙ ap (λ (s : Sheet). s.comment) before;
      nodes = ap (λ (s : Sheet). s.nodes) rest ∙ ap (λ (s : Sheet). s.nodes) before;
      tables = ap (λ (s : Sheet). s.tables) rest ∙ ap (λ (s : Sheet). s.tables) before;
      messages = subst (λ (ms : List Message). IsPermutation ms c.add_lines.new.sheet.messages) built
          (subst (λ (ms : List Message). IsPermutation (ms ++ messages_of_lines g.messages g.message_comments)
          c.add_lines.new.sheet.messages) (ap (λ (s : Sheet). s.messages) before) c.in_ok-add_lines.ensures.all);
    }

pub returns-in_err-add_lines-clause-refused : goal.returns-in_err-add_lines-clause-refused
returns-in_err-add_lines-clause-refused c =
    let g = c.args.self in
    let r = c.from_residual-in_err-add_lines in
    let p = err_from_is_err_and r.result r.ensures.1 in
    let empty : c.add_tables.new.sheet.messages ≡ [] = ap (λ (s : Sheet). s.messages) c.in_ok-add_tables.ensures.ok
    ∙ ap (λ (s : Sheet). s.messages) c.in_ok-add_nodes.ensures.ok
    ∙ ap (λ (s : Sheet). s.messages) c.bare_sheet-sheet.ensures in
    let built : messages_in (in_signals g) ≡ messages_of_lines g.messages g.message_comments =
    lines_built g.messages g.message_comments in
    rw (p.1, p.2) (unless _ _ _ (λ can. record {
      fit = subst (AllByRecursion IsFit) built can.messages;
      together = subst (λ (ms : List Message). CanShareSheet (ms ++ messages_of_lines g.messages g.message_comments))
          (sym empty) (subst CanShareSheet built can.together);
    }) c.in_err-add_lines.ensures.refused)
