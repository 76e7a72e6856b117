use Rattle.dbc_read.proofs.Common.{◌++◌, IsPermutation, subst, IsPermutation-append_right, IsPermutation-trans}
use Rattle.dbc_read.proofs.Common.{err_from_is_err_and}
use Rattle.dbc_read.specs.Attaching.{messages_of_lines}
use Rattle.dbc_read.proofs.Refused.{unless}
use Rattle.dbc_read.proofs.SheetsFit.{addable_in_any_order}
use Rattle.dbc_read.proofs.sheets.add_lines.Goals as goal

pub returns-clause-all : goal.returns-clause-all
returns-clause-all c =
    let old = c.args.sheet.now.messages in
    let sorted = messages_of_lines c.in_ok-lines.lines.items c.in_ok-lines.comments in
    let same : IsPermutation (messages_of_lines c.args.lines c.args.comments) sorted =
    subst (λ l. IsPermutation (messages_of_lines l c.args.comments) sorted) c.into_vec.ensures
    c.in_ok-lines.ensures in
    IsPermutation-trans _ (old ++ sorted) _ (IsPermutation-append_right old _ sorted same) c.in_ok-add_each.ensures.all

pub returns-in_err-add_each-clause-refused : goal.returns-in_err-add_each-clause-refused
returns-in_err-add_each-clause-refused c =
    let r = c.from_residual-in_err-add_each in
    let p = err_from_is_err_and r.result r.ensures.1 in
    let old = c.args.sheet.now.messages in
    let sorted = messages_of_lines c.in_ok-lines.lines.items c.in_ok-lines.comments in
    let same : IsPermutation (messages_of_lines c.args.lines c.args.comments) sorted =
    subst (λ l. IsPermutation (messages_of_lines l c.args.comments) sorted) c.into_vec.ensures
    c.in_ok-lines.ensures in
    rw (p.1, p.2) (unless _ _ _ (addable_in_any_order old _ sorted same) c.in_err-add_each.ensures.refused)
