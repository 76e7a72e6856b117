use Rattle.std.proofs.Common.{◌≡◌, ◌+◌, ◌-◌, ◌<◌, List, None, Some, length, take, get_or, sym, ap, ◌∙◌, arith}
use Rattle.std.specs.Prelude.{option_map}
use Rattle.std.specs.Option.{option_copied}
use Rattle.dbc_sheet.specs.Messages.{message_at}
use Rattle.dbc_sheet.specs.declared.message.Message.{Message}
use Rattle.dbc_sheet.specs.declared.sheet.Sheet.{Sheet}
use Rattle.office_seen.specs.Owners.{last_name}
use Rattle.office_seen.proofs.LastNames.{name_in, named_before, named_here}
use Rattle.office_seen.proofs.owners.last_name.Goals as goal

pub returns-in-Some : goal.returns-in-Some
returns-in-Some c =
    let sheets = c.as_slice-sheets.result.now in
    let ident = c.args.ident.now in
    let k = length sheets - 1 - c.loop-index.index in
    let s = c.index-sheets-sheets.result in
    let within : k < length sheets = omega arith in
    let left : length sheets - c.loop-index.index ≡ k + 1 = omega arith in
    let is : s ≡ get_or sheets k s = c.index-sheets-sheets.is in
    let named : name_in ident s ≡ Some c.in-Some.message.now.name =
    ap (λ n. option_map (λ (m : Message). m.name) (message_at s.messages n)) (sym c.to_dbc.ensures.number)
    ∙ ap (option_map (λ (m : Message). m.name)) (sym c.find.ensures ∙ ap option_copied c.in-Some.is) in
    sym (ap (λ (v : List Sheet). last_name v ident) (sym c.as_slice-sheets.ensures.sheets)
    ∙ c.loop-index.invariant
    ∙ ap (λ n. last_name (take n sheets) ident) left
    ∙ named_here sheets k s ident c.in-Some.message.now.name within is named)

pub loop-index-preserved : goal.loop-index-preserved
loop-index-preserved c =
    let sheets = c.as_slice-sheets.result.now in
    let ident = c.args.ident.now in
    let k = length sheets - 1 - c.loop-index.index in
    let s = c.index-sheets-sheets.result in
    let within : k < length sheets = omega arith in
    let left : length sheets - c.loop-index.index ≡ k + 1 = omega arith in
    let next : k ≡ length sheets - (c.loop-index.index + 1) = omega arith in
    let is : s ≡ get_or sheets k s = c.index-sheets-sheets.is in
    let none : name_in ident s ≡ None =
    ap (λ n. option_map (λ (m : Message). m.name) (message_at s.messages n)) (sym c.to_dbc.ensures.number)
    ∙ ap (option_map (λ (m : Message). m.name)) (sym c.find.ensures ∙ ap option_copied c.in_default.is) in
    c.loop-index.invariant
    ∙ ap (λ n. last_name (take n sheets) ident) left
    ∙ named_before sheets k s ident within is none
    ∙ ap (λ n. last_name (take n sheets) ident) next
