use Rattle.dbc_sheet.proofs.Common.{◌≡◌, ◌==◌, ◌∙◌, Some, None, ap, refl, is_some}
use Rattle.std.specs.Option.{option_copied}
use Rattle.dbc_sheet.specs.Messages.{number_of}
use Rattle.dbc_sheet.proofs.Found.{found_if_any}
use Rattle.dbc_sheet.proofs.pairing.has_number.Goals as goal

pub returns : goal.returns
returns c =
    c.is_some.ensures
    ∙ elim c.find.result as (λ o. is_some o ≡ is_some (option_copied o)) [ None ↦ refl | Some m ↦ refl ]
    ∙ ap is_some c.find.ensures
    ∙ found_if_any (λ m. number_of m == c.args.number) c.args.sheet.now.messages
