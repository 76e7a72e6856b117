-- What is reported of the live message that a command names.
use Rattle.std.specs.Prelude.{ℕ, List, ◌++◌, codes, decimal}
use Rattle.dbc_sheet.specs.declared.message.Message.{Message}
use Rattle.office_types.specs.declared.state.LiveMessage.{LiveMessage}
use Rattle.office_reasons.specs.Pieces.{ident_text, shown}

abbrev pub not_owner_text : List ℕ → LiveMessage → List ℕ
not_owner_text team m = shown m.message.name ++ (codes " is team " ++ (shown m.owner
    ++ (codes "'s, which alone may change it, and not " ++ shown team)))

-- the last release that has a message of the name, and this message
abbrev pub released_hint : ℕ → Message → List ℕ
released_hint release m = codes "in release " ++ (decimal release ++ (codes " it is "
    ++ (ident_text m.ident ++ codes ", which is held for good")))
