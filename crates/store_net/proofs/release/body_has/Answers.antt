use Rattle.store_net.proofs.Common.{◌≡◌, List, Some, sym, ap, ◌∙◌, dbc_number, has_number, Message, Sheet}
use Rattle.store_net.proofs.release.body_has.Goals as goal

same_sheet : (read sheet : Sheet) → Some read ≡ Some sheet → read ≡ sheet
same_sheet read sheet both = cc

pub returns-in-Some : goal.returns-in-Some
returns-in-Some c sheet reads =
    c.has_ident.ensures
    ∙ ap (λ (messages : List Message). has_number messages (dbc_number c.args.ident))
    (c.messages.ensures.messages
    ∙ ap (λ (s : Sheet). s.messages)
    (same_sheet c.in-Some.sheet sheet (sym c.in-Some.is ∙ c.in_ok-sheet.ensures.found sheet reads)))
