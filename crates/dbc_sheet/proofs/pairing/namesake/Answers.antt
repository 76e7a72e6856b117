use Rattle.dbc_sheet.proofs.Common.{◌≡◌, ◌∙◌, ◌==◌, List, ℕ, ap, sym}
use Rattle.std.proofs.lemmas.Slice.Eq.{bytes_eq-Decides}
use Rattle.std.specs.Option.{option_copied}
use Rattle.dbc_words.specs.Named.{thing_named}
use Rattle.dbc_sheet.specs.Messages.{message_name, number_of}
use Rattle.dbc_sheet.proofs.Namesakes.{namesake}
use Rattle.dbc_sheet.proofs.pairing.namesake.Goals as goal

pub returns-then-eq : goal.returns-then-eq
returns-then-eq c =
    let messages = c.args.sheet.now.messages in
    let found = c.in-Some.found.now in
    let same : found.name ≡ c.args.message.now.name =
    (bytes_eq-Decides found.name c.args.message.now.name).0 (sym c.eq.ensures ∙ c.if-eq.true) in
    sym (ap (λ (n : List ℕ). thing_named message_name messages n) (sym same)
    ∙ namesake (λ m. number_of m == c.number.result) messages c.messages.ensures.together.apart found
    (sym c.find.ensures ∙ ap option_copied c.in-Some.is))
