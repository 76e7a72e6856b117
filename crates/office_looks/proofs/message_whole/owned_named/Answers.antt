use Rattle.office_looks.proofs.Common.{ℕ, List, Message}
use Rattle.std.proofs.Common.{rules}
use Rattle.std.specs.Str.{bytes_eq}
use Rattle.std.proofs.lemmas.Iterator.{YieldsList-from_slice, YieldsList-from_zip}
use Rattle.std.proofs.lemmas.Iterator.Search.{find_from_yields_List}
use borrow.Author.Tests.{tests}
use Rattle.office_looks.proofs.message_whole.owned_named.Goals as goal

pub returns : goal.returns
returns c =
    find_from_yields_List {s = c.zip.result} (λ (p : Message × List ℕ). bytes_eq p.0.name c.args.name.now)
    c.find.new.self _ c.find.result c.find.ensures.ran
    (YieldsList-from_zip (YieldsList-from_slice c.args.view.now.sheet.messages cc)
    (YieldsList-from_slice c.args.view.now.owners cc)) (λ x b q k. search (rules, tests))
