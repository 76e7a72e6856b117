use Rattle.std.proofs.Common.{◌≡◌, ◌++◌, drop, map}
use Rattle.dbc_advice.specs.Clashes.{bytes_of}
use Rattle.office_page.specs.Names.{text_of}
use Rattle.office_page.proofs.checking.copied.Given as goal

abbrev pub invariant-loop-text : goal.invariant-loop-text
invariant-loop-text l =
    map bytes_of l.copies.items ++ map text_of (drop l.text-index l.texts) ≡ map text_of l.texts
