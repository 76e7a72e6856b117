use Rattle.std.proofs.Common.{◌≡◌, ◌++◌, drop, map}
use Rattle.office_page.specs.Checking.{keyword_of}
use Rattle.office_page.specs.Names.{text_of}
use Rattle.office_page.proofs.checking.all_keywords.Given as goal

abbrev pub invariant-loop-statement : goal.invariant-loop-statement
invariant-loop-statement l =
    map text_of l.keywords.items ++ map keyword_of (drop l.statement-index l.passed) ≡ map keyword_of l.passed
