use Rattle.std.proofs.Common.{◌≡◌, ◌++◌, drop, map}
use Rattle.dbc_advice.specs.Clashes.{bytes_of}
use Rattle.office_page.specs.Checking.{remark_text}
use Rattle.office_page.proofs.checking.remark_texts.Given as goal

abbrev pub invariant-loop-remark : goal.invariant-loop-remark
invariant-loop-remark l =
    map bytes_of l.texts.items ++ map remark_text (drop l.remark-index l.remarks) ≡ map remark_text l.remarks
