use Rattle.store_net.proofs.Common.{◌≡◌, Some, sym, ap, ◌∙◌, option_map, Sheet}
use Rattle.store_bodies.specs.ReadText.{TextRead}
use Rattle.store_net.proofs.releases.read_body.Goals as goal

same_sheet : (read sheet : Sheet) → Some read ≡ Some sheet → read ≡ sheet
same_sheet read sheet both = cc

pub returns-in-Some : goal.returns-in-Some
returns-in-Some c sheet reads =
    same_sheet c.in-Some.read.sheet sheet
    (sym (ap (option_map (λ (r : TextRead). r.sheet)) c.in-Some.is) ∙ c.in_ok-read.ensures.found sheet reads)
