use Rattle.store_looks.proofs.Common.{sym, subst, option_map}
use Rattle.office_types.specs.declared.look.Look.{Look}
use Rattle.store_looks.specs.Seen.{IsTextOn}
use Rattle.store_looks.proofs.Remembering.{look_on}
use Rattle.store_looks.proofs.remembered.Remembered.text_of.Goals as goal

pub returns-in_ok-shown_of-in-Some : goal.returns-in_ok-shown_of-in-Some
returns-in_ok-shown_of-in-Some c t truth =
    subst (λ (l : Look). IsTextOn l (option_map (λ bytes. bytes.items) c.in_ok-shown_of-in-Some.field-0) t)
    (sym c.in-Net.is)
    (look_on _ _ _ c.in-Some.seen.now c.args.self.now t _ c.in-Some.ensures truth
    c.in_ok-shown_of-in-Some.ensures)
