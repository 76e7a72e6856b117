use Rattle.bitlayout.proofs.Common.{◌≡◌, ◌↔◌, Option, ap, refl, subst, sym, ◌∙◌}
use Rattle.std.proofs.Common.{IsNone}
use Rattle.bitlayout.specs.declared.clash.Clash.{Clash}
use Rattle.bitlayout.specs.Clash.{first_clash_among, first_clash_of}
use Rattle.bitlayout.specs.Clear.{IsClear}
use Rattle.bitlayout.proofs.Clearance.{clear_law, none_from_clear}
use Rattle.bitlayout.proofs.Naming.{first_if_some}
use Rattle.bitlayout.proofs.clash.first_clash.Goals as goal

pub returns : goal.returns
returns c =
    let clear : IsClear c.args.places.now c.args.length = c.are_in_turn.ensures c.if-are_in_turn.true in
    record {
      clear = (λ _. clear, λ _. refl);
      first = tt;
      computed = sym (none_from_clear c.args.places.now c.args.length clear);
    }

pub returns-2 : goal.returns-2
returns-2 c =
    let places = c.args.places.now in
    let bytes = c.args.length in
    let is : c.first_clash_where.result ≡ first_clash_of places bytes = c.first_clash_where.ensures
    ∙ ap (λ multiplexed. first_clash_among bytes multiplexed places) c.any_multiplexor.ensures in
    record {
      clear = subst (λ (o : Option Clash). IsNone o ↔ IsClear places bytes) (sym is) (clear_law places bytes);
      first = first_if_some places bytes c.first_clash_where.result (sym is);
      computed = is;
    }
