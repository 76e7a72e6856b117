use Rattle.page_numbers.proofs.Common.{◌≡◌, ◌-◌, ◌∙◌, true, List, length, take, drop, ap, sym, subst, find}
use Rattle.page_numbers.proofs.Common.{has_number_in, GrantedBlock}
use Rattle.std.specs.Prelude.{option_map}
use Rattle.std.proofs.lemmas.List.{take_rest}
use Rattle.std.proofs.lemmas.List.Sorted.{IsNonDecreasingBy-drop}
use Rattle.page_numbers.specs.Charts.{is_near}
use Rattle.page_numbers.specs.Ordered.{AreOrdered, high, low}
use Rattle.page_numbers.proofs.Nearby.{after, before, near}
use Rattle.page_numbers.proofs.near.blocks_near.Goals as goal

pub returns : goal.returns
returns c = λ ordered n from until.
    let blocks = c.args.blocks.now in
    let p = is_near c.args.form c.args.first c.args.last in
    let q = has_number_in c.args.form n in
    let so = near c.args.form c.args.first c.args.last n from until in
    let i = c.count_before-start.result in
    let later : List GrantedBlock = take (length blocks - i) (drop i blocks) in
    let whole : later ≡ drop i blocks = take_rest blocks i in
    let still : c.args.is_ordered ≡ true → AreOrdered later = λ is.
    subst AreOrdered (sym whole) (record {
      rising = IsNonDecreasingBy-drop low i blocks (ordered is).rising;
      ending = IsNonDecreasingBy-drop high i blocks (ordered is).ending;
    }) in
    ap (option_map (λ (g : GrantedBlock). g.team))
    (before p q so c.count_up_to-count.result later (c.count_up_to-count.ensures.none still c.args.first)
    ∙ ap (λ v. find q v) whole ∙ after p q so i blocks (c.count_before-start.ensures.none ordered c.args.last))
