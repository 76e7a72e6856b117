use Rattle.std.proofs.Common.{◌≡◌, ℕ, ◌+◌, ◌-◌, ◌≤◌, List, length, take, drop, ap, sym, ◌∙◌, subst, arith}
use Rattle.std.proofs.Math.Seq.{take-length}
use Rattle.std.proofs.lemmas.List.{length-drop}
use Rattle.office_spns.specs.SpnIndex.{AreBelow, spn_at}
use Rattle.office_spns.specs.Spns.{SpnPlace, places}
use Rattle.office_spns.proofs.OfNumber.{between}
use Rattle.office_spns.proofs.spn_index.SpnIndex.places.Goals as goal

pub returns : goal.returns
returns c =
    let n = c.args.number in
    let all : List SpnPlace = c.self.inside.places.items in
    let i = c.count_below-first.result in
    let rest : List SpnPlace = take (length c.deref-2.result.now - i) (drop i c.deref-2.result.now) in
    let same : c.deref.result.now ≡ all = c.deref.ensures.value in
    let again : c.deref-2.result.now ≡ all = c.deref-2.ensures.value in
    let whole : take (length all - i) (drop i all) ≡ drop i all =
    ap (λ k. take k (drop i all)) (sym (length-drop i all)) ∙ take-length (drop i all) in
    let is : rest ≡ drop i all = ap (λ (v : List SpnPlace). take (length v - i) (drop i v)) again ∙ whole in
    let short : i ≤ length all = omega (arith, ap length same) in
    let first : AreBelow n all i =
    subst (λ (v : List SpnPlace). AreBelow n v i) same
    (subst (λ (m : ℕ). AreBelow m c.deref.result.now i) c.from.ensures c.count_below-first.ensures.below) in
    let last : AreBelow (n + 1) rest c.count_below-count.result =
    subst (λ (m : ℕ). AreBelow (m + 1) rest c.count_below-count.result) c.from-2.ensures
    c.count_below-count.ensures.below in
    between spn_at n all rest i c.count_below-count.result short is first last c.count_below-count.ensures.bound
    ∙ c.self.invariant.of_number n ∙ ap (places n) c.self.view_is
