use Rattle.dbc_lint.proofs.Common.{◌≡◌, ◌∙◌, ℕ, Some, ap, cond, false, subst, sym, true, is_some, is_eq}
use Rattle.std.proofs.Common.{nat_cmp}
use Rattle.dbc_lint.specs.OfSpn.{SpnPlace}
use Rattle.dbc_lint.specs.SpnPlaces.{kept_place}
use Rattle.dbc_lint.specs.declared.spn_places.FirstPlaces.{FirstPlaces}
use Rattle.dbc_lint.proofs.FirstSpns.{grows, stays}
use Rattle.dbc_lint.proofs.spn_places.FirstPlaces.add.Goals as goal

pub returns-then-contains_key : goal.returns-then-contains_key
returns-then-contains_key c = λ ps has.
    let old = c.args.self.now in
    let p : SpnPlace = (c.args.message.now, c.args.signal.now) in
    let there : is_some (kept_place old c.number-number.result) ≡ true =
    sym c.contains_key.ensures ∙ c.if-contains_key.true in
    stays old ps p (subst (λ (k : ℕ). is_some (kept_place old k) ≡ true) c.number-number.ensures.value there) has

pub returns : goal.returns
returns c = λ ps has.
    let old = c.args.self.now in
    let new : FirstPlaces = record { places = c.insert.new.self } in
    let p : SpnPlace = (c.args.message.now, c.args.signal.now) in
    let free : is_some (kept_place old c.number-number.result) ≡ false =
    sym c.contains_key.ensures ∙ c.if-contains_key.false in
    grows old new ps p
    (subst (λ (k : ℕ). is_some (kept_place old k) ≡ false) c.number-number.ensures.value free)
    (λ n. c.in_ok-insert.ensures.updates.0 n
    ∙ ap (λ (k : ℕ). cond (is_eq (nat_cmp k n)) (Some p) (kept_place old n)) c.number-number.ensures.value) has
