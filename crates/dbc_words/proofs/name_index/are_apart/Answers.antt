use Rattle.dbc_words.proofs.Common.{◌∙◌, take, sym, ap, arith, bytes_eq, false≢true}
use Rattle.dbc_words.specs.Named.{has_name}
use Rattle.dbc_words.proofs.Gathering.{apart_at_start, apart_more, not_apart}
use Rattle.dbc_words.proofs.name_index.are_apart.Goals as goal

pub loop-seen-init : goal.loop-seen-init
loop-seen-init g c =
    let name = g.T.Named.name_of in
    record { within = omega arith; apart = apart_at_start (λ a b. bytes_eq (name a) (name b)) c.args.things.now }

pub returns-then-one_has_name : goal.returns-then-one_has_name
returns-then-one_has_name g c =
    let name = g.T.Named.name_of in
    let things = c.args.things.now in
    let i = c.loop-seen.seen in (
      λ e. absurd (false≢true e),
      λ h. absurd (not_apart (λ a b. bytes_eq (name a) (name b)) things i c.index-things-seen.result
          c.loop-seen-test.true c.index-things-seen.is
          (ap (has_name name (take i things)) (sym c.name.ensures) ∙ sym c.one_has_name.ensures
          ∙ c.if-one_has_name.true) h),
    )

pub loop-seen-preserved : goal.loop-seen-preserved
loop-seen-preserved g c =
    let name = g.T.Named.name_of in
    let things = c.args.things.now in
    let i = c.loop-seen.seen in
    record {
      within = omega (arith, c.loop-seen-test.true);
      apart = apart_more (λ a b. bytes_eq (name a) (name b)) things i c.index-things-seen.result c.loop-seen-test.true
          c.index-things-seen.is c.loop-seen.invariant.apart
          (ap (has_name name (take i things)) (sym c.name.ensures) ∙ sym c.one_has_name.ensures
          ∙ c.if-one_has_name.false);
    }
