use Rattle.dbc_words.proofs.Common.{◌∙◌, ◌||◌, not, take, sym, ap, bytes_eq}
use Rattle.dbc_words.specs.Named.{has_name, holds_name}
use Rattle.dbc_words.proofs.Gathering.{apart_at_start, apart_more, next_taken, not_apart}
use Rattle.dbc_words.proofs.NameSets.{is_new}
use Rattle.dbc_words.proofs.Rosters.{any_and_last}
use Rattle.dbc_words.proofs.name_index.names_apart.Goals as goal

pub loop-thing-init : goal.loop-thing-init
loop-thing-init g c =
    let name = g.T.Named.name_of in
    record { set = c.new-names.ensures; apart = apart_at_start (λ a b. bytes_eq (name a) (name b)) c.args.things.now }

pub returns-then-not-branch : goal.returns-then-not-branch
returns-then-not-branch g c =
    let name = g.T.Named.name_of in
    let things = c.args.things.now in
    let i = c.loop-thing.thing-index in
    let x = c.thing-item.result in
    not_apart (λ a b. bytes_eq (name a) (name b)) things i x c.loop-thing-test.true c.thing-item.is
    (is_new name (take i things) c.loop-thing.names (name x) c.in_ok-duplicate.field-0 c.in_ok-insert.field-0
    c.loop-thing.invariant.set
    (c.in_ok-duplicate.ensures ∙ c.name.ensures) c.in_ok-insert.ensures.new ∙ ap not c.if-not-branch.true)

pub loop-thing-preserved : goal.loop-thing-preserved
loop-thing-preserved g c =
    let name = g.T.Named.name_of in
    let things = c.args.things.now in
    let i = c.loop-thing.thing-index in
    let x = c.thing-item.result in
    record {
      set = λ n.
          c.in_ok-insert.ensures.ok n
          ∙ ap (λ m. bytes_eq m n || holds_name c.loop-thing.names n) (c.in_ok-duplicate.ensures ∙ c.name.ensures)
          ∙ ap (λ b. bytes_eq (name x) n || b) (c.loop-thing.invariant.set n)
          ∙ sym (any_and_last (λ a. bytes_eq (name a) n) (take i things) x)
          ∙ sym (ap (λ ts. has_name name ts n)
          (next_taken (λ a b. bytes_eq (name a) (name b)) things i x c.loop-thing-test.true c.thing-item.is));
      apart = apart_more (λ a b. bytes_eq (name a) (name b)) things i x c.loop-thing-test.true c.thing-item.is
          c.loop-thing.invariant.apart
          (is_new name (take i things) c.loop-thing.names (name x) c.in_ok-duplicate.field-0 c.in_ok-insert.field-0
          c.loop-thing.invariant.set
          (c.in_ok-duplicate.ensures ∙ c.name.ensures) c.in_ok-insert.ensures.new ∙ ap not c.if-not-branch.false);
    }
