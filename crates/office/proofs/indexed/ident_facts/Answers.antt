use Rattle.office.proofs.Common.{◌∙◌, [], ap, sym, is_some, is_taken}
use Rattle.office_rules.specs.Facts.{NumberFacts, group_facts}
use Rattle.office.specs.Indexed.{live_number}
use Rattle.office.proofs.Indexes.{named}
use Rattle.office.proofs.Looked.{any_found}
use Rattle.office.proofs.indexed.ident_facts.Goals as goal

pub returns : goal.returns
returns c = λ team.
    let net = c.args.net.now in
    let take = c.args.take.now in
    let known = c.contains_key-named.ensures ∙ ap is_some (c.requires.index.names take.message.name)
    ∙ any_found (named take.message.name) live_number net.live in
    let taken = ap (λ (f : NumberFacts). f.taken) c.number_facts.ensures in
    record {
      others = sym (c.number_facts.ensures ∙ (λ i. record (group_facts net []) {
        named = known i;
        want_live = c.is_live_or_held-wanted.ensures.live i;
        want_held = c.is_live_or_held-wanted.ensures.held i;
        taken = sym taken i;
      }));
      taken = λ n inside. ap (is_taken n) (taken ∙ c.numbers.ensures) ∙ c.requires.index.numbers take.form n;
    }
