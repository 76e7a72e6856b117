use Rattle.std.proofs.Common.{◌∷◌, Some, sym, ap, ◌∙◌, not}
use Rattle.std.proofs.lemmas.Bool.{not-false, not-true}
use Rattle.office_types.specs.Block.{block_form}
use Rattle.office_types.specs.declared.block.BlockForm.{BlockForm}
use Rattle.office_types.specs.declared.refusal.Refusal.TheVariants as no
use Rattle.office_rules.specs.Facts.{blocks_of}
use Rattle.office_rules.specs.Lists.{none_of}
use Rattle.office_rules.specs.Numbers.{name_tests, number_given, want_tests}
use Rattle.office_rules.specs.Outcome.{when}
use Rattle.office_facts.proofs.Refusing.{first-held, first-later, first-passed, first-refused}
use Rattle.office_facts.specs.FactsOf.{number_facts_of}
use Rattle.office_net.specs.FactsOf.{refused_or_full}
use Rattle.office_net.proofs.idents.take_ident_refusal.Goals as goal

pub returns-in-Some-clause-first : goal.returns-in-Some-clause-first
returns-in-Some-clause-first c =
    let f = number_facts_of c.args.facts.now in
    let command = c.args.command.now in
    let blocks = blocks_of f.blocks c.args.team.now (block_form command.form) in
    first-refused (name_tests f command.message)
    (when (none_of blocks) no.NoBlock ∷ want_tests c.args.team.now f command) c.in-Some.refusal
    (sym c.name_refusal.ensures ∙ c.in-Some.is)

pub returns-then-has_block-clause-first : goal.returns-then-has_block-clause-first
returns-then-has_block-clause-first c =
    let f = number_facts_of c.args.facts.now in
    let command = c.args.command.now in
    let blocks = blocks_of f.blocks c.args.team.now (block_form command.form) in
    let later = want_tests c.args.team.now f command in
    let first = refused_or_full c.want_refusal.result (number_given c.args.team.now f command) in
    let some = c.has_block.ensures ∙ ap (λ (form : BlockForm). not (none_of (blocks_of f.blocks c.args.team.now form)))
    c.of_identifiers.ensures in
    first-later (name_tests f command.message) (when (none_of blocks) no.NoBlock ∷ later) first
    (sym c.name_refusal.ensures ∙ c.in-None.is)
    (first-passed (none_of blocks) no.NoBlock later first (not-true (none_of blocks) (sym some ∙ c.if-has_block.true))
    c.want_refusal.ensures.first)

pub returns-else-has_block-clause-first : goal.returns-else-has_block-clause-first
returns-else-has_block-clause-first c =
    let f = number_facts_of c.args.facts.now in
    let command = c.args.command.now in
    let blocks = blocks_of f.blocks c.args.team.now (block_form command.form) in
    let later = want_tests c.args.team.now f command in
    let some = c.has_block.ensures ∙ ap (λ (form : BlockForm). not (none_of (blocks_of f.blocks c.args.team.now form)))
    c.of_identifiers.ensures in
    first-later (name_tests f command.message) (when (none_of blocks) no.NoBlock ∷ later) (Some no.NoBlock)
    (sym c.name_refusal.ensures ∙ c.in-None.is)
    (first-held (none_of blocks) no.NoBlock later (not-false (none_of blocks) (sym some ∙ c.if-has_block.false)))
