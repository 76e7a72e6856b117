use Rattle.std.proofs.Common.{◌≡◌, ◌++◌, ◌∷◌, [], true, Some, None, sym, ap, ◌∙◌, not}
use Rattle.std.specs.Prelude.{is_none}
use Rattle.std.proofs.lemmas.Bool.{not-false, not-true}
use Rattle.office_types.specs.declared.block.BlockForm.TheVariants.{Pgn}
use Rattle.office_types.specs.declared.refusal.Refusal.TheVariants as no
use Rattle.office_rules.specs.Facts.{blocks_of, is_j1939}
use Rattle.office_rules.specs.Lists.{none_of}
use Rattle.office_rules.specs.Numbers.{group_given, name_tests}
use Rattle.office_rules.specs.Outcome.{when}
use Rattle.office_facts.proofs.Refusing.{first-held, first-later, first-passed, first-refused}
use Rattle.office_facts.specs.FactsOf.{number_facts_of}
use Rattle.office_net.specs.FactsOf.{refused_or_full}
use Rattle.office_net.proofs.Full.{first-full}
use Rattle.office_net.proofs.groups.take_pgn_refusal.Goals as goal

pub returns-in-Some : goal.returns-in-Some
returns-in-Some c =
    let f = number_facts_of c.args.facts.now in
    let command = c.args.command.now in
    let blocks = blocks_of f.blocks c.args.team.now Pgn in
    let last = when (is_none (group_given c.args.team.now f command)) no.BlockFull ∷ [] in
    let tests = name_tests f command.message ++ when (none_of blocks) no.NoBlock ∷ last in
    let kind : is_j1939 f.kind ≡ true = sym c.is_j1939.ensures ∙ c.if-not-is_j1939.false in
    first-passed (not (is_j1939 f.kind)) no.NotJ1939 tests (Some c.in-Some.refusal) (ap not kind)
    (first-refused (name_tests f command.message) (when (none_of blocks) no.NoBlock ∷ last) c.in-Some.refusal
    (sym c.name_refusal.ensures ∙ c.in-Some.is))

pub returns-then-has_block : goal.returns-then-has_block
returns-then-has_block c =
    let f = number_facts_of c.args.facts.now in
    let command = c.args.command.now in
    let blocks = blocks_of f.blocks c.args.team.now Pgn in
    let given = group_given c.args.team.now f command in
    let last = when (is_none given) no.BlockFull ∷ [] in
    let tests = name_tests f command.message ++ when (none_of blocks) no.NoBlock ∷ last in
    let kind : is_j1939 f.kind ≡ true = sym c.is_j1939.ensures ∙ c.if-not-is_j1939.false in
    first-passed (not (is_j1939 f.kind)) no.NotJ1939 tests (refused_or_full None given) (ap not kind)
    (first-later (name_tests f command.message) (when (none_of blocks) no.NoBlock ∷ last) (refused_or_full None given)
    (sym c.name_refusal.ensures ∙ c.in-None.is)
    (first-passed (none_of blocks) no.NoBlock last (refused_or_full None given)
    (not-true (none_of blocks) (sym c.has_block.ensures ∙ c.if-has_block.true)) (first-full given)))

pub returns-else-has_block : goal.returns-else-has_block
returns-else-has_block c =
    let f = number_facts_of c.args.facts.now in
    let command = c.args.command.now in
    let blocks = blocks_of f.blocks c.args.team.now Pgn in
    let last = when (is_none (group_given c.args.team.now f command)) no.BlockFull ∷ [] in
    let tests = name_tests f command.message ++ when (none_of blocks) no.NoBlock ∷ last in
    let kind : is_j1939 f.kind ≡ true = sym c.is_j1939.ensures ∙ c.if-not-is_j1939.false in
    first-passed (not (is_j1939 f.kind)) no.NotJ1939 tests (Some no.NoBlock) (ap not kind)
    (first-later (name_tests f command.message) (when (none_of blocks) no.NoBlock ∷ last) (Some no.NoBlock)
    (sym c.name_refusal.ensures ∙ c.in-None.is)
    (first-held (none_of blocks) no.NoBlock last
    (not-false (none_of blocks) (sym c.has_block.ensures ∙ c.if-has_block.false))))
