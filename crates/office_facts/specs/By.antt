-- The outcome of a command that gives out a number, by facts of its network.
use Rattle.std.specs.Prelude.{◌≡◌, ℕ, true, false, List, ◌∷◌}
use Rattle.can_id.specs.Ident.{ident_of}
use Rattle.office_types.specs.Block.{block_form}
use Rattle.office_types.specs.Free.{is_taken}
use Rattle.office_types.specs.declared.block.Block.{Block}
use Rattle.office_types.specs.declared.block.BlockForm.TheVariants.{Pgn}
use Rattle.office_types.specs.declared.command.TakeIdent.{TakeIdent}
use Rattle.office_types.specs.declared.command.TakePgn.{TakePgn}
use Rattle.office_types.specs.declared.refusal.Refusal.TheVariants as no
use Rattle.office_types.specs.declared.reply.Reply.TheVariants.{Number}
use Rattle.office_types.specs.declared.state.Net.{Net}
use Rattle.office_rules.specs.Facts.{NumberFacts, blocks_of, group_facts, ident_facts, lies_in}
use Rattle.office_rules.specs.Numbers.{group_given, ident_with, new_message, number_given, take_ident_tests}
use Rattle.office_rules.specs.Numbers.{take_pgn_tests, with_message}
use Rattle.office_rules.specs.Outcome.{Outcome, Changing, given_or, no_entries, unless, when}

-- the command on the network, where these are the facts
abbrev pub take_ident_by : List ℕ → NumberFacts → Net → TakeIdent → Outcome
take_ident_by team facts net c =
    unless (when false no.NoNet ∷ take_ident_tests team facts c)
    (given_or no.BlockFull (number_given team facts c) (λ number.
    Changing (Number number) (with_message net (new_message team c.message (ident_of c.form number))) no_entries))

abbrev pub take_pgn_by : List ℕ → NumberFacts → Net → TakePgn → Outcome
take_pgn_by team facts net c =
    unless (when false no.NoNet ∷ take_pgn_tests team facts c)
    (given_or no.BlockFull (group_given team facts c) (λ pgn.
    Changing (Number pgn) (with_message net (new_message team c.message (ident_with c pgn))) no_entries))

-- the two lists have the same numbers of the blocks
abbrev pub AgreeInside : List Block → List ℕ → List ℕ → Type 0
AgreeInside blocks a b = (n : ℕ) → lies_in n blocks ≡ true → is_taken n a ≡ is_taken n b

-- The facts are those of the network for the command; of the taken numbers only those of the team's blocks count.
pub record AreIdentFacts (team : List ℕ) (net : Net) (c : TakeIdent) (facts : NumberFacts) : Type 0 where
  pub others : record (ident_facts net c.message.name c.form c.want) { taken = facts.taken } ≡ facts
  pub taken : AgreeInside (blocks_of net.blocks team (block_form c.form)) facts.taken
      (ident_facts net c.message.name c.form c.want).taken

pub record AreGroupFacts (team : List ℕ) (net : Net) (c : TakePgn) (facts : NumberFacts) : Type 0 where
  pub others : record (group_facts net c.message.name) { taken = facts.taken } ≡ facts
  pub taken : AgreeInside (blocks_of net.blocks team Pgn) facts.taken (group_facts net c.message.name).taken
