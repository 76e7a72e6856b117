-- Of the taken numbers only those of the team's blocks count.
use Rattle.std.proofs.Common.{◌≡◌, ◌∙◌, ℕ, false, not, List, [], ◌∷◌, ◌++◌, Option, Some, None, refl, sym, ap}
use Rattle.std.specs.Prelude.{◌&&◌, is_none}
use Rattle.office_types.specs.Block.{block_form}
use Rattle.office_types.specs.Command.{group_form}
use Rattle.office_types.specs.Free.{has_form, least_free, number_form}
use Rattle.office_types.specs.declared.block.BlockForm.TheVariants.{Pgn}
use Rattle.office_types.specs.declared.command.TakeIdent.{TakeIdent}
use Rattle.office_types.specs.declared.command.TakePgn.{TakePgn}
use Rattle.office_types.specs.declared.refusal.Refusal.TheVariants as no
use Rattle.office_types.specs.declared.reply.Reply.TheVariants.{Number}
use Rattle.office_types.specs.declared.state.Net.{Net}
use Rattle.can_id.specs.Ident.{ident_of}
use Rattle.office_rules.specs.Facts.{NumberFacts, blocks_of, group_facts, ident_facts, is_j1939, lies_in}
use Rattle.office_rules.specs.Lists.{none_of}
use Rattle.office_rules.specs.Numbers.{ident_with, name_tests, new_message, take_ident, take_pgn, with_message}
use Rattle.office_rules.specs.Outcome.{Outcome, Changing, given_or, no_entries, unless, when}
use Rattle.office_law.specs.Refusals.{LeastInsideBlocks}
use Rattle.office_facts.specs.By.{AreGroupFacts, AreIdentFacts, take_ident_by, take_pgn_by}

-- by the facts of the network the outcome is that of the command
own_ident : (team : List ℕ) (net : Net) (c : TakeIdent)
    → take_ident_by team (ident_facts net c.message.name c.form c.want) net c ≡ take_ident team (Some net) c
own_ident team net c = refl

own_group : (team : List ℕ) (net : Net) (c : TakePgn) → take_pgn_by team (group_facts net c.message.name) net c
    ≡ take_pgn team (Some net) c
own_group team net c = refl

module _ (team : List ℕ) (f : NumberFacts) (net : Net) where
  -- the outcome of `take_ident` where this is the least free number
  abbrev ident_with_least : TakeIdent → Option ℕ → Outcome
  ident_with_least c least =
      let given : Option ℕ = elim c.want [ Some n ↦ Some n | None ↦ least ] in
      unless (
      when false no.NoNet
      ∷ name_tests f c.message
      ++ when (none_of (blocks_of f.blocks team (block_form c.form))) no.NoBlock
      ∷ elim c.want [
        | Some n ↦
            when (not (has_form (number_form c.form) n && lies_in n (blocks_of f.blocks team (block_form c.form))))
            no.OutsideBlock
            ∷ when f.want_live no.IdentTaken ∷ when f.want_held no.Held ∷ []
        | None ↦ when (is_none given) no.BlockFull ∷ []
      ]
      )
      (given_or no.BlockFull given
      (λ number. Changing (Number number) (with_message net (new_message team c.message (ident_of c.form number)))
      no_entries))

  ident_least : (c : TakeIdent)
      → take_ident_by team f net c
      ≡ ident_with_least c (least_free f.taken (blocks_of f.blocks team (block_form c.form)) (number_form c.form))
  ident_least c = refl

  abbrev group_with_least : TakePgn → Option ℕ → Outcome
  group_with_least c least =
      unless (
      when false no.NoNet
      ∷ when (not (is_j1939 f.kind)) no.NotJ1939
      ∷ name_tests f c.message
      ++ when (none_of (blocks_of f.blocks team Pgn)) no.NoBlock
      ∷ when (is_none least) no.BlockFull ∷ []
      )
      (given_or no.BlockFull least
      (λ pgn. Changing (Number pgn) (with_message net (new_message team c.message (ident_with c pgn))) no_entries))

  group_least : (c : TakePgn)
      → take_pgn_by team f net c
      ≡ group_with_least c (least_free f.taken (blocks_of f.blocks team Pgn) (group_form c.pdu))
  group_least c = refl

-- facts that agree with the network's inside the team's blocks are as good
pub ident_inside : LeastInsideBlocks → (team : List ℕ) (net : Net) (c : TakeIdent) (facts : NumberFacts)
    → AreIdentFacts team net c facts → take_ident_by team facts net c ≡ take_ident team (Some net) c
ident_inside inside team net c facts h =
    let own = ident_facts net c.message.name c.form c.want in
    ap (λ f. take_ident_by team f net c) (sym h.others)
    ∙ ap (ident_with_least team own net c)
    (inside facts.taken own.taken (blocks_of net.blocks team (block_form c.form)) (number_form c.form) h.taken)

pub group_inside : LeastInsideBlocks → (team : List ℕ) (net : Net) (c : TakePgn) (facts : NumberFacts)
    → AreGroupFacts team net c facts → take_pgn_by team facts net c ≡ take_pgn team (Some net) c
group_inside inside team net c facts h =
    let own = group_facts net c.message.name in
    ap (λ f. take_pgn_by team f net c) (sym h.others)
    ∙ ap (group_with_least team own net c)
    (inside facts.taken own.taken (blocks_of net.blocks team Pgn) (group_form c.pdu) h.taken)
