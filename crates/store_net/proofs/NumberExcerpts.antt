-- An excerpt with identifiers is the network's for a command that gives out a number.
use Rattle.store_net.proofs.Common.{◌≡◌, ◌∙◌, ℕ, ◌+◌, Bool, List, ◌++◌, sym, ap, subst, AllByRecursion, filter_map}
use Rattle.store_net.proofs.Common.{IsIdentifier, IdentForm, EXTENDED_FLAG, GREATEST_EXTENDED, Ident, Block, Net}
use Rattle.store_net.proofs.Common.{blocks_of, group_of, is_wanted, number_in, AgreeInside, NumberExcerpt}
use Rattle.office_types.specs.Block.{block_form}
use Rattle.office_types.specs.declared.block.BlockForm.TheVariants.{Pgn}
use Rattle.office_types.specs.declared.command.TakeIdent.{TakeIdent}
use Rattle.office_types.specs.declared.command.TakePgn.{TakePgn}
use Rattle.office_rules.specs.Facts.{is_held, is_live, taken_groups, taken_numbers}
use Rattle.office_facts.specs.By.{AreGroupFacts, AreIdentFacts}
use Rattle.office_facts.specs.FactsOf.{numbers_in}
use Rattle.store_net.specs.Excerpts.{HasNameAndRoom}
use Rattle.store_net.specs.Numbers.{idents_between, idents_inside, live_idents}
use Rattle.store_net.proofs.Inside.{groups_inside, numbers_inside}

-- numbers that were read of these identifiers
pub read_inside : (team : List ℕ) (net : Net) (form : IdentForm) (own : List Block) (live held : List Ident)
    (numbers : List ℕ) → own ≡ blocks_of net.blocks team (block_form form)
    → live ≡ idents_inside form own (live_idents net.live) → held ≡ idents_inside form own net.held
    → numbers ≡ filter_map (number_in form) (live ++ held)
    → AllByRecursion IsIdentifier (live_idents net.live) → AllByRecursion IsIdentifier net.held
    → AgreeInside (blocks_of net.blocks team (block_form form)) numbers (taken_numbers net form)
read_inside team net form own live held numbers own_is live_is held_is are are_live are_held =
    let read =
    are ∙ ap (λ (l : List Ident). filter_map (number_in form) (l ++ held)) live_is
    ∙ ap (λ (l : List Ident). filter_map (number_in form) (idents_inside form own (live_idents net.live) ++ l))
    held_is in
    subst (λ (b : List Block). AgreeInside b numbers (taken_numbers net form)) own_is
    (subst (λ (l : List ℕ). AgreeInside own l (taken_numbers net form)) (sym read)
    (numbers_inside form own (live_idents net.live) net.held are_live are_held))

pub groups_read : (team : List ℕ) (net : Net) (live held : List Ident) (groups : List ℕ)
    → live ≡ idents_between EXTENDED_FLAG (EXTENDED_FLAG + GREATEST_EXTENDED) (live_idents net.live)
    → held ≡ idents_between EXTENDED_FLAG (EXTENDED_FLAG + GREATEST_EXTENDED) net.held
    → groups ≡ filter_map group_of (live ++ held)
    → AllByRecursion IsIdentifier (live_idents net.live) → AllByRecursion IsIdentifier net.held
    → AgreeInside (blocks_of net.blocks team Pgn) groups (taken_groups net)
groups_read team net live held groups live_is held_is are are_live are_held =
    let read =
    are ∙ ap (λ (l : List Ident). filter_map group_of (l ++ held)) live_is
    ∙ ap (λ (l : List Ident). filter_map group_of
    (idents_between EXTENDED_FLAG (EXTENDED_FLAG + GREATEST_EXTENDED) (live_idents net.live) ++ l)) held_is in
    subst (λ (l : List ℕ). AgreeInside (blocks_of net.blocks team Pgn) l (taken_groups net)) (sym read)
    (groups_inside (blocks_of net.blocks team Pgn) (live_idents net.live) net.held are_live are_held)

-- so what was read for either command is the network's

pub of_ident : (team : List ℕ) (net : Net) (c : TakeIdent) (e : NumberExcerpt) (live held : Bool) (numbers : List ℕ)
    → HasNameAndRoom c.message.name net e
    → live ≡ is_wanted (is_live net) c.form c.want → held ≡ is_wanted (is_held net) c.form c.want
    → AgreeInside (blocks_of net.blocks team (block_form c.form)) numbers (taken_numbers net c.form)
    → AreIdentFacts team net c (numbers_in (record e { want_live = live; want_held = held; taken = numbers }))
of_ident team net c e live held numbers has live_is held_is agree = record {
  others = λ i. record {
    kind = (sym has.head i).kind;
    phase = (sym has.head i).phase;
    nodes = (sym has.head i).frame.nodes;
    blocks = sym has.blocks i;
    named = sym has.named i;
    full = sym has.full i;
    want_live = sym live_is i;
    want_held = sym held_is i;
    taken = numbers;
  };
  taken = agree;
}

pub of_group : (team : List ℕ) (net : Net) (c : TakePgn) (e : NumberExcerpt) (groups : List ℕ)
    → HasNameAndRoom c.message.name net e
    → AgreeInside (blocks_of net.blocks team Pgn) groups (taken_groups net)
    → AreGroupFacts team net c (numbers_in (record e { taken = groups }))
of_group team net c e groups has agree = record {
  others = λ i. record {
    kind = (sym has.head i).kind;
    phase = (sym has.head i).phase;
    nodes = (sym has.head i).frame.nodes;
    blocks = sym has.blocks i;
    named = sym has.named i;
    full = sym has.full i;
    want_live = sym has.want_live i;
    want_held = sym has.want_held i;
    taken = groups;
  };
  taken = agree;
}
