-- Networks of rows, as an excerpt reads them: the head, the blocks, the held identifiers and the live messages.
use Rattle.std.specs.Prelude.{◌≡◌, ℕ, false, List, Option, Some, None}
use Rattle.office_facts.specs.Excerpt.{AreFacts}
use Rattle.office_facts.specs.FactsOf.{facts_in}
use Rattle.office_facts.specs.Scope.{Scope}
use Rattle.office_facts.specs.declared.excerpt.Excerpt.{Excerpt}
use Rattle.office_facts.specs.declared.excerpt.NumberExcerpt.{NumberExcerpt}
use Rattle.office_types.specs.declared.state.Net.{Net}
use Rattle.office_rules.specs.Facts.{is_full, is_named}
use Rattle.store_tables.specs.Tables.{Tables}
use Rattle.store_rows.specs.Live.{AreLiveRows, live_rows}
use Rattle.store_net.specs.Parts.{HasBlocks, HasHead, HasHeld}

pub record ArePartsIn (name : List ℕ) (t : Tables) (net : Net) : Type 0 where
  pub head : HasHead name t (Some net.head)
  pub blocks : HasBlocks name t net.blocks
  pub held : HasHeld name t net.held
  pub live : AreLiveRows name (live_rows name t) net.live

abbrev pub IsReadIn : List ℕ → Tables → Option Net → Type 0
IsReadIn name t None = HasHead name t None
IsReadIn name t (Some net) = ArePartsIn name t net

-- something is read where there is the network, and this is so of both
abbrev pub MatchBoth : {X : Type 0} → (Net → X → Type 0) → Option Net → Option X → Type 0
MatchBoth P None None = Unit {0}
MatchBoth P None (Some x) = ⊥
MatchBoth P (Some net) None = ⊥
MatchBoth P (Some net) (Some x) = P net x

-- an excerpt of this scope is read where there is the network, and the network has it for the team
abbrev pub IsExcerptIn : List ℕ → Scope → Option Net → Option Excerpt → Type 0
IsExcerptIn team scope net found = MatchBoth (λ n e. AreFacts team n scope (facts_in e)) net found

-- the excerpt is the network's but for identifiers, of which none is wanted: whether a live message has this name, and
-- whether there are as many as there may be
pub record HasNameAndRoom (message : List ℕ) (net : Net) (e : NumberExcerpt) : Type 0 where
  pub head : e.head ≡ net.head
  pub blocks : e.blocks ≡ net.blocks
  pub named : e.named ≡ is_named net message
  pub full : e.full ≡ is_full net
  pub want_live : e.want_live ≡ false
  pub want_held : e.want_held ≡ false
