-- A network that is read part by part is the one that the tables have.
use Rattle.store_net.proofs.Common.{◌≡◌, ℕ, List, [], length, Option, Some, None, refl, sym, ap, subst, ◌∙◌, option_map}
use Rattle.store_net.proofs.Common.{Database, Ident, Sheet, GrantedBlock, Head, LiveMessage, Net, with_releases, Tables}
use Rattle.store_net.proofs.Common.{tables_of, net_row, net_order, AreListed, HasRows, IsNetAt, RestRows, IsNetRow}
use Rattle.store_net.proofs.Common.{IsRowOf, none_listed}
use Rattle.store_net.specs.Counted.{HasAsMany}
use Rattle.store_net.specs.NetParts.{outline}
use Rattle.store_net.specs.Parts.{HasApprovals, HasBlocks, HasHead, HasHeld, HasReleases}

-- what was read of a database was read of one that is the same
pub read_before : {A : Type 0} (Has : Tables → A → Type 0) (it : A) (after before : Database) → after ≡ before
    → ((other : A) → Has (tables_of after.trees) other → it ≡ other) → (other : A) → Has (tables_of before.trees) other
    → it ≡ other
read_before {A} Has it after before same one =
    subst (λ (d : Database). (other : A) → Has (tables_of d.trees) other → it ≡ other) same one

abbrev pub head_in : Option Net → Option Head
head_in net = option_map (λ (n : Net). n.head) net

pub its_head : (name : List ℕ) (t : Tables) (net : Option Net) → IsNetAt name t net → HasHead name t (head_in net)
its_head name t None at = subst (λ (r : RestRows). AreListed net_order (IsRowOf net_row (IsNetRow name)) r.head [])
    (sym at.rest) none_listed
its_head name t (Some net) at = at.rest.head

pub none_outlined : (net : Option Net) → None ≡ head_in net → None ≡ option_map outline net
none_outlined None none = refl
none_outlined (Some net) none = absurd (cc)

pub none_made : (make : Net → Net) (net : Option Net) → None ≡ option_map outline net → None ≡ option_map make net
none_made make None none = refl
none_made make (Some net) none = absurd (cc)

pub none_if_unreleased : (net : Option Net) → None ≡ option_map (with_releases []) net → None ≡ net
none_if_unreleased None none = refl
none_if_unreleased (Some net) none = absurd (cc)

same_parts : (a b : Net) → a.name ≡ b.name → a.head ≡ b.head → a.live ≡ b.live → a.blocks ≡ b.blocks → a.held ≡ b.held
    → a.approvals ≡ b.approvals → a.releases ≡ b.releases → a ≡ b
same_parts a b name head live blocks held approvals releases =
    λ i. record {
      name = name i;
      head = head i;
      live = live i;
      blocks = blocks i;
      held = held i;
      approvals =
          approvals i;
      releases = releases i;
    }

-- each part is the one that the tables have, and there is no live message and no release
pub record AreParts (name : List ℕ) (t : Tables) (made : Net) : Type 0 where
  pub named : made.name ≡ name
  pub live : made.live ≡ []
  pub blocks : (blocks : List GrantedBlock) → HasBlocks name t blocks → made.blocks ≡ blocks
  pub held : (held : List Ident) → HasHeld name t held → made.held ≡ held
  pub approvals : (teams : List (List ℕ)) → HasApprovals name t teams → made.approvals ≡ teams
  pub releases : made.releases ≡ []

pub outline_is : (name : List ℕ) (t : Tables) (net : Option Net) (made : Net) → IsNetAt name t net
    → Some made.head ≡ head_in net → AreParts name t made → Some made ≡ option_map outline net
outline_is name t None made at head parts = absurd (cc)
outline_is name t (Some net) made at head parts =
    let same : made.head ≡ net.head = cc in
    ap Some
    (same_parts made (outline net) (parts.named ∙ sym at.rest.named) same parts.live
    (parts.blocks net.blocks at.rest.blocks) (parts.held net.held at.rest.held)
    (parts.approvals net.approvals at.rest.approvals) parts.releases)

-- a network without its live messages, and with them, or with what is made of them
pub with_its_messages : (make : List LiveMessage → List LiveMessage) (name : List ℕ) (t : Tables) (net : Option Net)
    (made : Net) (live : List LiveMessage) → IsNetAt name t net → Some made ≡ option_map outline net
    → ((others : List LiveMessage) → HasRows name t others → live ≡ make others)
    → Some (record made { live = live }) ≡ option_map (λ (n : Net). record n { live = make n.live; releases = [] }) net
with_its_messages make name t None made live at is one = absurd (cc)
with_its_messages make name t (Some net) made live at is one =
    let same : made ≡ outline net = cc in
    ap Some (ap (λ (n : Net). record n { live = live }) same
    ∙ ap (λ (ms : List LiveMessage). record net { live = ms; releases = [] }) (one net.live at.live))

-- a network without its releases, and with them
pub with_its_releases : (name : List ℕ) (t : Tables) (net : Option Net) (made : Net) (releases : List Sheet)
    → IsNetAt name t net → Some made ≡ option_map (with_releases []) net
    → ((others : List Sheet) → HasReleases name t others → releases ≡ others) → Some (with_releases releases made) ≡ net
with_its_releases name t None made releases at is one = absurd (cc)
with_its_releases name t (Some net) made releases at is one =
    let same : made ≡ with_releases [] net = cc in
    ap Some (ap (with_releases releases) same
    ∙ ap (λ (rs : List Sheet). with_releases rs net) (one net.releases at.rest.releases))

-- as many other sheets in the place of its releases

pub none_counted : (net : Option Net) → None ≡ option_map (with_releases []) net → HasAsMany net None
none_counted None none = refl
none_counted (Some net) none = absurd (cc)

pub with_as_many : (net : Option Net) (made : Net) (others : List Sheet) (count : ℕ)
    → Some made ≡ option_map (with_releases []) net → length others ≡ count
    → ((n : Net) → net ≡ Some n → count ≡ length n.releases) → HasAsMany net (Some (with_releases others made))
with_as_many None made others count is long counted = absurd (cc)
with_as_many (Some net) made others count is long counted =
    let same : made ≡ with_releases [] net = cc in
    (others, long ∙ counted net refl, ap (λ n. Some (with_releases others n)) same)
