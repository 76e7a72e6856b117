-- What is read part by part is the network's.
use Rattle.store_net.proofs.Common.{◌≡◌, ℕ, List, [], Option, Some, None, sym, subst, IfSome, bytes_eq, Head}
use Rattle.store_net.proofs.Common.{LiveMessage, Net, in_last, live_named, was_released, Tables, net_row, net_order}
use Rattle.store_net.proofs.Common.{AreListed, HasRows, IsNetAt, RestRows, IsNetRow, IsRowOf, none_listed}
use Rattle.std.proofs.Common.{Result, Ok, Err}
use Rattle.std.specs.Prelude.{IfOk}
use Rattle.std.proofs.lemmas.List.Elements.{All-contains}
use Rattle.office_facts.specs.FactsOf.{message_in}
use Rattle.office_facts.specs.Scope.{Scope}
use Rattle.office_facts.specs.declared.excerpt.Excerpt.{Excerpt}
use Rattle.office_law.proofs.Lists.{Contains-found}
use Rattle.office_rules.specs.Facts.{message_facts}
use Rattle.office_rules.specs.Kept.{IsNet}
use Rattle.store_rows.specs.NetIn.{IsNetIn}
use Rattle.store_net.specs.Excerpts.{ArePartsIn, IsExcerptIn, IsReadIn, MatchBoth}
use Rattle.store_net.specs.Parts.{HasHead}

none_some : {X : Type 0} (x : X) → None ≡ Some x → ⊥
none_some x e = cc

one_some : {X : Type 0} (x y : X) → Some x ≡ Some y → x ≡ y
one_some x y e = cc

-- where the network isn't there, nothing is read
pub none_there : {X : Type 0} (P : Net → X → Type 0) (name : List ℕ) (t : Tables) (net : Option Net)
    → ((other : Option Head) → HasHead name t other → None ≡ other)
    → IsReadIn name t net → MatchBoth P net None
none_there P name t None head at = tt
none_there P name t (Some net) head at = none_some net.head (head (Some net.head) at.head)

-- what holds of something that was read with the head of the network that is there
pub one_there : {X : Type 0} (P : Net → X → Type 0) (name : List ℕ) (t : Tables) (net : Option Net) (h : Head) (x : X)
    → ((other : Option Head) → HasHead name t other → Some h ≡ other)
    → ((n : Net) → ArePartsIn name t n → h ≡ n.head → P n x) → IsReadIn name t net → MatchBoth P net (Some x)
one_there P name t None h x head holds at = none_some h (sym (head None at))
one_there P name t (Some net) h x head holds at = holds net at (one_some h net.head (head (Some net.head) at.head))

-- what is made of what was read: nothing of nothing, and one of one
pub none_more : {X Y : Type 0} (P : Net → X → Type 0) (Q : Net → Y → Type 0) (net : Option Net) → MatchBoth P net None
    → MatchBoth Q net None
none_more P Q None both = tt
none_more P Q (Some net) both = both

pub one_more : {X Y : Type 0} (P : Net → X → Type 0) (Q : Net → Y → Type 0) (name : List ℕ) (t : Tables)
    (net : Option Net) (x : X) (y : Y) → MatchBoth P net (Some x)
    → ((n : Net) → ArePartsIn name t n → P n x → Q n y) → IsReadIn name t net → MatchBoth Q net (Some y)
one_more P Q name t None x y both more at = both
one_more P Q name t (Some net) x y both more at = more net at both

-- a network that the tables have in the form of rows is read so
pub rows_are_read : (name : List ℕ) (t : Tables) (net : Option Net) → IsNetIn HasRows name t net → IsReadIn name t net
rows_are_read name t None at = subst (λ (r : RestRows). AreListed net_order (IsRowOf net_row (IsNetRow name)) r.head [])
    (sym at.rest) none_listed
rows_are_read name t (Some net) at =
    record { head = at.rest.head; blocks = at.rest.blocks; held = at.rest.held; live = at.live }

-- the same where that needs the whole network of an office
pub whole_there : {X : Type 0} (P : Net → X → Type 0) (name : List ℕ) (t : Tables) (net : Option Net) (h : Head) (x : X)
    → ((other : Option Head) → HasHead name t other → Some h ≡ other)
    → ((n : Net) → IsNetAt name t (Some n) → IsNet n → h ≡ n.head → P n x) → IsNetAt name t net → IfSome net IsNet
    → MatchBoth P net (Some x)
whole_there P name t None h x head holds at is_net = none_some h (sym (head None (rows_are_read name t None at)))
whole_there P name t (Some net) h x head holds at is_net =
    holds net at is_net (one_some h net.head (head (Some net.head) at.rest.head))

-- read by those parts, for the scope that was matched
pub by_parts : {E : Type 0} (r : Result (Option Excerpt) E) (name team : List ℕ) (t : Tables) (own scope : Scope)
    → scope ≡ own
    → IfOk r (λ found. (net : Option Net) → IsReadIn name t net → IsExcerptIn team own net found)
    → IfOk r (λ found. (net : Option Net) → IsNetAt name t net → IfSome net IsNet → IsExcerptIn team scope net found)
by_parts (Ok found) name team t own scope is read =
    λ net at is_net. subst (λ s. IsExcerptIn team s net found) (sym is) (read net (rows_are_read name t net at))
by_parts (Err e) name team t own scope is read = tt

-- the last release has the identifier of a live message exactly if a release has it
pub last_of_net : (n : Net) (name : List ℕ) (m : LiveMessage) → IsNet n → Some m ≡ live_named n.live name
    → was_released n.releases m.message.ident ≡ in_last n.releases m.message.ident
last_of_net n name m is_net is =
    All-contains (λ (l : LiveMessage). was_released n.releases l.message.ident ≡ in_last n.releases l.message.ident)
    n.live m is_net.releases.last
    (Contains-found (λ (l : LiveMessage). bytes_eq l.message.name name) n.live m (sym is))

-- the facts of a message that was read are the network's
pub facts_read : (n : Net) (message : List ℕ) (h : Head) (found : Option LiveMessage) → h ≡ n.head
    → found ≡ live_named n.live message → message_in h found ≡ message_facts n message
facts_read n message h found same is =
    λ i. record { phase = (same i).phase; nodes = (same i).frame.nodes; found = is i }
