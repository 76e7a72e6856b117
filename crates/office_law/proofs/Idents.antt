-- Identifiers and their numbers, and which of them are live, held and released.
use Rattle.office_law.proofs.Common.{◌≡◌, ◌≢◌, ◌==◌, ◌∙◌, ◌||◌, true, false, ℕ, List, [], ◌∷◌, Contains, refl, sym, ap}
use Rattle.office_law.proofs.Common.{arith, eq-eqb, bytes_eq, false≢true, All-contains, list_any_at, IsIdentifier}
use Rattle.office_law.proofs.Common.{dbc_number, Ident, has_name, has_number, message_name, number_of, Message, Sheet}
use Rattle.office_law.proofs.Common.{live_messages, LiveMessage, Net, has_ident, is_held, is_live, live_name}
use Rattle.office_law.proofs.Common.{same_ident, was_released}
use Rattle.can_id.specs.declared.ident.Ident.TheVariants as id
use Rattle.office_law.proofs.Lists.{All-from_none}
pub use Rattle.office_rules.proofs.Idents.{same_ident-true}

-- no two identifiers have one number
pub same_number : (a b : Ident) → IsIdentifier a → IsIdentifier b → dbc_number a ≡ dbc_number b → a ≡ b
same_number (id.Std m) (id.Std n) h k e = ap (λ v. id.Std v) e
same_number (id.Std m) (id.Ext n) h k e = absurd (omega (arith, h, k, e))
same_number (id.Ext m) (id.Std n) h k e = absurd (omega (arith, h, k, e))
same_number (id.Ext m) (id.Ext n) h k e = ap (λ v. id.Ext v) (let same : m ≡ n = omega (arith, e) in same)

pub same_ident-itself : (i : Ident) → same_ident i i ≡ true
same_ident-itself (id.Std n) = eq-eqb n n refl
same_ident-itself (id.Ext n) = eq-eqb n n refl

pub same_ident-from : (a b : Ident) → a ≡ b → same_ident a b ≡ true
same_ident-from a b e = ap (λ v. same_ident a v) (sym e) ∙ same_ident-itself a

-- an identifier that no live message has
pub not_live : (net : Net) (i : Ident) (m : LiveMessage) → is_live net i ≡ false → Contains net.live m
    → m.message.ident ≢ i
not_live net i m h c e =
    false≢true (sym (All-contains (λ l. has_ident i l ≡ false) net.live m (All-from_none (has_ident i) net.live h) c)
    ∙ same_ident-from m.message.ident i e)

pub not_held : (net : Net) (i : Ident) → is_held net i ≡ false → Contains net.held i → ⊥
not_held net i h c =
    false≢true (sym (All-contains (λ j. same_ident j i ≡ false) net.held i
    (All-from_none (λ j. same_ident j i) net.held h) c) ∙ same_ident-itself i)

-- an identifier that a release has
pub is_released : (releases : List Sheet) (s : Sheet) (m : Message) → Contains releases s → Contains s.messages m
    → was_released releases m.ident ≡ true
is_released releases s m c d =
    list_any_at (λ (t : Sheet). has_number t.messages (dbc_number m.ident)) releases c.0 s c.1
    (ap (λ (t : Sheet). has_number t.messages (dbc_number m.ident)) c.2
    ∙ list_any_at (λ (x : Message). number_of x == dbc_number m.ident) s.messages d.0 m d.1
    (ap (λ (x : Message). number_of x == dbc_number m.ident) d.2 ∙ eq-eqb (number_of m) (number_of m) refl))

-- names of live messages
pub names_of_live : (live : List LiveMessage) (name : List ℕ) → has_name message_name (live_messages live) name
    ≡ has_name live_name live name
names_of_live [] name = refl
names_of_live (m ∷ live) name = ap (λ b. bytes_eq m.message.name name || b) (names_of_live live name)
