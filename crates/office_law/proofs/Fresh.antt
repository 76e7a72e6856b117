-- Numbers that may be given out: no live message has them, and they aren't held.
use Rattle.office_law.proofs.Common.{◌≡◌, ◌<◌, ◌==◌, ◌∙◌, ◌||◌, Bool, true, false, ℕ, zero, suc, List, [], ◌∷◌, map}
use Rattle.office_law.proofs.Common.{length, get_or, Option, Some, None, Contains, refl, sym, ap, subst, arith, eq-eqb}
use Rattle.office_law.proofs.Common.{list_any, false≢true, and_parts, false_from_ne_true, leb-true, not-false, not-true}
use Rattle.office_law.proofs.Common.{or_parts, Contains-append_left, Contains-append_right, Any-from_list_any}
use Rattle.office_law.proofs.Common.{list_any-append, same_Some, IsIdentifier, ident_of, Ident, block_form, IsLeastFree}
use Rattle.office_law.proofs.Common.{has_form, is_taken, least_free, number_form, Block, TakeIdent, NumberForm}
use Rattle.office_law.proofs.Common.{LiveMessage, Net, least_free_is, blocks_of, group_of, has_ident, ident_facts}
use Rattle.office_law.proofs.Common.{is_held, is_live, lies_in, same_ident, taken_groups, taken_idents, taken_numbers}
use Rattle.office_law.proofs.Common.{number_given, want_tests}
use Rattle.std.specs.List.{filter_map, cons_option}
use Rattle.can_id.specs.declared.form.IdentForm.{IdentForm}
use Rattle.can_id.specs.declared.form.IdentForm.TheVariants.{Standard, Extended}
use Rattle.can_id.specs.declared.ident.Ident.TheVariants as id
use Rattle.office_rules.specs.Facts.{number_in}
use Rattle.office_law.specs.Fresh.{IsChosen}
use Rattle.office_law.proofs.Idents.{same_ident-true}
use Rattle.office_law.proofs.NoTestHolds.{NoneHolds}
use Rattle.office_law.proofs.Sheets.{Contains-map}

-- Identifiers that are taken, as numbers of a form.

any_ident : (i : Ident) (live : List LiveMessage) → list_any (λ j. same_ident j i) (map (λ m. m.message.ident) live)
    ≡ list_any (has_ident i) live
any_ident i [] = refl
any_ident i (m ∷ live) = ap (λ b. has_ident i m || b) (any_ident i live)

taken_more : (form : IdentForm) (n : ℕ) (i : Ident) (ns : List ℕ) → is_taken n (cons_option (number_in form i) ns)
    ≡ (same_ident i (ident_of form n) || is_taken n ns)
taken_more Standard n (id.Std m) ns = refl
taken_more Standard n (id.Ext m) ns = refl
taken_more Extended n (id.Std m) ns = refl
taken_more Extended n (id.Ext m) ns = refl

taken_from : (form : IdentForm) (n : ℕ) (is : List Ident)
    → is_taken n (filter_map (number_in form) is) ≡ list_any (λ i. same_ident i (ident_of form n)) is
taken_from form n [] = refl
taken_from form n (i ∷ is) = taken_more form n i (filter_map (number_in form) is)
    ∙ ap (λ b. same_ident i (ident_of form n) || b) (taken_from form n is)

-- a number is taken where a live message has it, or it is held
pub is_taken-numbers : (net : Net) (form : IdentForm) (n : ℕ)
    → is_taken n (taken_numbers net form) ≡ (is_live net (ident_of form n) || is_held net (ident_of form n))
is_taken-numbers net form n =
    taken_from form n (taken_idents net)
    ∙ list_any-append (λ i. same_ident i (ident_of form n)) (map (λ (m : LiveMessage). m.message.ident) net.live)
    net.held
    ∙ ap (λ b. b || is_held net (ident_of form n)) (any_ident (ident_of form n) net.live)

-- the number may be given out
pub record IsFreeNumber (team : List ℕ) (net : Net) (form : IdentForm) (want : Option ℕ) (n : ℕ) : Type 0 where
  pub chosen : IsChosen want (taken_numbers net form) (blocks_of net.blocks team (block_form form)) (number_form form) n
  pub formed : has_form (number_form form) n ≡ true
  pub granted : lies_in n (blocks_of net.blocks team (block_form form)) ≡ true
  pub live : is_live net (ident_of form n) ≡ false
  pub held : is_held net (ident_of form n) ≡ false

-- the least free number is one that may be given out
pub record IsFreeLeast (taken : List ℕ) (blocks : List Block) (form : NumberForm) (n : ℕ) : Type 0 where
  pub least : IsLeastFree taken blocks form (Some n)
  pub formed : has_form form n ≡ true
  pub granted : lies_in n blocks ≡ true
  pub free : is_taken n taken ≡ false

pub free_least : (taken : List ℕ) (blocks : List Block) (form : NumberForm) (n : ℕ)
    → least_free taken blocks form ≡ Some n → IsFreeLeast taken blocks form n
free_least taken blocks form n e =
    let least = subst (IsLeastFree taken blocks form) e (least_free_is taken blocks form) in
    let inside = and_parts _ _ least.0 in
    let other = and_parts _ _ inside.1 in
    record { least = least; formed = other.0; granted = inside.0; free = not-true _ other.1 }

-- the number that `take_ident` gives out
pub free_given : (team name : List ℕ) (net : Net) (c : TakeIdent) (want : Option ℕ)
    → NoneHolds (want_tests team (ident_facts net name c.form want) (record c { want = want })) → (n : ℕ)
    → number_given team (ident_facts net name c.form want) (record c { want = want }) ≡ Some n
    → IsFreeNumber team net c.form want n
free_given team name net c (Some m) h n e =
    let inside = and_parts _ _ (not-false _ h.0) in
    subst (IsFreeNumber team net c.form (Some m)) (same_Some m n e)
    (record { chosen = refl; formed = inside.0; granted = inside.1; live = h.1.0; held = h.1.1.0 })
free_given team name net c None h n e =
    let free = free_least (taken_numbers net c.form) (blocks_of net.blocks team (block_form c.form))
    (number_form c.form) n e in
    let neither = or_parts _ _ (sym (is_taken-numbers net c.form n) ∙ free.free) in
    record { chosen = free.least; formed = free.formed; granted = free.granted; live = neither.0; held = neither.1 }

pub identifier_of : (form : IdentForm) (n : ℕ) → has_form (number_form form) n ≡ true → IsIdentifier (ident_of form n)
identifier_of Standard n h = leb-true n _ (and_parts _ _ h).0
identifier_of Extended n h = leb-true n _ (and_parts _ _ h).0

-- Parameter groups that are taken.

pub group_taken : (is : List Ident) (i : Ident) (pgn : ℕ) → Contains is i → group_of i ≡ Some pgn
    → is_taken pgn (filter_map group_of is) ≡ true
group_taken is i pgn c e = at_index is c.0 c.1 c.2
  where
    first : (o : Option ℕ) (ns : List ℕ) → o ≡ Some pgn → is_taken pgn (cons_option o ns) ≡ true
    first None ns h = absurd cc
    first (Some n) ns h = ap (λ b. b || is_taken pgn ns) (eq-eqb n pgn (same_Some n pgn h))

    later : (o : Option ℕ) (ns : List ℕ) → is_taken pgn ns ≡ true → is_taken pgn (cons_option o ns) ≡ true
    later None ns h = h
    later (Some n) ns h = or_true (n == pgn) (is_taken pgn ns) h
      where
        or_true : (a b : Bool) → b ≡ true → (a || b) ≡ true
        or_true true b k = refl
        or_true false b k = k

    at_index : (js : List Ident) (k : ℕ) → k < length js → get_or js k i ≡ i
        → is_taken pgn (filter_map group_of js) ≡ true
    at_index [] k lt same = absurd (omega arith)
    at_index (j ∷ js) zero lt same = first (group_of j) (filter_map group_of js) (ap group_of same ∙ e)
    at_index (j ∷ js) (suc k) lt same = later (group_of j) (filter_map group_of js) (at_index js k (omega arith) same)

-- no live and no held identifier is of a group that isn't taken
pub other_group : (net : Net) (pgn : ℕ) (i : Ident) → is_taken pgn (taken_groups net) ≡ false → group_of i ≡ Some pgn
    → (is_live net i ≡ false) × (is_held net i ≡ false)
other_group net pgn i free e = (
  false_from_ne_true _ (λ live. among (live_ident live)),
  false_from_ne_true _ (λ held. among (held_ident held)),
)
  where
    among : Contains (taken_idents net) i → ⊥
    among c = false≢true (sym free ∙ group_taken (taken_idents net) i pgn c e)

    live_ident : is_live net i ≡ true → Contains (taken_idents net) i
    live_ident h =
        let w = Any-from_list_any (has_ident i) net.live h in
        let same : w.1.message.ident ≡ i = same_ident-true w.1.message.ident i w.4 in
        Contains-append_left (map (λ (m : LiveMessage). m.message.ident) net.live) net.held i
        (subst (Contains (map (λ (m : LiveMessage). m.message.ident) net.live)) same
        (Contains-map (λ (m : LiveMessage). m.message.ident) net.live w.1 (w.0, w.2, w.3)))

    held_ident : is_held net i ≡ true → Contains (taken_idents net) i
    held_ident h =
        let w = Any-from_list_any (λ j. same_ident j i) net.held h in
        let same : w.1 ≡ i = same_ident-true w.1 i w.4 in
        Contains-append_right (map (λ (m : LiveMessage). m.message.ident) net.live) net.held i
        (subst (Contains net.held) same (w.0, w.2, w.3))
