-- The taken identifiers that were read of a team's blocks are as good as all, where only numbers of the blocks count.
use Rattle.store_net.proofs.Common.{◌≡◌, ◌∙◌, ℕ, ◌+◌, ◌≤◌, Bool, true, false, cond, List, [], ◌∷◌, ◌++◌, filter, Option}
use Rattle.store_net.proofs.Common.{Some, None, refl, sym, ap, append-nil, arith, ◌==◌, ◌||◌, min, nat_le}
use Rattle.store_net.proofs.Common.{AllByRecursion, filter_map, flat_map, list_any, eqb-true, false≢true, nat_tests}
use Rattle.store_net.proofs.Common.{IsIdentifier, dbc_number, ident_of, IdentForm, Standard, Extended, EXTENDED_FLAG}
use Rattle.store_net.proofs.Common.{GREATEST_EXTENDED, Ident, Block, LiveMessage, group_of, is_wanted, number_in}
use Rattle.store_net.proofs.Common.{same_ident, AgreeInside}
use Rattle.std.specs.List.{cons_option}
use Rattle.std.proofs.lemmas.Bool.{leb-true}
use Rattle.std.proofs.lemmas.List.Concat.{flat_map-append}
use Rattle.std.proofs.lemmas.List.Folds.{list_any-append}
use Rattle.can_id.specs.declared.ident.Ident.TheVariants as id
use Rattle.office_types.specs.Block.{in_block}
use Rattle.office_types.specs.Free.{is_taken}
use Rattle.office_rules.specs.Facts.{has_ident, lies_in}
use Rattle.store_rows.proofs.Keys.{and_left, and_right}
use Rattle.store_net.specs.Numbers.{dbc_of, idents_between, idents_inside, is_in, live_idents}

-- ---- or

or_right : (a b : Bool) → b ≡ true → (a || b) ≡ true
or_right true b h = refl
or_right false b h = h

or_more : (a b c : Bool) → (b ≡ true → c ≡ true) → (a || b) ≡ true → (a || c) ≡ true
or_more true b c f h = refl
or_more false b c f h = f h

or_either : (a b c : Bool) → (a ≡ true → c ≡ true) → (b ≡ true → c ≡ true) → (a || b) ≡ true → c ≡ true
or_either true b c f g h = f refl
or_either false b c f g h = g h

-- what says no more adds nothing
adds_right : (v w : Bool) → (w ≡ true → v ≡ true) → (v || w) ≡ v
adds_right true w f = refl
adds_right false true f = sym (f refl)
adds_right false false f = refl

adds_left : (u v : Bool) → (u ≡ true → v ≡ true) → (u || v) ≡ v
adds_left true v f = sym (f refl)
adds_left false v f = refl

-- ---- tests of what is kept of a list

module _ {X : Type 0} (test keep : X → Bool) where
  any_of_kept : (xs : List X) → list_any test (filter keep xs) ≡ true → list_any test xs ≡ true
  any_of_kept [] h = h
  any_of_kept (x ∷ xs) h = by_keep (keep x) h (any_of_kept xs)
    where
      by_keep : (k : Bool) → list_any test (cond k (x ∷ filter keep xs) (filter keep xs)) ≡ true
          → (list_any test (filter keep xs) ≡ true → list_any test xs ≡ true)
          → (test x || list_any test xs) ≡ true
      by_keep true h rest = or_more (test x) (list_any test (filter keep xs)) (list_any test xs) rest h
      by_keep false h rest = or_right (test x) (list_any test xs) (rest h)

  -- what the test passes is kept
  any_kept : (P : X → Type 0) → ((x : X) → P x → test x ≡ true → keep x ≡ true) → (xs : List X) → AllByRecursion P xs
      → list_any test (filter keep xs) ≡ list_any test xs
  any_kept P kept [] all = refl
  any_kept P kept (x ∷ xs) all = by_keep (keep x) (test x) refl refl (any_kept P kept xs all.1)
    where
      by_keep : (k t : Bool) → keep x ≡ k → test x ≡ t → list_any test (filter keep xs) ≡ list_any test xs
          → list_any test (cond k (x ∷ filter keep xs) (filter keep xs)) ≡ (test x || list_any test xs)
      by_keep true t keeps passes rest = ap (λ b. test x || b) rest
      by_keep false true keeps passes rest = absurd (false≢true (sym keeps ∙ kept x all.0 passes))
      by_keep false false keeps passes rest = rest ∙ sym (ap (λ b. b || list_any test xs) passes)

-- ---- numbers of identifiers

abbrev is_it : ℕ → Option ℕ → Bool
is_it n None = false
is_it n (Some m) = m == n

abbrev gives : (Ident → Option ℕ) → ℕ → Ident → Bool
gives f n i = is_it n (f i)

taken_of : (f : Ident → Option ℕ) (n : ℕ) (idents : List Ident)
    → is_taken n (filter_map f idents) ≡ list_any (gives f n) idents
taken_of f n [] = refl
taken_of f n (i ∷ idents) = by_number (f i) (taken_of f n idents)
  where
    by_number : (o : Option ℕ) → is_taken n (filter_map f idents) ≡ list_any (gives f n) idents
        → is_taken n (cons_option o (filter_map f idents)) ≡ (is_it n o || list_any (gives f n) idents)
    by_number None rest = rest
    by_number (Some m) rest = ap (λ b. (m == n) || b) rest

-- where a number is given by some identifier that was read of each table if it is given by any, it is taken as among
-- all
both_agree : (f : Ident → Option ℕ) (n : ℕ) (live all_live held all_held : List Ident)
    → list_any (gives f n) live ≡ list_any (gives f n) all_live
    → list_any (gives f n) held ≡ list_any (gives f n) all_held
    → is_taken n (filter_map f (live ++ held)) ≡ is_taken n (filter_map f (all_live ++ all_held))
both_agree f n live all_live held all_held first second =
    taken_of f n (live ++ held) ∙ list_any-append (gives f n) live held ∙ ap (λ b. b || list_any (gives f n) held) first
    ∙ ap (λ b. list_any (gives f n) all_live || b) second
    ∙ sym (list_any-append (gives f n) all_live all_held) ∙ sym (taken_of f n (all_live ++ all_held))

in_range : (first last n : ℕ) → first ≤ n → n ≤ last → is_in first last n ≡ true
in_range first last n low high = grind (arith, nat_tests, low, high)

-- ---- the team's blocks

-- an identifier whose number is in the block is within its range
within : (form : IdentForm) (b : Block) (n : ℕ) → in_block n b ≡ true → (i : Ident) → IsIdentifier i
    → gives (number_in form) n i ≡ true
    → is_in (dbc_of form b.first) (dbc_of form b.last) (dbc_number i) ≡ true
within form b n inside i is given = by_form form i is given
  where
    low : b.first ≤ n
    low = leb-true b.first n (and_left (nat_le b.first n) (nat_le n b.last) inside)

    high : n ≤ b.last
    high = leb-true n b.last (and_right (nat_le b.first n) (nat_le n b.last) inside)

    by_form : (f : IdentForm) (i : Ident) → IsIdentifier i → gives (number_in f) n i ≡ true
        → is_in (dbc_of f b.first) (dbc_of f b.last) (dbc_number i) ≡ true
    by_form Standard (id.Std m) is given =
        let same : m ≡ n = eqb-true m n given in
        in_range (min b.first 4294967295) (min b.last 4294967295) m (omega (arith, low, same))
        (omega (arith, high, same, is))
    by_form Standard (id.Ext m) is given = absurd (false≢true given)
    by_form Extended (id.Std m) is given = absurd (false≢true given)
    by_form Extended (id.Ext m) is given =
        let same : m ≡ n = eqb-true m n given in
        in_range (min (b.first + EXTENDED_FLAG) 4294967295) (min (b.last + EXTENDED_FLAG) 4294967295)
        (m + EXTENDED_FLAG) (omega (arith, low, same)) (omega (arith, high, same, is))

module _ (form : IdentForm) (idents : List Ident) (n : ℕ) where
  abbrev test : Ident → Bool
  test = gives (number_in form) n

  abbrev read : Block → List Ident
  read b = idents_between (dbc_of form b.first) (dbc_of form b.last) idents

  abbrev keeps : Block → Ident → Bool
  keeps b i = is_in (dbc_of form b.first) (dbc_of form b.last) (dbc_number i)

  -- what is read is there
  read_there : (blocks : List Block) → list_any test (flat_map read blocks) ≡ true → list_any test idents ≡ true
  read_there [] h = absurd (false≢true h)
  read_there (b ∷ blocks) h =
      or_either (list_any test (read b)) (list_any test (flat_map read blocks)) (list_any test idents)
      (any_of_kept test (keeps b) idents) (read_there blocks)
      (sym (list_any-append test (read b) (flat_map read blocks)) ∙ h)

  -- what is there and in the blocks is read
  read_inside : AllByRecursion IsIdentifier idents → (blocks : List Block) → lies_in n blocks ≡ true
      → list_any test (flat_map read blocks) ≡ list_any test idents
  read_inside are [] h = absurd (false≢true h)
  read_inside are (b ∷ blocks) h = list_any-append test (read b) (flat_map read blocks)
      ∙ by_block (in_block n b) refl h (read_inside are blocks)
    where
      by_block : (t : Bool) → in_block n b ≡ t → (t || lies_in n blocks) ≡ true
          → (lies_in n blocks ≡ true → list_any test (flat_map read blocks) ≡ list_any test idents)
          → (list_any test (read b) || list_any test (flat_map read blocks)) ≡ list_any test idents
      by_block true inside h rest =
          ap (λ v. v || list_any test (flat_map read blocks))
          (any_kept test (keeps b) IsIdentifier (within form b n inside) idents are)
          ∙ adds_right (list_any test idents) (list_any test (flat_map read blocks)) (read_there blocks)
      by_block false inside h rest =
          ap (λ v. list_any test (read b) || v) (rest h)
          ∙ adds_left (list_any test (read b)) (list_any test idents) (any_of_kept test (keeps b) idents)

-- what is read of one block more
pub inside_more : (form : IdentForm) (idents : List Ident) (blocks : List Block) (b : Block) (more : List Block)
    → more ≡ blocks ++ b ∷ []
    → idents_inside form blocks idents ++ idents_between (dbc_of form b.first) (dbc_of form b.last) idents
    ≡ idents_inside form more idents
inside_more form idents blocks b more is =
    let read = λ (x : Block). idents_between (dbc_of form x.first) (dbc_of form x.last) idents in
    ap (λ (l : List Ident). idents_inside form blocks idents ++ l) (sym (append-nil (read b)))
    ∙ sym (flat_map-append read blocks (b ∷ [])) ∙ ap (λ (l : List Block). idents_inside form l idents) (sym is)

pub numbers_inside : (form : IdentForm) (blocks : List Block) (live held : List Ident)
    → AllByRecursion IsIdentifier live → AllByRecursion IsIdentifier held
    → AgreeInside blocks (filter_map (number_in form)
    (idents_inside form blocks live ++ idents_inside form blocks held)) (filter_map (number_in form) (live ++ held))
numbers_inside form blocks live held are_live are_held =
    λ n inside. both_agree (number_in form) n (idents_inside form blocks live) live (idents_inside form blocks held)
    held
    (read_inside form live n are_live blocks inside) (read_inside form held n are_held blocks inside)

-- ---- parameter groups

abbrev extended_of : List Ident → List Ident
extended_of idents = idents_between EXTENDED_FLAG (EXTENDED_FLAG + GREATEST_EXTENDED) idents

extended : (n : ℕ) (i : Ident) → IsIdentifier i → gives group_of n i ≡ true
    → is_in EXTENDED_FLAG (EXTENDED_FLAG + GREATEST_EXTENDED) (dbc_number i) ≡ true
extended n (id.Std m) is given = absurd (false≢true given)
extended n (id.Ext m) is given = in_range EXTENDED_FLAG (EXTENDED_FLAG + GREATEST_EXTENDED) (m + EXTENDED_FLAG)
    (omega arith) (omega (arith, is))

given_extended : (n : ℕ) (idents : List Ident) → AllByRecursion IsIdentifier idents
    → list_any (gives group_of n) (extended_of idents) ≡ list_any (gives group_of n) idents
given_extended n idents are =
    any_kept (gives group_of n) (λ i. is_in EXTENDED_FLAG (EXTENDED_FLAG + GREATEST_EXTENDED) (dbc_number i))
    IsIdentifier (extended n) idents are

-- all 29-bit identifiers were read, so the groups agree in whatever blocks
pub groups_inside : (blocks : List Block) (live held : List Ident) → AllByRecursion IsIdentifier live
    → AllByRecursion IsIdentifier held
    → AgreeInside blocks (filter_map group_of (extended_of live ++ extended_of held))
    (filter_map group_of (live ++ held))
groups_inside blocks live held are_live are_held =
    λ n inside. both_agree group_of n (extended_of live) live (extended_of held) held (given_extended n live are_live)
    (given_extended n held are_held)

-- ---- the wanted identifier

wanted_within : (form : IdentForm) (n : ℕ) (i : Ident) → IsIdentifier i → same_ident i (ident_of form n) ≡ true
    → is_in (dbc_of form n) (dbc_of form n) (dbc_number i) ≡ true
wanted_within Standard n (id.Std m) is same =
    let e : m ≡ n = eqb-true m n same in
    in_range (min n 4294967295) (min n 4294967295) m (omega (arith, e, is)) (omega (arith, e, is))
wanted_within Standard n (id.Ext m) is same = absurd (false≢true same)
wanted_within Extended n (id.Std m) is same = absurd (false≢true same)
wanted_within Extended n (id.Ext m) is same =
    let e : m ≡ n = eqb-true m n same in
    in_range (min (n + EXTENDED_FLAG) 4294967295) (min (n + EXTENDED_FLAG) 4294967295) (m + EXTENDED_FLAG)
    (omega (arith, e, is)) (omega (arith, e, is))

-- it is taken if it is among those that have its number
pub wanted_taken : (form : IdentForm) (n : ℕ) (idents : List Ident) → AllByRecursion IsIdentifier idents
    → list_any (λ i. same_ident i (ident_of form n)) (idents_between (dbc_of form n) (dbc_of form n) idents)
    ≡ list_any (λ i. same_ident i (ident_of form n)) idents
wanted_taken form n idents are =
    any_kept (λ i. same_ident i (ident_of form n)) (λ i. is_in (dbc_of form n) (dbc_of form n) (dbc_number i))
    IsIdentifier (wanted_within form n) idents are

of_messages : (wanted : Ident) (live : List LiveMessage) → list_any (λ i. same_ident i wanted) (live_idents live)
    ≡ list_any (has_ident wanted) live
of_messages wanted [] = refl
of_messages wanted (m ∷ live) = ap (λ b. same_ident m.message.ident wanted || b) (of_messages wanted live)

-- of live messages it is one's
pub wanted_live : (form : IdentForm) (want : Option ℕ) (live : List LiveMessage)
    → is_wanted (λ i. list_any (λ taken. same_ident taken i) (live_idents live)) form want
    ≡ is_wanted (λ i. list_any (has_ident i) live) form want
wanted_live form None live = refl
wanted_live form (Some n) live = of_messages (ident_of form n) live
