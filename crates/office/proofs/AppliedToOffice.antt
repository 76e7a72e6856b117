-- What one change leaves of the whole office.
use Rattle.office.proofs.Common.{◌≡◌, ◌∙◌, ◌≤◌, ◌<◌, ℕ, Bool, true, false, cond, List, [], ◌∷◌, Option, Some, None}
use Rattle.office.proofs.Common.{length, get_or, find, refl, sym, ap, arith, slice_get, position, IsStrictlySortedBy}
use Rattle.office.proofs.Common.{nat_cmp, bytes_eq, put, by_name, SpnBlock, SpnBook, Change, SetHead, AddSignal, SetSpn}
use Rattle.office.proofs.Common.{SetSpnBlock, EnterSpn, LiveMessage, Net, Office, changed_book, net_changed, live_named}
use Rattle.office.proofs.Common.{with_message, with_last_signal, net_named}
use Rattle.std.specs.Prelude.{nat_lt}
use Rattle.std.specs.List.{position_or_len}
use Rattle.std.proofs.lemmas.Bool.Decides.{nat_tests}
use Rattle.std.proofs.lemmas.List.Folds.{find_at}
use Rattle.std.proofs.lemmas.Option.{slice_get-get_or, slice_get_past}
use Rattle.office_types.specs.Book.{by_net}
use Rattle.office_types.specs.declared.change.Change.TheVariants.{RemoveSignal, SetValues}
use Rattle.office_rules.specs.Change.{changed_net}
use Rattle.office_rules.specs.Signals.{with_signal_out, with_spn, with_values}
use Rattle.office_law.proofs.OrderedNets.{has, put_found}
use Rattle.office.specs.OfficeApplied.{IsNetFound, office_applied, with_both}

-- The index of a network.

module _ {A : Type 0} (p : A → Bool) (xs : List A) where
  pub found_at : (i : ℕ) → position p xs ≡ Some i → (i < length xs) × (slice_get xs i ≡ find p xs)
  found_at i h = by_test (nat_lt (position_or_len p xs) (length xs)) refl h
    where
      some_same : (a b : ℕ) → ◌≡◌ {A = Option ℕ} (Some a) (Some b) → a ≡ b
      some_same a b e = cc

      none_some : (a : ℕ) → ◌≡◌ {A = Option ℕ} None (Some a) → ⊥
      none_some a e = cc

      by_test : (b : Bool) → nat_lt (position_or_len p xs) (length xs) ≡ b
          → cond b (Some (position_or_len p xs)) None ≡ Some i
          → (i < length xs) × (slice_get xs i ≡ find p xs)
      by_test false t e = absurd (none_some i e)
      by_test true t e =
          let same : position_or_len p xs ≡ i = some_same _ _ e in
          let within : position_or_len p xs < length xs = grind (arith, nat_tests) in
          (omega (arith, same, within), ap (slice_get xs) (sym same) ∙ sym (find_at p xs))

  pub not_found : position p xs ≡ None → find p xs ≡ None
  not_found h = by_test (nat_lt (position_or_len p xs) (length xs)) refl h
    where
      some_none : (a : ℕ) → ◌≡◌ {A = Option ℕ} (Some a) None → ⊥
      some_none a e = cc

      by_test : (b : Bool) → nat_lt (position_or_len p xs) (length xs) ≡ b
          → cond b (Some (position_or_len p xs)) None ≡ None → find p xs ≡ None
      by_test true t e = absurd (some_none _ e)
      by_test false t e =
          let past : length xs ≤ position_or_len p xs = grind (arith, nat_tests) in
          find_at p xs ∙ slice_get_past xs (position_or_len p xs) past

pub index_is : (o : Office) (name : List ℕ) (index : Option ℕ) → index ≡ position (λ net. bytes_eq net.name name) o.nets
    → IsNetFound o name index
index_is o name None h = not_found (has name) o.nets (sym h)
index_is o name (Some i) h = found_at (has name) o.nets i (sym h)

-- the network at the index is that of the name
pub index_names : (o : Office) (name : List ℕ) (i : ℕ) (y : Net) → IsNetFound o name (Some i) → y ≡ get_or o.nets i y
    → net_named o name ≡ Some y
index_names o name i y h is = sym h.1 ∙ slice_get-get_or o.nets i y h.0 ∙ ap Some (sym is)

-- Changes.

pub changed_there : (name : List ℕ) (c : Change) (n : Net) → changed_net name c (Some n) ≡ Some (net_changed c n)
changed_there name (SetHead h) n = refl
changed_there name it n = refl

name_kept_at : (n : Net) (f : LiveMessage → LiveMessage) (o : Option LiveMessage)
    → ◌≡◌ {A = List ℕ} (let after : Net = elim o [ None ↦ n | Some m ↦ with_message n (f m) ] in after.name) n.name
name_kept_at n f None = refl
name_kept_at n f (Some m) = refl

-- a network keeps its name
pub name_kept : (c : Change) (n : Net) → (net_changed c n).name ≡ n.name
name_kept (AddSignal message s) n = name_kept_at n (λ m. with_last_signal m s) (live_named n.live message)
name_kept (RemoveSignal path) n = name_kept_at n (λ m. with_signal_out m path.signal) (live_named n.live path.message)
name_kept (SetSpn path k) n = name_kept_at n (λ m. with_spn m path.signal k) (live_named n.live path.message)
name_kept (SetValues path values) n =
    name_kept_at n (λ m. with_values m path.signal values) (live_named n.live path.message)
name_kept it n = refl

module _ (o : Office) (name : List ℕ) (sorted : IsStrictlySortedBy by_name o.nets) where
  -- a change of the book leaves the networks
  module _ (c : Change) (book : SpnBook) (entered : changed_book c o.book ≡ book)
      (none : changed_net name c None ≡ None) (kept : (n : Net) → net_changed c n ≡ n) where
    book_applied : ◌≡◌ {A = Office} (record { nets = o.nets; book = book }) (office_applied o name (c ∷ []))
    book_applied = by_found (net_named o name) refl
      where
        by_found : (found : Option Net) → net_named o name ≡ found
            → ◌≡◌ {A = Office} (record { nets = o.nets; book = book })
            (with_both o (record { net = changed_net name c found; book = changed_book c o.book }))
        by_found None is = ap (λ (p : Option Net × SpnBook). with_both o (record { net = p.0; book = p.1 }))
            (λ i. (sym none i, sym entered i))
        by_found (Some n) is =
            ap (λ (ns : List Net). record { nets = ns; book = book }) (sym (put_found name o.nets n sorted is))
            ∙ ap (λ (p : Option Net × SpnBook). with_both o (record { net = p.0; book = p.1 }))
            (λ i. (sym (changed_there name c n ∙ ap Some (kept n)) i, sym entered i))

  -- no change leaves the office
  pub nothing_applied : ◌≡◌ {A = Office} o (office_applied o name [])
  nothing_applied = by_found (net_named o name) refl
    where
      by_found : (found : Option Net) → net_named o name ≡ found
          → ◌≡◌ {A = Office} o (with_both o (record { net = found; book = o.book }))
      by_found None is = refl
      by_found (Some n) is = ap (λ (ns : List Net). record { nets = ns; book = o.book })
          (sym (put_found name o.nets n sorted is))

  pub block_applied : (b : SpnBlock)
      → ◌≡◌ {A = Office} (record { nets = o.nets; book = record o.book { blocks = put by_net b o.book.blocks } })
      (office_applied o name (SetSpnBlock b ∷ []))
  block_applied b = book_applied (SetSpnBlock b) (record o.book { blocks = put by_net b o.book.blocks }) refl refl
      (λ n. refl)

  pub number_applied : (k : ℕ)
      → ◌≡◌ {A = Office} (record { nets = o.nets; book = record o.book { used = put nat_cmp k o.book.used } })
      (office_applied o name (EnterSpn k ∷ []))
  number_applied k = book_applied (EnterSpn k) (record o.book { used = put nat_cmp k o.book.used }) refl refl
      (λ n. refl)
