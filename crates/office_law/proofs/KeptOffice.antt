-- What every office keeps is kept by each step, and by runs of them.
use Rattle.office_law.proofs.Common.{◌≡◌, ◌≤◌, ◌+◌, ◌∙◌, ◌||◌, Bool, true, false, cond, ℕ, List, [], ◌∷◌, Option, Some}
use Rattle.office_law.proofs.Common.{None, Contains, inl, inr, refl, sym, ap, subst, arith, All, find, list_any, is_eq}
use Rattle.office_law.proofs.Common.{IfSome, is_some, bytes_eq, Ordering, Equal, cond_both, false≢true}
use Rattle.office_law.proofs.Common.{nat_list_cmp_total, on_total, All-append, All-head, All-nil, All-tail, All-weaker}
use Rattle.office_law.proofs.Common.{Any-from_list_any, list_any_at, is_eq-slice_cmp, bytes_eq-Decides, put, text_cmp}
use Rattle.office_law.proofs.Common.{All-put, IsStrictlySortedBy-put, by_net, IsAction, IsPlainName, by_name, SpnBook}
use Rattle.office_law.proofs.Common.{Action, Command, OpenNet, Task, Act, Import, Bundle, Refusal, PartReply, Reply}
use Rattle.office_law.proofs.Common.{Done, Net, Office, both_entries, acted, done_task, parts_done, in_review}
use Rattle.office_law.proofs.Common.{FileReading, Reading, Unreadable, import, IsBook, IsEntered, IsNet, put_all}
use Rattle.office_law.proofs.Common.{bare_net, new_head, open_net_tests, Entries, no_entries, entered, Outcome}
use Rattle.office_law.proofs.Common.{Refusing, Changing, Profile, TeamCommand, IsRead, IsReadingOf, file_wanted}
use Rattle.office_law.proofs.Common.{net_named, office_after, opening, Run, Step, step_outcome}
use Rattle.std.specs.List.{IsDistinct}
use Rattle.std.specs.List.Sorted.{IsStrictlySortedBy}
use Rattle.office_types.specs.Command.{IsCommand, IsTask}
use Rattle.office_types.specs.declared.command.Action.TheVariants as act
use Rattle.office_rules.specs.Kept.{IsOffice}
use Rattle.office_law.specs.Kept.{AreRequests, OfficesAreKept}
use Rattle.office_law.proofs.EachAction.{laws_of}
use Rattle.office_law.proofs.ImportLeavesOffice.{IsReadingSheet, goes_import}
use Rattle.office_law.proofs.KeptBook.{still_used}
use Rattle.office_law.proofs.KeptEntered.{IsEntered-more}
use Rattle.office_law.proofs.Lists.{Contains-put, Contains-put_other}
use Rattle.office_law.proofs.OnSignals.{IsText-empty}
use Rattle.office_law.proofs.Parts.{LeavesAll, entered_both, leaves_bundle, leaves_then, leaves_with}
use Rattle.office_law.proofs.NoTestHolds.{Leaves, leaves_unless}
use Rattle.office_law.proofs.WhatCommandsLeave.{Goes, IsWellLeft, quiet}

-- A network that a command opens.
opened : (name : List ℕ) (book : SpnBook) (c : OpenNet) → IsPlainName name → c.reviews ≤ 9 → IsBook book
    → IsWellLeft name book (bare_net name (new_head c)) no_entries
unfolding IsStrictlySortedBy IsDistinct
opened name book c plain few h = quiet name book (bare_net name (new_head c)) (record {
  named = plain;
  head = record { reviewed = few; submitted = tt; frame_alone = refl };
  live = record {
    sheet = record {
      well_formed = record {
        nodes = record { apart = tt; few = omega arith };
        tables = record { apart = tt; few = omega arith };
        entries = tt;
        together = record { ascending = tt; apart = tt; few = omega arith };
        messages = tt;
      };
      version = IsText-empty;
      comment = IsText-empty;
      nodes = All-nil _;
      tables = All-nil _;
      messages = All-nil _;
    };
    clear = All-nil _;
    owned = All-nil _;
  };
  blocks = record {
    ranges = All-nil _;
    formed = All-nil _;
    groups = All-nil _;
    rising = tt;
    apart =
        λ i j d l w. absurd (omega arith);
  };
  held = record { identifiers = All-nil _; rising = tt; released = All-nil _; apart = All-nil _ };
  approvals = record { plain = All-nil _; rising = tt; in_review = λ _. refl; others = tt };
  releases = record {
    sheets = All-nil _;
    clear = All-nil _;
    few = omega arith;
    kept = All-nil _;
    one_name = All-nil _;
    last = All-nil _;
  };
}) refl h (record { live = All-nil _; released = All-nil _ })

-- Each command.

-- the network that the command finds
pub record IsFound (name : List ℕ) (book : SpnBook) (net : Net) : Type 0 where
  pub net_is : IsNet net
  pub named : net.name ≡ name
  pub numbers : IsEntered book.used net

module _ (team name : List ℕ) (book : SpnBook) (plain : IsPlainName team) (named : IsPlainName name)
    (book_is : IsBook book) where
  abbrev Well : Outcome → Type 0
  Well = Leaves (λ r n e. IsWellLeft name book n e)

  along : (net : Net) (inside : Type 0) (out : Outcome) → IsFound name book net → inside
      → Goes team name book net inside out → Well out
  along net inside (Refusing r) found fields goes = tt
  along net inside (Changing r n e) found fields goes =
      goes (record {
        net_is = found.net_is;
        named = found.named;
        numbers = found.numbers;
        book_is = book_is;
        team_is =
            plain;
        name_is = named;
        fields = fields;
      })

  refused : (r : Refusal) (out : Outcome) → out ≡ Refusing r → Well out
  refused r out same = subst Well (sym same) tt

  nowhere : (a : Action) → IsAction a → Well (acted team name None book a)
  nowhere (act.OpenNet c) fields =
      leaves_unless (λ r n e. IsWellLeft name book n e) (open_net_tests team None)
      (Changing Done (bare_net name (new_head c)) no_entries) (λ _. opened name book c named fields book_is)
  nowhere a fields = let none = (laws_of team name a).nowhere refl in
      refused none.0 (acted team name None book a) (none.1 book)

  well_acted : (net : Option Net) (a : Action) → IsAction a → IfSome net (IsFound name book)
      → Well (acted team name net book a)
  well_acted None a fields found = nowhere a fields
  well_acted (Some net) a fields found =
      along net (IsAction a) (acted team name (Some net) book a) found fields ((laws_of team name a).kept book net)

-- The parts of a bundle, one after the other.

found_left : (name : List ℕ) (book : SpnBook) (n : Net) (e : Entries) → IsWellLeft name book n e
    → IsFound name (entered book e) n
found_left name book n e w = record { net_is = w.net; named = w.named; numbers = w.numbers }

-- what is left after a part and then after the others is left by both
left_both : (name : List ℕ) (book : SpnBook) (n m : Net) (e f : Entries) → IsWellLeft name book n e
    → IsWellLeft name (entered book e) m f → IsWellLeft name book m (both_entries e f)
left_both name book n m e f w v = record {
  net = v.net;
  named = v.named;
  book_is = subst IsBook (sym (entered_both book e f)) v.book_is;
  numbers = subst (λ (b : SpnBook). IsEntered b.used m) (sym (entered_both book e f)) v.numbers;
  home = All-append (λ b. b.net ≡ name) e.blocks f.blocks w.home v.home;
}

module _ (team name : List ℕ) (plain : IsPlainName team) (named : IsPlainName name) where
  joined : (book : SpnBook) (r : Reply) (n : Net) (e : Entries) → IsWellLeft name book n e
      → (rs : List PartReply) (m : Option Net) (f : Entries)
      → IfSome m (λ k. IsWellLeft name (entered book e) k f) → IfSome m (λ k. IsWellLeft name book k (both_entries e f))
  joined book r n e w rs None f v = tt
  joined book r n e w rs (Some m) f v = left_both name book n m e f w v

  well_parts : (number : ℕ) (net : Option Net) (book : SpnBook) (parts : List Action) → IsBook book → All IsAction parts
      → IfSome net (IsFound name book)
      → LeavesAll (λ rs m e. IfSome m (λ n. IsWellLeft name book n e)) (parts_done team name number net book parts)
  well_parts number None book [] b fields found = tt
  well_parts number (Some n) book [] b fields found = quiet name book n found.net_is found.named b found.numbers
  well_parts number net book (a ∷ parts) b fields found =
      leaves_then (λ r n e. IsWellLeft name book n e) (λ rs m e. IfSome m (λ n. IsWellLeft name book n e)) number
      (acted team name net book a)
      (λ n e. parts_done team name (number + 1) (Some n) (entered book e) parts)
      (well_acted team name book plain named b net a (All-head IsAction a parts fields) found)
      (λ r n e w.
      leaves_with r e (λ rs m f. IfSome m (λ k. IsWellLeft name (entered book e) k f))
      (λ rs m f. IfSome m (λ k. IsWellLeft name book k f)) (joined book r n e w)
      (parts_done team name (number + 1) (Some n) (entered book e) parts)
      (well_parts (number + 1) (Some n) (entered book e) parts w.book_is (All-tail IsAction a parts fields)
      (found_left name book n e w)))

module _ (team name : List ℕ) (book : SpnBook) (plain : IsPlainName team) (named : IsPlainName name)
    (book_is : IsBook book) where
  pub well_done : (profile : Profile) (net : Option Net) (task : Task) (reading : FileReading) → IsTask task
      → IsRead profile (file_wanted net task) reading → IfSome net (IsFound name book)
      → Leaves (λ r n e. IsWellLeft name book n e) (done_task team name reading net book task)
  well_done profile net (Act a) reading fields read found =
      well_acted team name book plain named book_is net a fields found
  well_done profile net (Bundle parts) reading fields read found =
      leaves_bundle (λ r n e. IsWellLeft name book n e) (parts_done team name 1 net book parts)
      (well_parts team name plain named 1 net book parts book_is fields.1 found)
  well_done profile None (Import file) reading fields read found = tt
  well_done profile (Some net) (Import file) reading fields read found =
      along team name book plain named book_is net _ (import team (Some net) reading) found
      (λ draft. read_sheet file reading (in_draft file reading (in_review net.head.phase) draft read))
      (goes_import team name book net reading)
    where
      in_draft : (bytes : List ℕ) (r : FileReading) (b : Bool) → b ≡ false
          → IsRead profile (elim b [ true ↦ None | false ↦ Some bytes ]) r → IsReadingOf profile bytes r
      in_draft bytes r true e h = absurd (false≢true (sym e))
      in_draft bytes r false e h = h

      read_sheet : (bytes : List ℕ) (r : FileReading) → IsReadingOf profile bytes r → IsReadingSheet r
      read_sheet bytes (Reading s) h = h.0.1.says.is_sheet
      read_sheet bytes (Unreadable f) h = tt

-- The whole office.

pub found_named : (name : List ℕ) (book : SpnBook) (nets : List Net) → All IsNet nets → All (IsEntered book.used) nets
    → IfSome (find (λ net. bytes_eq net.name name) nets) (IsFound name book)
found_named name book [] h k = tt
found_named name book (net ∷ nets) h k =
    cond_both (bytes_eq net.name name) (Some net) (find (λ n. bytes_eq n.name name) nets)
    (λ (o : Option Net). IfSome o (IsFound name book))
    (λ same. record {
      net_is = All-head IsNet net nets h;
      named = (bytes_eq-Decides net.name name).0 same;
      numbers =
          All-head (IsEntered book.used) net nets k;
    })
    (λ _. found_named name book nets (All-tail IsNet net nets h) (All-tail (IsEntered book.used) net nets k))

is_some_any : {A : Type 0} (p : A → Bool) (xs : List A) → is_some (find p xs) ≡ list_any p xs
is_some_any p [] = refl
is_some_any p (x ∷ xs) = by_test (p x) (is_some_any p xs)
  where
    by_test : (b : Bool) → is_some (find p xs) ≡ list_any p xs
        → is_some (cond b (Some x) (find p xs)) ≡ (b || list_any p xs)
    by_test true h = refl
    by_test false h = h

is_there : (nets : List Net) (k : List ℕ) (x : Net) → Contains nets x → bytes_eq x.name k ≡ true
    → is_some (find (λ net. bytes_eq net.name k) nets) ≡ true
is_there nets k x c e =
    is_some_any (λ net. bytes_eq net.name k) nets ∙ list_any_at (λ (net : Net). bytes_eq net.name k) nets c.0 x c.1
    (ap (λ (v : Net). bytes_eq v.name k) c.2 ∙ e)

pub same_text : (a b : List ℕ) → text_cmp a b ≡ Equal → a ≡ b
same_text a b e = (bytes_eq-Decides a b).0 (sym (is_eq-slice_cmp a b) ∙ ap is_eq e)

-- a network that is there still is, under the same name
stays_there : (n : Net) (nets : List Net) (name : List ℕ) → is_some (find (λ net. bytes_eq net.name name) nets) ≡ true
    → is_some (find (λ net. bytes_eq net.name name) (put by_name n nets)) ≡ true
stays_there n nets name h =
    let w = Any-from_list_any (λ (net : Net). bytes_eq net.name name) nets
    (sym (is_some_any (λ net. bytes_eq net.name name) nets) ∙ h) in
    elim (Contains-put_other by_name n w.1 nets (w.0, w.2, w.3)) [
      | inl there ↦ is_there (put by_name n nets) name w.1 there w.4
      | inr equal ↦ is_there (put by_name n nets) name n (Contains-put by_name n nets)
          (subst (λ v. bytes_eq v name ≡ true) (sym (same_text n.name w.1.name equal)) w.4)
    ]

All-put_all : {A : Type 0} (P : A → Type 0) (order : A → A → Ordering) (xs ys : List A) → All P xs → All P ys
    → All P (put_all order xs ys)
All-put_all P order [] ys h k = k
All-put_all P order (x ∷ xs) ys h k =
    All-put_all P order xs (put order x ys) (All-tail P x xs h) (All-put P order x ys (All-head P x xs h) k)

-- the office with what a command leaves
pub IsOffice-after : (o : Office) (name : List ℕ) (n : Net) (e : Entries) → IsOffice o → IsWellLeft name o.book n e
    → IsOffice (record { nets = put by_name n o.nets; book = entered o.book e })
IsOffice-after o name n e h w = record {
  nets = All-put IsNet by_name n o.nets w.net h.nets;
  rising = IsStrictlySortedBy-put by_name (on_total (λ (x : Net). x.name) nat_list_cmp_total) n o.nets h.rising;
  book = w.book_is;
  granted = All-put_all (λ b. is_some (find (λ net. bytes_eq net.name b.net) (put by_name n o.nets)) ≡ true) by_net
      e.blocks o.book.blocks
      (All-weaker (λ b. b.net ≡ name)
      (λ b. is_some (find (λ net. bytes_eq net.name b.net) (put by_name n o.nets)) ≡ true)
      (λ b home. is_there (put by_name n o.nets) b.net n (Contains-put by_name n o.nets)
      ((bytes_eq-Decides n.name b.net).1 (w.named ∙ sym home))) e.blocks w.home)
      (All-weaker (λ b. is_some (net_named o b.net) ≡ true)
      (λ b. is_some (find (λ net. bytes_eq net.name b.net) (put by_name n o.nets)) ≡ true)
      (λ b there. stays_there n o.nets b.net there) o.book.blocks h.granted);
  entered = All-put (IsEntered (entered o.book e).used) by_name n o.nets w.numbers
      (All-weaker (IsEntered o.book.used) (IsEntered (entered o.book e).used)
      (λ net k. IsEntered-more o.book.used (entered o.book e).used net (still_used e.numbers o.book.used) k) o.nets
      h.entered);
}

IsOffice-opening : IsOffice opening
unfolding IsStrictlySortedBy
IsOffice-opening = record {
  nets = All-nil _;
  rising = tt;
  book = record {
    ranges = All-nil _;
    rising = tt;
    apart = λ i j d l w. absurd (omega arith);
    used = record { rising = λ k l. absurd (omega arith); numbers_are = refl };
  };
  granted = All-nil _;
  entered = All-nil _;
}

after_outcome : (o : Office) (name : List ℕ) (out : Outcome) → IsOffice o
    → Leaves (λ r n e. IsWellLeft name o.book n e) out → IsOffice (office_after o out)
after_outcome o name (Refusing r) h w = h
after_outcome o name (Changing r n e) h w = IsOffice-after o name n e h w

IsOffice-step : (profile : Profile) (before after : Office) (team : List ℕ) (c : Command) (reply : Reply)
    → IsOffice before → IsPlainName team → IsCommand c → Step profile before team c reply after → IsOffice after
IsOffice-step profile before after team c reply h plain command step =
    subst IsOffice (sym step.left)
    (after_outcome before c.net (step_outcome before team step.reading c) h
    (well_done team c.net before.book plain command.net h.book profile (net_named before c.net) c.task step.reading
    command.task step.read
    (found_named c.net before.book before.nets h.nets h.entered)))

IsOffice-run : (before after : Office) (requests : List TeamCommand) (replies : List Reply) → IsOffice before
    → AreRequests requests → Run before requests replies after → IsOffice after
IsOffice-run before after [] [] h all run = subst IsOffice (sym run) h
IsOffice-run before after [] (r ∷ replies) h all run = absurd run
IsOffice-run before after (q ∷ requests) [] h all run = absurd run
IsOffice-run before after (q ∷ requests) (r ∷ replies) h all run =
    let first = All-head (λ (p : TeamCommand). IsPlainName p.1 × IsCommand p.2) q requests all in
    IsOffice-run run.0 after requests replies (IsOffice-step q.0 before run.0 q.1 q.2 r h first.0 first.1 run.1)
    (All-tail (λ (p : TeamCommand). IsPlainName p.1 × IsCommand p.2) q requests all) run.2

pub offices_are_kept : OfficesAreKept
offices_are_kept = record { opening_is = IsOffice-opening; step = IsOffice-step; run = IsOffice-run }
