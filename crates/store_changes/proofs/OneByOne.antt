-- Changes written one after the other.
use Rattle.store_changes.proofs.Common.{◌≡◌, ℕ, Bool, true, false, ◌||◌, List, [], ◌∷◌, ◌++◌, Option, Some, None, refl}
use Rattle.store_changes.proofs.Common.{sym, ap, subst, ◌∙◌, false≢true, on_ok_weaker, Sheet, Signal, ValueText}
use Rattle.store_changes.proofs.Common.{SignalPath, LiveMessage, Net, HaveOwnBlocks, IsHeadFirst, NetAndBook}
use Rattle.store_changes.proofs.Common.{all_applied, Tables, AreWritten, AreTextsSet, IsSpnSet, IsTakenOut, IsNetAt}
use Rattle.store_changes.proofs.Common.{first_alone}
use Rattle.std.proofs.Common.{Result, Ok, Err}
use Rattle.std.specs.Prelude.{OnOk}
use Rattle.std.specs.List.{list_any}
use Rattle.sqlite.specs.declared.error.Error.{Error}
use Rattle.office_types.specs.Block.{is_spn}
use Rattle.office_types.specs.declared.change.Change.{Change}
use Rattle.office_types.specs.declared.change.Change.TheVariants.{SetMessage, AddSignal, RemoveSignal, SetSpn}
use Rattle.office_types.specs.declared.change.Change.TheVariants.{SetValues, SetBlock, AddRelease}
use Rattle.office_types.specs.declared.state.GrantedBlock.{GrantedBlock}
use Rattle.office_rules.specs.Change.{applied, changed_net, is_release}
use Rattle.store_rows.specs.Live.{AreLiveRows, live_rows}
use Rattle.store_rows.specs.LiveWritten.{IsSignalAdded, IsLive, with_live}
use Rattle.store_rows.specs.Rows.{next_release}
use Rattle.store_rows.specs.Written.{IsWritten}
use Rattle.store_rows.proofs.Changes.{change_follows, there_after}
use Rattle.store_changes.specs.Writing.{IsNext, next_number}

-- ---- one change

-- of two things that hold where there is no error
pub both_ok : {X : Type 0} {A B C : Type 0} (r : Result X Error) → (A → B → C) → OnOk r A → OnOk r B → OnOk r C
both_ok (Ok x) f one two = f one two
both_ok (Err e) f one two = tt

-- The change was written, from tables that have the network.
abbrev pub WritesAt : List ℕ → Change → Option ℕ → Tables → Tables → Type 0
WritesAt name change number t t2 =
    (net : Option Net) → IsNetAt name t net → IsHeadFirst net (change ∷ []) → HaveOwnBlocks (change ∷ [])
    → IsNext number net (change ∷ []) → IsWritten name change net t t2

-- what is written of a change whatever the network, at a change that is this one
pub any_change : {X : Type 0} (r : Result X Error) (name : List ℕ) (change c : Change) (number : Option ℕ)
    (t t2 : Tables) → change ≡ c
    → OnOk r ((net : Option Net) → IsWritten name c net t t2) → OnOk r (WritesAt name change number t t2)
any_change r name change c number t t2 is =
    on_ok_weaker r (λ written net at first own next. subst (λ d. IsWritten name d net t t2) (sym is) (written net))

pub own_block : {X : Type 0} (r : Result X Error) (name : List ℕ) (change : Change) (g : GrantedBlock)
    (number : Option ℕ) (t t2 : Tables) → change ≡ SetBlock g
    → OnOk r ((net : Option Net) → is_spn g.block.form ≡ false → IsWritten name (SetBlock g) net t t2)
    → OnOk r (WritesAt name change number t t2)
own_block r name change g number t t2 is =
    on_ok_weaker r (λ written net at first own next.
    let spared = subst (λ d. HaveOwnBlocks (d ∷ [])) is own in
    subst (λ d. IsWritten name d net t t2) (sym is) (written net spared.0))

pub whole_message : {X : Type 0} (r : Result X Error) (name : List ℕ) (change : Change) (m : LiveMessage)
    (number : Option ℕ) (t t2 : Tables) → change ≡ SetMessage m
    → OnOk r (IsLive m) → OnOk r (t2 ≡ with_live name m t) → OnOk r (WritesAt name change number t t2)
whole_message r name change m number t t2 is known written =
    any_change r name change (SetMessage m) number t t2 is (both_ok r (λ live same net. (live, same)) known written)

pub added_signal : {X : Type 0} (r : Result X Error) (name : List ℕ) (change : Change) (message : List ℕ) (s : Signal)
    (number : Option ℕ) (t t2 : Tables) → change ≡ AddSignal message s
    → OnOk r ((live : List LiveMessage) → AreLiveRows name (live_rows name t) live
    → IsSignalAdded name message s live t t2) → OnOk r (WritesAt name change number t t2)
added_signal r name change message s number t t2 is =
    on_ok_weaker r (λ written net at first own next.
    subst (λ d. IsWritten name d net t t2) (sym is)
    (by_net net at (subst (λ d. IsHeadFirst net (d ∷ [])) is first) written))
  where
    by_net : (net : Option Net) → IsNetAt name t net → IsHeadFirst net (AddSignal message s ∷ [])
        → ((live : List LiveMessage) → AreLiveRows name (live_rows name t) live
        → IsSignalAdded name message s live t t2) → IsWritten name (AddSignal message s) net t t2
    by_net None at first written = absurd first
    by_net (Some net) at first written = written net.live at.live

pub numbered_signal : {X : Type 0} (r : Result X Error) (name : List ℕ) (change : Change) (path : SignalPath) (n : ℕ)
    (number : Option ℕ) (t t2 : Tables) → change ≡ SetSpn path n
    → OnOk r ((live : List LiveMessage) → AreLiveRows name (live_rows name t) live → IsSpnSet name path n live t t2)
    → OnOk r (WritesAt name change number t t2)
numbered_signal r name change path n number t t2 is =
    on_ok_weaker r (λ written net at first own next.
    subst (λ d. IsWritten name d net t t2) (sym is)
    (by_net net at (subst (λ d. IsHeadFirst net (d ∷ [])) is first) written))
  where
    by_net : (net : Option Net) → IsNetAt name t net → IsHeadFirst net (SetSpn path n ∷ [])
        → ((live : List LiveMessage) → AreLiveRows name (live_rows name t) live → IsSpnSet name path n live t t2)
        → IsWritten name (SetSpn path n) net t t2
    by_net None at first written = absurd first
    by_net (Some net) at first written = written net.live at.live

pub described_signal : {X : Type 0} (r : Result X Error) (name : List ℕ) (change : Change) (path : SignalPath)
    (values : List ValueText) (number : Option ℕ) (t t2 : Tables) → change ≡ SetValues path values
    → OnOk r ((live : List LiveMessage) → AreLiveRows name (live_rows name t) live
    → AreTextsSet name path values live t t2) → OnOk r (WritesAt name change number t t2)
described_signal r name change path values number t t2 is =
    on_ok_weaker r (λ written net at first own next.
    subst (λ d. IsWritten name d net t t2) (sym is)
    (by_net net at (subst (λ d. IsHeadFirst net (d ∷ [])) is first) written))
  where
    by_net : (net : Option Net) → IsNetAt name t net → IsHeadFirst net (SetValues path values ∷ [])
        → ((live : List LiveMessage) → AreLiveRows name (live_rows name t) live
        → AreTextsSet name path values live t t2) → IsWritten name (SetValues path values) net t t2
    by_net None at first written = absurd first
    by_net (Some net) at first written = written net.live at.live

pub removed_signal : {X : Type 0} (r : Result X Error) (name : List ℕ) (change : Change) (path : SignalPath)
    (number : Option ℕ) (t t2 : Tables) → change ≡ RemoveSignal path
    → OnOk r ((live : List LiveMessage) → AreLiveRows name (live_rows name t) live → IsTakenOut name path live t t2)
    → OnOk r (WritesAt name change number t t2)
removed_signal r name change path number t t2 is =
    on_ok_weaker r (λ written net at first own next.
    subst (λ d. IsWritten name d net t t2) (sym is)
    (by_net net at (subst (λ d. IsHeadFirst net (d ∷ [])) is first) written))
  where
    by_net : (net : Option Net) → IsNetAt name t net → IsHeadFirst net (RemoveSignal path ∷ [])
        → ((live : List LiveMessage) → AreLiveRows name (live_rows name t) live → IsTakenOut name path live t t2)
        → IsWritten name (RemoveSignal path) net t t2
    by_net None at first written = absurd first
    by_net (Some net) at first written = written net.live at.live

-- a release, where it has its number
pub added_release : {X : Type 0} (r : Result X Error) (name : List ℕ) (change : Change) (s : Sheet) (number : Option ℕ)
    (n : ℕ) (t t2 : Tables) → change ≡ AddRelease s → number ≡ Some n
    → OnOk r ((net : Net) → n ≡ next_release net → IsWritten name (AddRelease s) (Some net) t t2)
    → OnOk r (WritesAt name change number t t2)
added_release r name change s number n t t2 is some =
    on_ok_weaker r (λ written net at first own next.
    subst (λ d. IsWritten name d net t t2) (sym is)
    (by_net net (subst (λ d. IsHeadFirst net (d ∷ [])) is first)
    (sym some ∙ subst (λ d. IsNext number net (d ∷ [])) is next refl) written))
  where
    same : (m k : ℕ) → ◌≡◌ {A = Option ℕ} (Some m) (Some k) → m ≡ k
    same m k e = cc

    by_net : (net : Option Net) → IsHeadFirst net (AddRelease s ∷ []) → Some n ≡ Some (next_number net)
        → ((net : Net) → n ≡ next_release net → IsWritten name (AddRelease s) (Some net) t t2)
        → IsWritten name (AddRelease s) net t t2
    by_net None first next written = absurd first
    by_net (Some net) first next written = written net (same n (next_release net) next)

-- the first change has own blocks alone, and so do the others
pub own_parts : (c : Change) (cs : List Change) → HaveOwnBlocks (c ∷ cs) → HaveOwnBlocks (c ∷ []) × HaveOwnBlocks cs
own_parts (SetBlock g) cs own = ((own.0, tt), own.1)
own_parts it cs own = (tt, own)

-- ---- changes, one after the other

applied_last : (name : List ℕ) (cs : List Change) (c : Change) (e : NetAndBook)
    → all_applied name (cs ++ c ∷ []) e ≡ applied name c (all_applied name cs e)
applied_last name [] c e = refl
applied_last name (d ∷ cs) c e = applied_last name cs c (applied name d e)

written_last : (name : List ℕ) (cs : List Change) (c : Change) (e : NetAndBook) (t mid t2 : Tables)
    → AreWritten name cs e t mid
    → IsWritten name c (all_applied name cs e).net mid t2 → AreWritten name (cs ++ c ∷ []) e t t2
written_last name [] c e t mid t2 none is = (t2, subst (λ u. IsWritten name c e.net u t2) none is, refl)
written_last name (d ∷ cs) c e t mid t2 w is = (w.0, w.1, written_last name cs c (applied name d e) w.0 mid t2 w.2 is)

-- a next release is one of the first change alone, too
pub next_alone : (number : Option ℕ) (net : Option Net) (c : Change) (rest : List Change) → IsNext number net (c ∷ rest)
    → IsNext number net (c ∷ [])
next_alone number net c rest next one = next (by_test (is_release c) one)
  where
    by_test : (b : Bool) → (b || false) ≡ true → (b || list_any is_release rest) ≡ true
    by_test true e = refl
    by_test false e = absurd (false≢true e)

-- the first changes of a list were written, the others may be, and the next release has the number
pub record AreBegun (name : List ℕ) (done rest : List Change) (e : NetAndBook) (number : Option ℕ)
    (t t2 : Tables) : Type 0 where
  pub written : AreWritten name done e t t2
  pub at : IsNetAt name t2 (all_applied name done e).net
  pub head_first : IsHeadFirst (all_applied name done e).net rest
  pub own : HaveOwnBlocks rest
  pub next : IsNext number (all_applied name done e).net rest

pub none_begun : (name : List ℕ) (cs : List Change) (e : NetAndBook) (number : Option ℕ) (t : Tables)
    → IsNetAt name t e.net → IsHeadFirst e.net cs → HaveOwnBlocks cs → IsNext number e.net cs
    → AreBegun name [] cs e number t t
none_begun name cs e number t at first own next =
    record { written = refl; at = at; head_first = first; own = own; next = next }

pub one_more : (name : List ℕ) (done : List Change) (c : Change) (rest : List Change) (e : NetAndBook)
    (number after : Option ℕ) (t mid t2 : Tables) → AreBegun name done (c ∷ rest) e number t mid
    → IsWritten name c (all_applied name done e).net mid t2
    → IsNext after (changed_net name c (all_applied name done e).net) rest
    → AreBegun name (done ++ c ∷ []) rest e after t t2
one_more name done c rest e number after t mid t2 begun is next =
    let before = all_applied name done e in
    let last = ap (λ (x : NetAndBook). x.net) (applied_last name done c e) in
    let follows = change_follows name c before.net before.book mid t2 (first_alone c before.net rest begun.head_first)
    is in
    record {
      written = written_last name done c e t mid t2 begun.written is;
      at = subst (IsNetAt name t2) (sym last) (follows.here begun.at);
      head_first = subst (λ net. IsHeadFirst net rest) (sym last) (there_after name c before.net rest begun.head_first);
      own = (own_parts c rest begun.own).1;
      next = subst (λ net. IsNext after net rest) (sym last) next;
    }
