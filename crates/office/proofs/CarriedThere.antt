-- What changes leave of a network that is there and of the book.
use Rattle.office.proofs.Common.{◌≡◌, ◌∙◌, ◌++◌, ℕ, false, List, [], ◌∷◌, Option, Some, None, length, map, refl, sym}
use Rattle.office.proofs.Common.{ap, subst, arith, Err, Ok, OnErr, OnOk, Result, option_map, slice_get, filter_map}
use Rattle.office.proofs.Common.{remove, false≢true, is_taken, SpnBook, Change, SetHead, SetSpnBlock, EnterSpn, Net}
use Rattle.office.proofs.Common.{LiveMessage, live_named, number_in, NetAndBook, all_applied, changed_book, net_changed}
use Rattle.office_types.specs.declared.change.Change.TheVariants.{SetBlock, SetApproval, ClearApprovals, AddRelease}
use Rattle.office_rules.specs.Change.{applied}
use Rattle.office.specs.Indexed.{IsIndexIfThere, live_number, is_of_messages}
use Rattle.office.specs.declared.net_index.NetIndex.{NetIndex}
use Rattle.office.proofs.AppliedToOffice.{changed_there, name_kept}

abbrev both : Net → SpnBook → NetAndBook
both n b = record { net = Some n; book = b }

pub one_there : (name : List ℕ) (c : Change) (n : Net) (b : SpnBook)
    → all_applied name (c ∷ []) (record { net = Some n; book = b }) ≡ both (net_changed c n) (changed_book c b)
one_there name c n b = λ i. record { net = changed_there name c n i; book = changed_book c b }

pub two_there : (name : List ℕ) (c d : Change) (n : Net) (b : SpnBook)
    → all_applied name (c ∷ d ∷ []) (record { net = Some n; book = b }) ≡ both (net_changed d (net_changed c n))
    (changed_book d (changed_book c b))
two_there name c d n b = ap (applied name d) (one_there name c n b)
    ∙ one_there name d (net_changed c n) (changed_book c b)

-- it stays there
pub stays_there : (name : List ℕ) (cs : List Change) (n : Net) (b : SpnBook) (e : NetAndBook)
    → e ≡ all_applied name cs (record { net = Some n; book = b }) → e.net ≡ None → ⊥
stays_there name [] n b e is none = some_none n (sym (ap (λ (v : NetAndBook). v.net) is) ∙ none)
  where
    some_none : (a : Net) → ◌≡◌ {A = Option Net} (Some a) None → ⊥
    some_none a h = cc
stays_there name (c ∷ cs) n b e is none =
    stays_there name cs (net_changed c n) (changed_book c b) e (is ∙ ap (all_applied name cs) (one_there name c n b))
    none

-- and keeps its name
pub keeps_name : (name : List ℕ) (cs : List Change) (n m : Net) (b d : SpnBook)
    → both m d ≡ all_applied name cs (record { net = Some n; book = b }) → m.name ≡ n.name
keeps_name name [] n m b d is = ap (λ (v : NetAndBook). name_of v.net) is
  where
    name_of : Option Net → List ℕ
    name_of None = []
    name_of (Some v) = v.name
keeps_name name (c ∷ cs) n m b d is =
    keeps_name name cs (net_changed c n) m (changed_book c b) d (is ∙ ap (all_applied name cs) (one_there name c n b))
    ∙ name_kept c n

-- an index stays one where neither the live messages nor the held identifiers change
same_index : (o : Option NetIndex) (n m : Net) → m.live ≡ n.live → m.held ≡ n.held → IsIndexIfThere o n
    → IsIndexIfThere o m
same_index None n m live held is = tt
same_index (Some index) n m live held is = record {
  names = λ name. is.names name ∙ ap (λ (l : List LiveMessage). option_map live_number (live_named l name)) (sym live);
  numbers = λ form k. is.numbers form k
      ∙ (λ i. is_taken k (filter_map (number_in form)
      (map (λ (l : LiveMessage). l.message.ident) (sym live i) ++ sym held i)));
}

pub index-kept : (o : Option NetIndex) (n : Net) (c : Change) → is_of_messages c ≡ false → IsIndexIfThere o n
    → IsIndexIfThere o (net_changed c n)
index-kept o n (SetHead h) t is = same_index o n (net_changed (SetHead h) n) refl refl is
index-kept o n (SetBlock g) t is = same_index o n (net_changed (SetBlock g) n) refl refl is
index-kept o n (SetSpnBlock b) t is = is
index-kept o n (EnterSpn k) t is = is
index-kept o n (SetApproval team) t is = same_index o n (net_changed (SetApproval team) n) refl refl is
index-kept o n ClearApprovals t is = same_index o n (net_changed ClearApprovals n) refl refl is
index-kept o n (AddRelease s) t is = same_index o n (net_changed (AddRelease s) n) refl refl is
index-kept o n it t is = absurd (false≢true (sym t))

-- it is still one after such a change, whether that was made or memory ran out
pub index-either : {A E : Type 0} (r : Result A E) (o : Option NetIndex) (n m : Net) (c : Change)
    → is_of_messages c ≡ false → IsIndexIfThere o n → OnOk r (m ≡ net_changed c n)
    → OnErr r (m ≡ n) → IsIndexIfThere o m
index-either (Ok x) o n m c t is ok err = subst (IsIndexIfThere o) (sym ok) (index-kept o n c t is)
index-either (Err e) o n m c t is ok err = subst (IsIndexIfThere o) (sym err) is

-- One change, and two.

some_is : (a b : Change) → ◌≡◌ {A = Option Change} (Some a) (Some b) → a ≡ b
some_is a b e = cc

pub one_is : (cs : List Change) (a : Change) → length cs ≡ 1 → slice_get cs 0 ≡ Some a → cs ≡ a ∷ []
one_is [] a n first = absurd (omega (arith, n))
one_is (x ∷ []) a n first = ap (λ v. v ∷ []) (some_is x a first)
one_is (x ∷ y ∷ cs) a n first = absurd (omega (arith, n))

pub two_are : (cs rest : List Change) (a b : Change) → length cs ≡ 2 → slice_get cs 1 ≡ Some b → rest ≡ remove cs 1
    → slice_get rest 0 ≡ Some a → cs ≡ a ∷ b ∷ []
two_are (x ∷ y ∷ []) rest a b n second left first = λ i. some_is x a (sym (ap (λ cs. slice_get cs 0) left) ∙ first) i
    ∷ some_is y b second i ∷ []
two_are it rest a b n second left first = absurd (omega (arith, n))

-- what holds by two things of which either is there after success
pub by_both : {A E P Q R : Type 0} (r : Result A E) → (P → Q → R) → OnOk r P → OnOk r Q → OnOk r R
by_both (Ok x) f p q = f p q
by_both (Err e) f p q = tt
