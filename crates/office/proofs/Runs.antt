-- Steps of the office, and runs with one step more.
use Rattle.office.proofs.Common.{◌≡◌, ℕ, ◌+◌, ◌<◌, ◌≤◌, zero, suc, List, [], ◌∷◌, ◌++◌, length, take, get_or, set}
use Rattle.office.proofs.Common.{Option, Some, None, refl, sym, ap, subst, ◌∙◌, append_assoc, arith, IsStrictlySortedBy}
use Rattle.office.proofs.Common.{OnErr, Result, Ok, Err, map-append, take_more, by_name, SpnBook, Reply, Net, Office}
use Rattle.office.proofs.Common.{IsOffice, Two, HasRun, Step, net_named, offices_are_kept}
use Rattle.std.specs.Prelude.{IfOk}
use Rattle.office_types.specs.Command.{IsCommand}
use Rattle.office_types.specs.PlainName.{IsPlainName}
use Rattle.office_types.specs.declared.command.Command.{Command}
use Rattle.office_rules.specs.Change.{left_after}
use Rattle.office_rules.specs.Commands.{outcome}
use Rattle.office_rules.specs.Outcome.{Outcome, Refusing, Changing, reply_of}
use Rattle.office_rules.specs.Step.{IsRead, requested_now, Run, file_wanted, office_after, step_outcome}
use Rattle.office_rules.proofs.Runs.{run_more}
use Rattle.office_law.proofs.OrderedNets.{put_there}
use Rattle.office.specs.OfficeApplied.{IsNetFound, with_both}
use Rattle.office.specs.Indexed.{AreIndexes, IsDoneOn, IsIndexIfThere}
use Rattle.office.specs.declared.net_index.NetIndex.{NetIndex}
use Rattle.office.proofs.AppliedToOffice.{index_names, nothing_applied}

-- what an outcome leaves of the network and of the book is what it leaves of the office
left_so : (o : Office) (name : List ℕ) (sorted : IsStrictlySortedBy by_name o.nets) (out : Outcome)
    → with_both o (left_after (record { net = net_named o name; book = o.book }) out) ≡ office_after o out
left_so o name sorted (Refusing r) = sym (nothing_applied o name sorted)
left_so o name sorted (Changing r n e) = refl

-- and is a step of the office, whose network at the index is left so
pub done_step : (o : Office) (i : ℕ) (y n : Net) (book : SpnBook) (team : List ℕ) (c : Command) (reply : Reply)
    → IsStrictlySortedBy by_name o.nets → IsNetFound o c.net (Some i)
    → y ≡ get_or o.nets i y → n.name ≡ y.name
    → IsDoneOn team c (record { net = Some y; book = o.book }) reply (record { net = Some n; book = book })
    → Step Two o team c reply (record { nets = set o.nets i n; book = book })
done_step o i y n book team c reply sorted at is name done =
    let found = index_names o c.net i y at is in
    let there : Option Net → Office =
    λ f. with_both o (left_after (record { net = f; book = o.book }) (outcome team done.reading f o.book c)) in
    record {
      reading = done.reading;
      read = subst (λ f. IsRead Two (file_wanted f c.task) done.reading) (sym found) done.read;
      answered = done.answered ∙ ap (λ f. reply_of (outcome team done.reading f o.book c)) (sym found);
      left =
          ap (λ (ns : List Net). record { nets = ns; book = book }) (sym (put_there o.nets i n y sorted at.0 is name))
          ∙ ap (with_both o) done.left ∙ ap there (sym found)
          ∙ left_so o c.net sorted (step_outcome o team done.reading c);
    }

-- Indexes of networks.

pub indexes-at : (xs : List (Option NetIndex)) (ns : List Net) (i : ℕ) (d : Option NetIndex) (n : Net)
    → AreIndexes xs ns → i < length xs → IsIndexIfThere (get_or xs i d) (get_or ns i n)
indexes-at [] ns i d n h w = absurd (let v : i < 0 = w in omega (arith, v))
indexes-at (x ∷ xs) [] i d n h w = absurd h
indexes-at (x ∷ xs) (m ∷ ns) zero d n h w = h.0
indexes-at (x ∷ xs) (m ∷ ns) (suc i) d n h w = indexes-at xs ns i d n h.1 (omega (arith, w))

pub indexes-set : (xs : List (Option NetIndex)) (ns : List Net) (i : ℕ) (x : Option NetIndex) (n : Net)
    → AreIndexes xs ns → i < length xs → IsIndexIfThere x n → AreIndexes (set xs i x) (set ns i n)
indexes-set [] ns i x n h w new = absurd (let v : i < 0 = w in omega (arith, v))
indexes-set (y ∷ xs) [] i x n h w new = absurd h
indexes-set (y ∷ xs) (m ∷ ns) zero x n h w new = (new, h.1)
indexes-set (y ∷ xs) (m ∷ ns) (suc i) x n h w new = (h.0, indexes-set xs ns i x n h.1 (omega (arith, w)) new)

-- a network after those that have one is changed
pub indexes-past : (xs : List (Option NetIndex)) (ns : List Net) (i : ℕ) (n : Net) → AreIndexes xs ns → length xs ≤ i
    → AreIndexes xs (set ns i n)
indexes-past [] ns i n h past = tt
indexes-past (y ∷ xs) [] i n h past = absurd h
indexes-past (y ∷ xs) (m ∷ ns) zero n h past = absurd (omega (arith, past))
indexes-past (y ∷ xs) (m ∷ ns) (suc i) n h past = (h.0, indexes-past xs ns i n h.1 (omega (arith, past)))

pub indexes-push : (xs : List (Option NetIndex)) (ns : List Net) → AreIndexes xs ns → length xs < length ns
    → AreIndexes (xs ++ None ∷ []) ns
indexes-push [] [] h w = absurd (let v : 0 < 0 = w in omega (arith, v))
indexes-push [] (n ∷ ns) h w = (tt, tt)
indexes-push (x ∷ xs) [] h w = absurd h
indexes-push (x ∷ xs) (n ∷ ns) h w = (h.0, indexes-push xs ns h.1 (omega (arith, w)))

-- the office is as every office is after a step, and where memory ran out, since nothing changed
pub IsOffice-after : {E : Type 0} (o : Office) (nets : List Net) (book : SpnBook) (team : List ℕ) (c : Command)
    (r : Result (Reply × Reply) E)
    → IsOffice o → IsPlainName team → IsCommand c
    → IfOk r (λ both. Step Two o team c both.0 (record { nets = nets; book = book }))
    → OnErr r ((nets ≡ o.nets) × (book ≡ o.book)) → IsOffice (record { nets = nets; book = book })
IsOffice-after o nets book team c (Ok both) is plain in_range step same =
    offices_are_kept.step Two o (record { nets = nets; book = book }) team c both.0 is plain in_range step
IsOffice-after o nets book team c (Err e) is plain in_range step same =
    subst (λ (p : List Net × SpnBook). IsOffice (record { nets = p.0; book = p.1 })) (λ i. (sym same.0 i, sym same.1 i))
    is

pub HasRun-more : (a b c : Office) (requests : List (List ℕ × Command)) (i : ℕ) (q : List ℕ × Command)
    (earlier before after : List Reply) (r : Reply)
    → i < length requests → q ≡ get_or requests i q → HasRun a (take i requests) earlier before b
    → Step Two b q.0 q.1 r c → after ≡ before ++ r ∷ []
    → HasRun a (take (i + 1) requests) earlier after c
HasRun-more a b c requests i q earlier before after r h e has step more = record {
  reported = has.reported ++ r ∷ [];
  added = more ∙ ap (λ (v : List Reply). v ++ r ∷ []) has.added ∙ append_assoc earlier has.reported (r ∷ []);
  run = subst (λ (v : List (List ℕ × Command)). Run a (requested_now v) (has.reported ++ r ∷ []) c)
      (ap (λ (v : List ℕ × Command). take i requests ++ v ∷ []) e ∙ sym (take_more requests i q h))
      (subst (λ v. Run a v (has.reported ++ r ∷ []) c)
      (sym (map-append (λ (v : List ℕ × Command). (Two, v.0, v.1)) (take i requests) (q ∷ [])))
      (run_more a b c (requested_now (take i requests)) has.reported (Two, q.0, q.1) r has.run step));
}
