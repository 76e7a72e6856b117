-- A list of arrivals, and one more.
use Rattle.store.proofs.Common.{◌≡◌, ◌⊎◌, inl, inr, true, false, List, [], ◌∷◌, ◌++◌, length, Ok, Err, Result, refl}
use Rattle.store.proofs.Common.{sym, ap, subst, ◌∙◌, arith, All, IfErr, IfOk, IsErr, IsTrue, OnErr, cases_Bool}
use Rattle.store.proofs.Common.{All-contains, All-push, Database, state, HasCleanDisk, State, Trees, Ghosts, Answer}
use Rattle.store.proofs.Common.{Arrival, Answered, first_of, IsInRange, AreOffice, reported}
use Rattle.std.proofs.Common.{append_assoc, append-nil, length-append}
use Rattle.std.specs.Option.{option_or}
use Rattle.std.specs.Prelude.{Bool, Option, Some, None, ◌↔◌, IsSome}
use Rattle.std.proofs.lemmas.List.Elements.{Contains-append_left, Contains-push}
use Rattle.std.proofs.lemmas.List.Folds.{find-append}
use Rattle.office_history.specs.History.{IsLegalHistory, same_pair}
use Rattle.office_law.proofs.Lists.{All-from_contains}
use Rattle.store.specs.declared.lost.Lost.{Lost}
use Rattle.store.specs.declared.lost.Lost.TheVariants.{Memory, NewerProfile, OlderProfile, Store}
use Rattle.store.specs.Calls.{LeavesStatistics}
use Rattle.store.specs.Lost.{IsOfCall}
use Rattle.store.specs.Holding.{Holding, Keeps, Leaves}
use Rattle.store.specs.Office.{OfficeView}
use Rattle.store.specs.Opening.{HasSameStatistics, HasTables, StatisticsStay}
use Rattle.store.proofs.Statistics.{same_after, same_if_now, stay_then}
use Rattle.store.specs.Headline.{HasRunOnTables}
use Rattle.store.specs.Running.{FailsBy, IsNoProfile, KeepsWithOne, answered_of, is_failure, lost_of}

-- ---- one more arrival

answered_more : (xs : List Arrival) (rs : List (Result Answer Lost)) (a : Arrival) (answer : Answer)
    → length rs ≡ length xs
    → answered_of (xs ++ a ∷ []) (rs ++ Ok answer ∷ []) ≡ answered_of xs rs ++ reported a answer ∷ []
answered_more [] [] a answer each = refl
answered_more [] (r ∷ rs) a answer each = absurd (omega (arith, each))
answered_more (x ∷ xs) [] a answer each = absurd (omega (arith, each))
answered_more (x ∷ xs) (Ok b ∷ rs) a answer each =
    ap (◌∷◌ (reported x b)) (answered_more xs rs a answer (omega (arith, each)))
answered_more (x ∷ xs) (Err lost ∷ rs) a answer each = answered_more xs rs a answer (omega (arith, each))

answered_same : (xs : List Arrival) (rs : List (Result Answer Lost)) (a : Arrival) (lost : Lost) → length rs ≡ length xs
    → answered_of (xs ++ a ∷ []) (rs ++ Err lost ∷ []) ≡ answered_of xs rs
answered_same [] [] a lost each = refl
answered_same [] (r ∷ rs) a lost each = absurd (omega (arith, each))
answered_same (x ∷ xs) [] a lost each = absurd (omega (arith, each))
answered_same (x ∷ xs) (Ok b ∷ rs) a lost each =
    ap (◌∷◌ (reported x b)) (answered_same xs rs a lost (omega (arith, each)))
answered_same (x ∷ xs) (Err e ∷ rs) a lost each = answered_same xs rs a lost (omega (arith, each))

lost_more : (xs : List Arrival) (rs : List (Result Answer Lost)) (a : Arrival) (lost : Lost) → length rs ≡ length xs
    → lost_of (xs ++ a ∷ []) (rs ++ Err lost ∷ []) ≡ lost_of xs rs ++ a ∷ []
lost_more [] [] a lost each = refl
lost_more [] (r ∷ rs) a lost each = absurd (omega (arith, each))
lost_more (x ∷ xs) [] a lost each = absurd (omega (arith, each))
lost_more (x ∷ xs) (Ok b ∷ rs) a lost each = lost_more xs rs a lost (omega (arith, each))
lost_more (x ∷ xs) (Err e ∷ rs) a lost each = ap (◌∷◌ x) (lost_more xs rs a lost (omega (arith, each)))

each_more : {X Y : Type 0} (xs : List X) (ys : List Y) (x : X) (y : Y) → length ys ≡ length xs
    → length (ys ++ y ∷ []) ≡ length (xs ++ x ∷ [])
each_more xs ys x y each =
    let a = length-append xs (x ∷ []) in let b = length-append ys (y ∷ []) in omega (arith, a, b, each)

-- one of the lost arrivals is one of more of them
still_one : (h : List Answered) (lost : List Arrival) (a : Arrival) (db : Trees) → KeepsWithOne h lost db
    → KeepsWithOne h (lost ++ a ∷ []) db
still_one h lost a db (inl keeps) = inl keeps
still_one h lost a db (inr one) = inr (one.0, Contains-append_left lost (a ∷ []) one.0 one.1, one.2, one.3)

-- a history that tables hold is legal
legal_of : (h : List Answered) (s : State) → Holding h s → IsLegalHistory h
legal_of h s holding = (holding.keeps.holds.holds.office, holding.keeps.holds.holds.legal)

ranged_of : (h : List Answered) (s : State) → Holding h s → All IsInRange h
ranged_of h s holding = holding.keeps.holds.holds.in_range

-- ---- whether it has failed

is_failure_by : (r : Result Answer Lost) (after : Bool) → (IsTrue after ↔ (r ≡ Err Store)) → after ≡ is_failure r
is_failure_by (Ok answer) true failed = absurd (let e = failed.0 refl in cc)
is_failure_by (Ok answer) false failed = refl
is_failure_by (Err Store) true failed = refl
is_failure_by (Err Store) false failed = absurd (let e = failed.1 refl in cc)
is_failure_by (Err Memory) true failed = absurd (let e = failed.0 refl in cc)
is_failure_by (Err Memory) false failed = refl
is_failure_by (Err NewerProfile) true failed = absurd (let e = failed.0 refl in cc)
is_failure_by (Err NewerProfile) false failed = refl
is_failure_by (Err OlderProfile) true failed = absurd (let e = failed.0 refl in cc)
is_failure_by (Err OlderProfile) false failed = refl

pub fails_more : (before mid after : Bool) (rs : List (Result Answer Lost)) (r : Result Answer Lost)
    → FailsBy before rs mid → (IsTrue after ↔ (r ≡ Err Store)) → (IsTrue mid → IsTrue after)
    → FailsBy before (rs ++ r ∷ []) after
fails_more before mid after [] r same failed stays =
    (λ was. failed.0 (stays (same ∙ was)), is_failure_by r after failed)
fails_more before mid after (x ∷ rs) r by failed stays =
    (by.0, fails_more (is_failure x) mid after rs r by.1 failed stays)

pub named_more : (rs : List (Result Answer Lost)) (r : Result Answer Lost) → All IsNoProfile rs → IfErr r IsOfCall
    → All IsNoProfile (rs ++ r ∷ [])
named_more rs r all named = All-push IsNoProfile rs r all (is_named r named)
  where
    is_named : (r : Result Answer Lost) → IfErr r IsOfCall → IsNoProfile r
    is_named (Ok answer) named = ((λ e. cc), (λ e. cc))
    is_named (Err lost) named = (
      (λ e. named.0 (let it : lost ≡ NewerProfile = cc in it)),
      (λ e. named.1 (let it : lost ≡ OlderProfile = cc in it)),
    )

-- unless the office has failed, a loss is that memory ran out
by_memory : (after : Bool) (lost : Lost) → (IsTrue after ↔ (◌≡◌ {A = Result Answer Lost} (Err lost) (Err Store)))
    → IsOfCall lost → after ≡ false → lost ≡ Memory
by_memory after Memory failed named working = refl
by_memory after Store failed named working = absurd (let both : true ≡ false = sym (failed.1 refl) ∙ working in cc)
by_memory after NewerProfile failed named working = absurd (named.0 refl)
by_memory after OlderProfile failed named working = absurd (named.1 refl)

-- ---- what is held after it

-- no arrival leaves the history as it is
pub run_none : (h : List Answered) (failed : Bool) (s : State) → (failed ≡ false → IsTrue s.is_open) → Holding h s
    → Leaves (Keeps h) s → HasRunOnTables h [] [] failed s
run_none h failed s is_open holding left = record {
  each = refl;
  legal = subst IsLegalHistory (sym (append-nil h)) (legal_of h s holding);
  in_range = subst (All IsInRange) (sym (append-nil h)) (ranged_of h s holding);
  is_open = is_open;
  held = λ now. subst (λ l. Holding l s) (sym (append-nil h)) holding;
  left = λ db may. inl (subst (λ l. Keeps l db) (sym (append-nil h)) (left db may));
}

module _ {S : Type 0} (g : Ghosts S) (h : List Answered) (xs : List Arrival) (rs : List (Result Answer Lost))
    (a : Arrival) (old new : OfficeView S) (before : HasRunOnTables h xs rs old.failed (state g old.conn)) where
  -- a failed office answers nothing, and stays as it is
  failed_more : (lost : Lost) → old.failed ≡ true → HasRunOnTables h (xs ++ a ∷ []) (rs ++ Err lost ∷ []) old.failed
      (state g old.conn)
  failed_more lost failed = record {
    each = each_more xs rs a (Err lost) before.each;
    legal = subst (λ l. IsLegalHistory (h ++ l)) (sym (answered_same xs rs a lost before.each)) before.legal;
    in_range = subst (λ l. All IsInRange (h ++ l)) (sym (answered_same xs rs a lost before.each)) before.in_range;
    is_open = λ working. absurd (let both : true ≡ false = sym failed ∙ working in cc);
    held = λ now. subst (λ l. Holding (h ++ l) (state g old.conn)) (sym (answered_same xs rs a lost before.each))
        (before.held now);
    left = λ db may. subst (λ l. KeepsWithOne (h ++ l) (lost_of (xs ++ a ∷ []) (rs ++ Err lost ∷ [])) db)
        (sym (answered_same xs rs a lost before.each))
        (subst (λ l. KeepsWithOne (h ++ answered_of xs rs) l db) (sym (lost_more xs rs a lost before.each))
        (still_one (h ++ answered_of xs rs) (lost_of xs rs) a db (before.left db may)));
  }

  -- an answer goes into the history
  answered_next : (answer : Answer) → Holding ((h ++ answered_of xs rs) ++ reported a answer ∷ []) (state g new.conn)
      → Leaves (Keeps ((h ++ answered_of xs rs) ++ reported a answer ∷ [])) (state g new.conn)
      → HasRunOnTables h (xs ++ a ∷ []) (rs ++ Ok answer ∷ []) new.failed (state g new.conn)
  answered_next answer holding left =
      let line = append_assoc h (answered_of xs rs) (reported a answer ∷ [])
      ∙ ap (λ l. h ++ l) (sym (answered_more xs rs a answer before.each)) in
      record {
        each = each_more xs rs a (Ok answer) before.each;
        legal = subst IsLegalHistory line (legal_of ((h ++ answered_of xs rs) ++ reported a answer ∷ [])
            (state g new.conn) holding);
        in_range = subst (All IsInRange) line (ranged_of ((h ++ answered_of xs rs) ++ reported a answer ∷ [])
            (state g new.conn) holding);
        is_open = λ _. holding.is_open;
        held = λ now. subst (λ l. Holding l (state g new.conn)) line holding;
        left = λ db may. inl (subst (λ l. Keeps l db) line (left db may));
      }

  -- a loss leaves the history, or a crash may leave it with that arrival
  lost_next : (lost : Lost) → (new.failed ≡ false → IsTrue (state g new.conn).is_open)
      → (IsTrue (state g new.conn).is_open → Holding (h ++ answered_of xs rs) (state g new.conn))
      → Leaves (λ db. Keeps (h ++ answered_of xs rs) db
      ⊎ ((answer : Answer) × Keeps ((h ++ answered_of xs rs) ++ reported a answer ∷ []) db)) (state g new.conn)
      → HasRunOnTables h (xs ++ a ∷ []) (rs ++ Err lost ∷ []) new.failed (state g new.conn)
  lost_next lost is_open held left =
      let same = answered_same xs rs a lost before.each in
      record {
        each = each_more xs rs a (Err lost) before.each;
        legal = subst (λ l. IsLegalHistory (h ++ l)) (sym same) before.legal;
        in_range = subst (λ l. All IsInRange (h ++ l)) (sym same) before.in_range;
        is_open = is_open;
        held = λ now. subst (λ l. Holding (h ++ l) (state g new.conn)) (sym same) (held now);
        left = λ db may. subst (λ l. KeepsWithOne (h ++ l) (lost_of (xs ++ a ∷ []) (rs ++ Err lost ∷ [])) db) (sym same)
            (subst (λ l. KeepsWithOne (h ++ answered_of xs rs) l db) (sym (lost_more xs rs a lost before.each))
            (elim (left db may) [
              | inl keeps ↦ inl keeps
              | inr one ↦ inr (a, Contains-push (lost_of xs rs) a, one.0, one.1)
            ]));
      }

  pub run_more : (r : Result Answer Lost) → (IsTrue new.failed ↔ (r ≡ Err Store)) → (IsTrue old.failed → new ≡ old)
      → IfErr r IsOfCall
      → ((k : List Answered) → Holding k (state g old.conn)
      → IfOk r (λ answer. Holding (k ++ reported a answer ∷ []) (state g new.conn)
      × Leaves (Keeps (k ++ reported a answer ∷ [])) (state g new.conn)))
      → ((k : List Answered) → Holding k (state g old.conn) → IsTrue (state g new.conn).is_open
      → OnErr r (Holding k (state g new.conn)))
      → IfErr r (λ lost. lost ≡ Memory → IsTrue (state g new.conn).is_open)
      → ((k : List Answered) → Holding k (state g old.conn)
      → OnErr r (Leaves (λ db. Keeps k db ⊎ ((answer : Answer) × Keeps (k ++ reported a answer ∷ []) db))
      (state g new.conn)))
      → HasRunOnTables h (xs ++ a ∷ []) (rs ++ r ∷ []) new.failed (state g new.conn)
  run_more (Ok answer) failed refused named answered lost is_open left = elim (cases_Bool old.failed) [
    | inl over ↦ absurd (let both = failed.0 (ap (λ (o : OfficeView S). o.failed) (refused over) ∙ over) in cc)
    | inr working ↦ let both = answered (h ++ answered_of xs rs) (before.held (before.is_open working)) in
        answered_next answer both.0 both.1
  ]
  run_more (Err e) failed refused named answered lost is_open left = elim (cases_Bool old.failed) [
    | inl over ↦ subst (λ (o : OfficeView S). HasRunOnTables h (xs ++ a ∷ []) (rs ++ Err e ∷ []) o.failed
        (state g o.conn))
        (sym (refused over)) (failed_more e over)
    | inr working ↦
        let held = before.held (before.is_open working) in
        lost_next e (λ fine. is_open (by_memory new.failed e failed named fine))
        (λ now. lost (h ++ answered_of xs rs) held now) (left (h ++ answered_of xs rs) held)
  ]

-- ---- statistics

-- those of the first state are those of the last, in what it shows while it is open and in whatever more a crash
-- leaves of it
abbrev pub KeepThose : State → State → Type 0
KeepThose first last = (IsTrue last.is_open → HasSameStatistics first.now last.now)
    × Leaves (λ db. first.may_leave db ⊎ StatisticsStay first.now db) last

pub keep_at_first : (s : State) → KeepThose s s
keep_at_first s = ((λ is_open. same_if_now s.now s.now refl), (λ db may. inl may))

pub keep_more : {S : Type 0} (g : Ghosts S) (first : State) (old new : OfficeView S) → (IsTrue old.failed → new ≡ old)
    → (old.failed ≡ false → HasTables (state g old.conn)) → KeepThose first (state g old.conn)
    → (HasTables (state g old.conn) → IsTrue (state g new.conn).is_open
    → HasSameStatistics (state g old.conn).now (state g new.conn).now) → HasCleanDisk (state g new.conn)
    → LeavesStatistics g old.conn new.conn → KeepThose first (state g new.conn)
keep_more {S} g first old new refused has before shown clean leaves = elim (cases_Bool old.failed) [
  | inl over ↦ subst (λ (o : OfficeView S). KeepThose first (state g o.conn)) (sym (refused over)) before
  | inr working ↦
      let tables = has working in
      let same = before.0 tables.is_open in (
        (λ now. same_after first.now (state g old.conn).now (state g new.conn).now same (shown tables now)),
        (λ db left. elim (leaves.crash clean db left) [
          | inl was ↦ before.1 db was
          | inr stay ↦ inr (stay_then first.now (state g old.conn).now db same (stay tables))
        ]),
      )
]

-- ---- where nothing new was answered

-- the tables of the last state are those of the first
abbrev pub IsSame : State → State → Type 0
IsSame first last = (last.now ≡ first.now) × (last.committed ≡ first.committed)

same_then : (a b c : State) → IsSame a b → IsSame b c → IsSame a c
same_then a b c one two = (two.0 ∙ one.0, two.1 ∙ one.1)

-- what holds of the results holds of those before the last one, and of that
before_last : {X : Type 0} (P : X → Type 0) (rs : List X) (r : X) → All P (rs ++ r ∷ []) → All P rs
before_last P rs r all =
    All-from_contains P rs (λ x within. All-contains P (rs ++ r ∷ []) x all (Contains-append_left rs (r ∷ []) x within))

the_last : {X : Type 0} (P : X → Type 0) (rs : List X) (r : X) → All P (rs ++ r ∷ []) → P r
the_last P rs r all = All-contains P (rs ++ r ∷ []) r all (Contains-push rs r)

-- the tables are as before while the connection is open, which it is unless the office has failed
abbrev pub IsAsBefore : Bool → State → State → Type 0
IsAsBefore failed first last = (failed ≡ false → IsTrue last.is_open) × (IsTrue last.is_open → IsSame first last)

module _ {S : Type 0} (g : Ghosts S) (first : State) (old new : OfficeView S) where
  -- one more arrival was lost
  lost_again : (r : Result Answer Lost) → IsErr r → HasTables first → IsAsBefore old.failed first (state g old.conn)
      → (IsTrue new.failed ↔ (r ≡ Err Store)) → (IsTrue old.failed → new ≡ old) → IfErr r IsOfCall
      → (HasTables (state g old.conn) → IsTrue (state g new.conn).is_open
      → OnErr r (IsSame (state g old.conn) (state g new.conn)))
      → IfErr r (λ lost. lost ≡ Memory → IsTrue (state g new.conn).is_open)
      → IsAsBefore new.failed first (state g new.conn)
  lost_again (Ok answer) lost tables before failed refused named same is_open = absurd (cc)
  lost_again (Err e) lost tables before failed refused named same is_open = elim (cases_Bool old.failed) [
    | inl over ↦ subst (λ (o : OfficeView S). IsAsBefore o.failed first (state g o.conn)) (sym (refused over)) before
    | inr working ↦
        let opened = before.0 working in
        let was = before.1 opened in
        let held : HasTables (state g old.conn) =
        record {
          is_open = opened;
          office = subst (λ (d : Database). AreOffice d.trees) (sym was.0) tables.office;
        } in (
          (λ fine. is_open (by_memory new.failed e failed named fine)),
          (λ now. same_then first (state g old.conn) (state g new.conn) was (same held now)),
        )
  ]

  pub lost_more_same : (rs : List (Result Answer Lost)) (r : Result Answer Lost) → HasTables first
      → (All IsErr rs → IsAsBefore old.failed first (state g old.conn))
      → (IsTrue new.failed ↔ (r ≡ Err Store)) → (IsTrue old.failed → new ≡ old) → IfErr r IsOfCall
      → (HasTables (state g old.conn) → IsTrue (state g new.conn).is_open
      → OnErr r (IsSame (state g old.conn) (state g new.conn)))
      → IfErr r (λ lost. lost ≡ Memory → IsTrue (state g new.conn).is_open) → All IsErr (rs ++ r ∷ [])
      → IsAsBefore new.failed first (state g new.conn)
  lost_more_same rs r tables before failed refused named same is_open lost =
      lost_again r (the_last IsErr rs r lost) tables (before (before_last IsErr rs r lost)) failed refused named same
      is_open

-- an arrival of the history repeats, also where more came after it
repeats_later : (h k : List Answered) (a : Answered) → IsSome (first_of h a) → IsSome (first_of (h ++ k) a)
repeats_later h k a some =
    subst IsSome (sym (find-append (λ b. same_pair b a) h k)) (stays (first_of h a) (first_of k a) some)
  where
    stays : (one two : Option Answered) → IsSome one → IsSome (option_or one two)
    stays (Some f) two some = some
    stays None two some = absurd (cc)

abbrev pub Repeats : List Answered → Answered → Type 0
Repeats h a = IsSome (first_of h a)

module _ {S : Type 0} (g : Ghosts S) (first : State) (h : List Answered) (xs : List Arrival)
    (rs : List (Result Answer Lost)) (a : Arrival) (old new : OfficeView S)
    (ran : HasRunOnTables h xs rs old.failed (state g old.conn)) where
  pub repeated_more : (r : Result Answer Lost)
      → (All (Repeats h) (answered_of xs rs) → IsTrue (state g old.conn).is_open → IsSame first (state g old.conn))
      → (IsTrue new.failed ↔ (r ≡ Err Store)) → (IsTrue old.failed → new ≡ old)
      → ((k : List Answered) → Holding k (state g old.conn) → IfOk r (λ answer. IsSome (first_of k (reported a answer))
      → IsSame (state g old.conn) (state g new.conn)))
      → (HasTables (state g old.conn) → IsTrue (state g new.conn).is_open
      → OnErr r (IsSame (state g old.conn) (state g new.conn)))
      → All (Repeats h) (answered_of (xs ++ a ∷ []) (rs ++ r ∷ [])) → IsTrue (state g new.conn).is_open
      → IsSame first (state g new.conn)
  repeated_more (Ok answer) before failed refused again same repeats now = elim (cases_Bool old.failed) [
    | inl over ↦ absurd (let both = failed.0 (ap (λ (o : OfficeView S). o.failed) (refused over) ∙ over) in cc)
    | inr working ↦
        let all = subst (All (Repeats h)) (answered_more xs rs a answer ran.each) repeats in
        let opened = ran.is_open working in
        let this = repeats_later h (answered_of xs rs) (reported a answer) (the_last (Repeats h) (answered_of xs rs)
        (reported a answer) all) in
        same_then first (state g old.conn) (state g new.conn)
        (before (before_last (Repeats h) (answered_of xs rs) (reported a answer) all) opened)
        (again (h ++ answered_of xs rs) (ran.held opened) this)
  ]
  repeated_more (Err e) before failed refused again same repeats now =
      let earlier = subst (All (Repeats h)) (answered_same xs rs a e ran.each) repeats in
      elim (cases_Bool old.failed) [
        | inl over ↦ subst (λ (o : OfficeView S). IsTrue (state g o.conn).is_open → IsSame first (state g o.conn))
            (sym (refused over)) (before earlier) now
        | inr working ↦
            let opened = ran.is_open working in
            let held : HasTables (state g old.conn) =
            record { is_open = opened; office = (ran.held opened).keeps.office } in
            same_then first (state g old.conn) (state g new.conn) (before earlier opened) (same held now)
      ]
