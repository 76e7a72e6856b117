-- A sheet takes in a node or a value table that it has room for, and whose name is new.
use Rattle.office_import.proofs.Common.{◌≡◌, ◌≤◌, ◌||◌, ℕ, false, List, [], ◌∷◌, ◌++◌, length, Option, None, sym, ap}
use Rattle.office_import.proofs.Common.{subst, refl, ◌∙◌, arith, bytes_eq, nat_tests, first_refusal, has_name}
use Rattle.office_import.proofs.Common.{node_name, table_name, Sheet, Net, is_too_large}
use Rattle.std.proofs.Common.{length-append, nat_le}
use Rattle.std.specs.List.{AllByRecursion, IsDistinct}
use Rattle.std.proofs.lemmas.Bool.{or_parts}
use Rattle.std.proofs.lemmas.Option.{none-some}
use Rattle.dbc_words.specs.Fault.{IsRefusal}
use Rattle.dbc_words.specs.Limits.{roster_limit}
use Rattle.dbc_words.specs.Named.{AreNamedApart, roster_tests}
use Rattle.dbc_words.specs.declared.fault.SheetCode.{SheetCode}
use Rattle.dbc_words.specs.declared.fault.SheetCode.TheVariants.{DoubleNumber, DoubleName, OutsidePayload, Clash}
use Rattle.dbc_words.specs.declared.fault.SheetCode.TheVariants.{NoMultiplexor, TwoMultiplexors, TooMany, Memory}
use Rattle.dbc_sheet.specs.WellFormed.{AreRostered}
use Rattle.office_rules.proofs.Widened.{widened_roster}
use Rattle.office_import.specs.News.{CanWiden, HasRosters, frame_news}

module _ {A : Type 0} (name : A → List ℕ) where
  -- none of the things before it has its name
  new_name : (before : List A) (x : A) (after : List A) → AreNamedApart name (before ++ x ∷ after)
      → has_name name before (name x) ≡ false
  unfolding IsDistinct
  new_name [] x after h = refl
  new_name (y ∷ before) x after h =
      ap (λ b. b || has_name name before (name x)) (in_middle before h.0) ∙ new_name before x after h.1
    where
      in_middle : (zs : List A) → AllByRecursion (λ z. bytes_eq (name y) (name z) ≡ false) (zs ++ x ∷ after)
          → bytes_eq (name y) (name x) ≡ false
      in_middle [] a = a.0
      in_middle (z ∷ zs) a = in_middle zs a.1

  room : (before : List A) (x : A) (after : List A) → length (before ++ x ∷ after) ≤ roster_limit
      → nat_le roster_limit (length before) ≡ false
  room before x after few = let e = length-append before (x ∷ after) in grind (arith, nat_tests)

  accepted : (before : List A) (x : A) (after : List A) → AreRostered name (before ++ x ∷ after)
      → first_refusal (roster_tests name before (name x)) ≡ None
  accepted before x after h =
      ap (λ b. first_refusal (record { holds = b; refusal = TooMany }
      ∷ record { holds = has_name name before (name x); refusal = DoubleName } ∷ []))
      (room before x after h.few)
      ∙ ap (λ b. first_refusal (record { holds = b; refusal = DoubleName } ∷ [])) (new_name before x after h.apart)

only_memory : (o : Option SheetCode) (code : SheetCode) → o ≡ None → IsRefusal o code → code ≡ Memory
only_memory o DoubleNumber e h = absurd (none-some DoubleNumber (sym e ∙ h))
only_memory o DoubleName e h = absurd (none-some DoubleName (sym e ∙ h))
only_memory o OutsidePayload e h = absurd (none-some OutsidePayload (sym e ∙ h))
only_memory o Clash e h = absurd (none-some Clash (sym e ∙ h))
only_memory o NoMultiplexor e h = absurd (none-some NoMultiplexor (sym e ∙ h))
only_memory o TwoMultiplexors e h = absurd (none-some TwoMultiplexors (sym e ∙ h))
only_memory o TooMany e h = absurd (none-some TooMany (sym e ∙ h))
only_memory o Memory e h = refl

-- one of a roster, after those before it, is refused only where memory runs out
pub memory_alone : {A : Type 0} (name : A → List ℕ) (before : List A) (x : A) (after whole : List A) (code : SheetCode)
    → before ++ x ∷ after ≡ whole → AreRostered name whole
    → IsRefusal (first_refusal (roster_tests name before (name x))) code → code ≡ Memory
memory_alone name before x after whole code e h is =
    only_memory (first_refusal (roster_tests name before (name x))) code
    (accepted name before x after (subst (AreRostered name) (sym e) h)) is

-- where no limit would be passed, the frame takes in what is new
pub can_widen : (net : Net) (s : Sheet) → HasRosters net.head.frame → HasRosters s → is_too_large net s ≡ false
    → CanWiden net.head.frame (frame_news net.head.frame s)
can_widen net s h k small =
    let frame = net.head.frame in
    let rosters = or_parts _ _ (or_parts _ _ small).1 in
    record {
      nodes = widened_roster node_name frame.nodes s.nodes h.nodes k.nodes rosters.0;
      tables = widened_roster table_name frame.tables s.tables h.tables k.tables rosters.1;
    }
