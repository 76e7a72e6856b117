-- Things with names, such as the nodes of a sheet or the signals of a message.
use Rattle.std.specs.Prelude.{◌≡◌, ◌≤◌, ℕ, Bool, not, nat_le, List, [], ◌∷◌, length, find, filter, map, Option, Some}
use Rattle.std.specs.Prelude.{None, ⊤, if◌then◌else◌}
use Rattle.std.specs.List.{IsDistinct, list_any}
use Rattle.std.specs.Str.{bytes_eq}
use Rattle.std.specs.BTreeSet.{contains}
use Rattle.base.specs.Keyed.{text_cmp}
use Rattle.base.specs.Refusing.{Test}
use Rattle.dbc_words.specs.Limits.{roster_limit}
use Rattle.dbc_words.specs.declared.fault.SheetCode.{SheetCode}
use Rattle.dbc_words.specs.declared.fault.SheetCode.TheVariants.{DoubleName, TooMany}
use Rattle.dbc_words.specs.declared.name_set.NameSet.{NameSet}

-- whether one of them has the name
abbrev pub has_name : {A : Type 0} → (A → List ℕ) → List A → List ℕ → Bool
has_name name things n = list_any (λ a. bytes_eq (name a) n) things

-- no two of them have the same name
abbrev pub AreNamedApart : {A : Type 0} → (A → List ℕ) → List A → Type 0
AreNamedApart name things = IsDistinct (λ a b. bytes_eq (name a) (name b)) things

-- the thing of a name
abbrev pub thing_named : {A : Type 0} → (A → List ℕ) → List A → List ℕ → Option A
thing_named name things n = find (λ a. bytes_eq (name a) n) things

-- all but the one of this name
abbrev pub without_named : {A : Type 0} → (A → List ℕ) → List A → List ℕ → List A
without_named name things n = filter (λ a. not (bytes_eq (name a) n)) things

-- the things, the one of this name changed
abbrev pub at_named : {A : Type 0} → (A → List ℕ) → (A → A) → List ℕ → List A → List A
at_named name change n things = map (λ a. if bytes_eq (name a) n then change a else a) things

-- why one more, of this name, is refused
abbrev pub roster_tests : {A : Type 0} → (A → List ℕ) → List A → List ℕ → List (Test SheetCode)
roster_tests name things n = record { holds = nat_le roster_limit (length things); refusal = TooMany }
    ∷ record { holds = has_name name things n; refusal = DoubleName } ∷ []

-- whether the set has the name
abbrev pub holds_name : NameSet → List ℕ → Bool
holds_name set n = contains text_cmp set.names n

-- the set has the names of the things
abbrev pub HasNamesOf : {A : Type 0} → (A → List ℕ) → List A → NameSet → Type 0
HasNamesOf name things names = (n : List ℕ) → holds_name names n ≡ has_name name things n

-- an index of the things: their names, or nothing
abbrev pub IsNameIndex : {A : Type 0} → (A → List ℕ) → List A → Option NameSet → Type 0
IsNameIndex name things None = ⊤
IsNameIndex name things (Some names) = HasNamesOf name things names

-- what a search for an index finds: none where two of the things have the same name
abbrev pub IsIndexIff : {A : Type 0} → (A → List ℕ) → List A → Option (Option NameSet) → Type 0
IsIndexIff name things None = ¬ (AreNamedApart name things)
IsIndexIff name things (Some index) = AreNamedApart name things × IsNameIndex name things index

-- what an index is after a change: whether it has a name is a function of the name and of whether it had it
abbrev pub IsIndexBy : (List ℕ → Bool → Bool) → Option NameSet → Option NameSet → Type 0
IsIndexBy change None new = new ≡ None
IsIndexBy change (Some old) None = ⊥
IsIndexBy change (Some old) (Some new) = (n : List ℕ) → holds_name new n ≡ change n (holds_name old n)

-- what a roster keeps: no two of its things have the same name, they are at most as many as the limit, and the index is
-- one of them
pub record IsRoster {A : Type 0} (name : A → List ℕ) (things : List A) (names : Option NameSet) : Type 0 where
  pub apart : AreNamedApart name things
  pub few : length things ≤ roster_limit
  pub index : IsNameIndex name things names
