-- Lists in sentences: a few items by name, and how many more there are.
use Rattle.std.specs.Prelude.{ℕ, ◌-◌, ◌==◌, nat_lt, List, [], ◌∷◌, ◌++◌, length, take, codes, decimal, if◌then◌else◌}

-- so many items are named
abbrev pub few_limit : ℕ
few_limit = 5

-- the last item that is named: `a`, or `a and 3 more`
abbrev pub last_listed : List ℕ → ℕ → List ℕ
last_listed a more = if more == 0 then a else a ++ (codes " and " ++ (decimal more ++ codes " more"))

-- what comes before an item that is named after another one, by those that are named after both
abbrev pub joint : List (List ℕ) → ℕ → List ℕ
joint [] more = if more == 0 then codes " and " else codes ", "
joint (c ∷ rest) more = codes ", "

-- an item, and those after it
abbrev pub listed_from : List ℕ → List (List ℕ) → ℕ → List ℕ
listed_from a [] more = last_listed a more
listed_from a (b ∷ rest) more = a ++ (joint rest more ++ listed_from b rest more)

-- `a`, `a and b`, `a, b and c`, `a, b and 3 more`
abbrev pub listed : List (List ℕ) → ℕ → List ℕ
listed [] more = []
listed (a ∷ rest) more = listed_from a rest more

-- the first few of the items, and how many more there are
abbrev pub few_text : List (List ℕ) → List ℕ
few_text items =
    if nat_lt few_limit (length items) then listed (take few_limit items) (length items - few_limit)
    else listed items 0
