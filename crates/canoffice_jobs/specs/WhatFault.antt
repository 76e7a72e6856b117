-- Why nothing is shown of a network by the words after its name.
use Rattle.std.specs.Prelude.{◌≡◌, ℕ, Bool, false, true, List, Option, None, Some}
use Rattle.canoffice_jobs.specs.What.{fits, what_given, what_of}
use Rattle.canoffice_jobs.specs.declared.what.WhatFault.{WhatFault}
use Rattle.canoffice_jobs.specs.declared.what.WhatFault.TheVariants.{NameAfter, NoName, NoNet, Unknown}

-- the word is there and names nothing; or what it names needs a name, and none follows; or that takes none, and this one
-- follows; or JSON is wanted without a network
abbrev pub IsWhatFault : Option (List ℕ) → Option (List ℕ) → Option (List ℕ) → Bool → WhatFault → Type 0
IsWhatFault net word name json (Unknown wrong) = (word ≡ Some wrong.now) × (what_of wrong.now ≡ None)
IsWhatFault net word name json (NoName what) =
    (what_given word ≡ Some what) × (name ≡ None) × (fits what false ≡ false)
IsWhatFault net word name json (NameAfter what wrong) =
    (what_given word ≡ Some what) × (name ≡ Some wrong.now) × (fits what true ≡ false)
IsWhatFault net word name json NoNet = (net ≡ None) × (json ≡ true)
