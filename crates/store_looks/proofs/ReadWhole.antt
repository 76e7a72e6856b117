-- A network that is read with its releases or without them, and the names that are read beside it.
use Rattle.store_looks.proofs.Common.{◌≡◌, ◌∙◌, ℕ, Bool, true, false, List, [], map, Option, Some, None, refl, sym}
use Rattle.store_looks.proofs.Common.{subst, option_map, with_releases, Net}
use Rattle.std.specs.Prelude.{is_some}
use Rattle.store_looks.specs.Read.{names_read, read_so}

whole : (net : Option Net) → option_map (read_so true) net ≡ net
whole None = refl
whole (Some net) = refl

pub read_whole : (releases : Bool) (net found : Option Net) → releases ≡ true → found ≡ net
    → found ≡ option_map (read_so releases) net
read_whole releases net found with_them is =
    is ∙ sym (whole net) ∙ subst (λ r. option_map (read_so true) net ≡ option_map (read_so r) net) (sym with_them) refl

pub read_bare : (releases : Bool) (net found : Option Net) → releases ≡ false
    → found ≡ option_map (with_releases []) net → found ≡ option_map (read_so releases) net
read_bare releases net found without is =
    is ∙ subst (λ r. option_map (read_so false) net ≡ option_map (read_so r) net) (sym without) refl

-- where the network was found, no name is read
pub none_named : (releases : Bool) (held found : Option Net) (nets : List Net) (names : List (List ℕ))
    → found ≡ option_map (read_so releases) held → is_some found ≡ true → names ≡ [] → names ≡ names_read held nets
none_named releases None found nets names is there none = absurd (cc)
none_named releases (Some held) found nets names is there none = none

-- where it wasn't, all are
pub all_named : (releases : Bool) (held found : Option Net) (nets : List Net) (names : List (List ℕ))
    → found ≡ option_map (read_so releases) held → is_some found ≡ false → names ≡ map (λ (net : Net). net.name) nets
    → names ≡ names_read held nets
all_named releases None found nets names is missing all = all
all_named releases (Some held) found nets names is missing all = absurd (cc)
