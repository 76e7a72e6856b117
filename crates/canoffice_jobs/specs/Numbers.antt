-- The numbers that words of the command line give: digits, in a range.
use Rattle.std.specs.Prelude.{◌≡◌, ℕ, List, Option, Some, None, codes}
use Rattle.std.specs.Option.{option_and_then}
use Rattle.base.specs.WholeNumber.{whole_of}
use Rattle.office_views.specs.Word.{between}
use Rattle.std.proofs.Common.{refl}

-- the number of a release, or 0 for the live sheet
abbrev pub release_number : List ℕ → Option ℕ
release_number word = option_and_then (between 0 65535) (whole_of word)

-- the release that is on a page; without a word the live network
abbrev pub page_number : Option (List ℕ) → Option ℕ
page_number None = Some 0
page_number (Some word) = release_number word

-- the number of a port
abbrev pub port_number : List ℕ → Option ℕ
port_number word = option_and_then (between 1 65535) (whole_of word)

-- the number from 1 to the limit that a word gives, or that which is taken where there is no word
abbrev pub number_given : ℕ → ℕ → Option (List ℕ) → Option ℕ
number_given absent limit None = Some absent
number_given absent limit (Some word) = option_and_then (between 1 limit) (whole_of word)

abbrev pub port_given : Option (List ℕ) → Option ℕ
port_given = number_given 8089 65535

abbrev pub count_given : Option (List ℕ) → Option ℕ
count_given = number_given 1000000 1000000

-- how often a request is sent
abbrev pub tries_given : Option (List ℕ) → Option ℕ
tries_given = number_given 3 1000

no_port : port_given None ≡ Some 8089
no_port = refl

greatest_port : port_given (Some (codes "65535")) ≡ Some 65535
greatest_port = refl

port_zero : port_given (Some (codes "0")) ≡ None
port_zero = refl

some_port : port_number (codes "8089") ≡ Some 8089
some_port = refl

no_such_port : port_number (codes "65536") ≡ None
no_such_port = refl

live_sheet : release_number (codes "0") ≡ Some 0
live_sheet = refl

no_release : page_number None ≡ Some 0
no_release = refl

some_release : page_number (Some (codes "2")) ≡ Some 2
some_release = refl

too_many : count_given (Some (codes "1000001")) ≡ None
too_many = refl

no_tries : tries_given None ≡ Some 3
no_tries = refl

greatest_tries : tries_given (Some (codes "1000")) ≡ Some 1000
greatest_tries = refl

too_many_tries : tries_given (Some (codes "1001")) ≡ None
too_many_tries = refl
