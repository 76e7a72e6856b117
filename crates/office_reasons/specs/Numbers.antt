-- What is reported of numbers, and of the names of new messages.
use Rattle.std.specs.Prelude.{ℕ, ◌==◌, ◌||◌, ◌&&◌, nat_lt, Bool, false, List, ◌++◌, codes, decimal, if◌then◌else◌}
use Rattle.std.specs.Option.{option_map_or}
use Rattle.can_id.specs.Form.{greatest_number, ident_word}
use Rattle.can_id.specs.declared.form.IdentForm.{IdentForm}
use Rattle.can_id.specs.declared.ident.Ident.{Ident}
use Rattle.dbc_words.specs.Limits.{spn_limit}
use Rattle.office_types.specs.Free.{has_form}
use Rattle.office_types.specs.declared.state.LiveMessage.{LiveMessage}
use Rattle.office_types.specs.declared.state.Net.{Net}
use Rattle.office_rules.specs.Facts.{group_of, lies_in, number_in}
use Rattle.office_reasons.specs.Pieces.{ident_text, shown}
use Rattle.office_reasons.specs.declared.numbers.Pool.{Pool}
use Rattle.office_reasons.specs.declared.numbers.Pool.TheVariants.{Idents, Groups}

-- the identifier takes one of the numbers
abbrev pub takes : Pool → Ident → Bool
takes (Idents form blocks) i = option_map_or (λ n. lies_in n blocks.now) (number_in form i) false
takes (Groups form blocks) i =
    option_map_or (λ n. has_form form n && lies_in n blocks.now) (group_of i) false

abbrev pub beyond_form_text : IdentForm → ℕ → List ℕ
beyond_form_text form n = codes "want=" ++ (decimal n ++ (codes " is no " ++ (ident_word form
    ++ (codes " identifier: these are 0 to " ++ decimal (greatest_number form)))))

-- a live message has a name
abbrev pub there_text : Net → LiveMessage → List ℕ
there_text net m = shown net.name ++ (codes " has a live message " ++ (shown m.message.name
    ++ (codes " already: " ++ (ident_text m.message.ident ++ (codes " of team " ++ shown m.owner)))))

-- a live message has an identifier
abbrev pub live_text : LiveMessage → List ℕ
live_text m = ident_text m.message.ident ++ (codes " is live: " ++ (shown m.message.name
    ++ (codes " of team " ++ (shown m.owner ++ codes " has it"))))

abbrev pub no_spn_text : ℕ → List ℕ
no_spn_text n =
    if (n == 0) || nat_lt spn_limit n
    then codes "same=" ++ (decimal n ++ (codes " is no SPN: these are 1 to " ++ decimal spn_limit))
    else codes "SPN " ++ (decimal n ++ codes " was never given out on any network; without same= a new one is")
