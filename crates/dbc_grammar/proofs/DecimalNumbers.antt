-- The numbers of number tokens, by the equation of values.
use Rattle.dbc_grammar.proofs.Common.{◌≡◌, ◌↔◌, Bool, true, false, List, ℕ, Some, None, Result, Ok, Err, refl, ap}
use Rattle.dbc_grammar.proofs.Common.{if◌then◌else◌, IsDecimal, Number}
use Rattle.std.specs.Result.{result_ok}
use Rattle.std.proofs.lemmas.Bool.{false≢true}
use Rattle.decimal.specs.Reading.{ReadsNumber, ReadingsAreComputed, reading}
use Rattle.decimal.specs.Spelling.{Writes}
use Rattle.decimal.specs.declared.fault.DecimalFault.{DecimalFault}
use Rattle.dbc_grammar.specs.Fields.{NumbersAreDecimals, is_a}
use Rattle.dbc_grammar.specs.declared.token.TokenKind.TheVariants.{Number as NumberKind}

some_ok : (r : Result Number DecimalFault) (n : Number) → result_ok r ≡ Some n → r ≡ Ok n
some_ok (Ok m) n e = cc
some_ok (Err fault) n e = cc

-- a number token or none, and what reading its text gives
by_kind : (negative : Bool) (text : List ℕ) (n : Number)
    → (ReadsNumber negative text (Ok n) ↔ (reading negative text ≡ Ok n)) → (kind : Bool)
    → ((if kind then result_ok (reading negative text) else None) ≡ Some n)
    ↔ ((kind ≡ true) × Writes negative text n × IsDecimal n)
by_kind negative text n law false = (λ e. cc, λ h. absurd (false≢true h.0))
by_kind negative text n law true = (
  λ e. let reads = law.1 (some_ok (reading negative text) n e) in (refl, reads.0, reads.1),
  λ h. ap result_ok (law.0 (h.1, h.2)),
)

pub numbers_are_decimals : ReadingsAreComputed → NumbersAreDecimals
numbers_are_decimals law negative t n = by_kind negative t.text n (law negative t.text (Ok n)) (is_a NumberKind t)
