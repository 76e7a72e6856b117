-- The text of a decimal reads as the decimal again, its sign apart.
use Rattle.store_rows.proofs.Common.{◌≡◌, ◌∙◌, ℕ, Bool, true, false, List, [], ◌∷◌, ◌++◌, Ok, Err, Result, refl, sym}
use Rattle.store_rows.proofs.Common.{subst, inl, inr, ◌==◌, cases_Bool, eqb-true, IsDecimal, Number}
use Rattle.std.specs.Prelude.{if◌then◌else◌, unsigned_abs}
use Rattle.std.specs.Int.{is_negative}
use Rattle.decimal.specs.Printing.{text_of, unsigned_text}
use Rattle.decimal.specs.Cutting.{cut}
use Rattle.decimal.specs.Reading.{ReadsNumber, reading}
use Rattle.decimal.specs.declared.fault.DecimalFault.{DecimalFault}
use Rattle.decimal.specs.declared.fault.DecimalFault.TheVariants.{NotNumber}
use Rattle.decimal.proofs.Computed.{read_is_reading}
use Rattle.decimal.proofs.ReadsBack.{text_reads}
use Rattle.store_rows.specs.SignalShowing.{without_sign}

pub one_ok : {A E : Type 0} (a b : A) → ◌≡◌ {A = Result A E} (Ok a) (Ok b) → a ≡ b
one_ok a b e = cc

minus_reads : (bs : List ℕ) → reading false (45 ∷ bs) ≡ Err NotNumber
unfolding reading cut
minus_reads bs = refl

never_both : (n : Number) → ◌≡◌ {A = Result Number DecimalFault} (Ok n) (Err NotNumber) → ⊥
never_both n e = cc

-- no number token begins with a minus
no_minus : (bs : List ℕ) (n : Number) → ReadsNumber false (45 ∷ bs) (Ok n) → ⊥
no_minus bs n reads = never_both n (read_is_reading false (45 ∷ bs) (Ok n) reads ∙ minus_reads bs)

abbrev pub ReadsSigned : Bool × List ℕ → Number → Type 0
ReadsSigned parts n = ReadsNumber parts.0 parts.1 (Ok n)

unsigned_reads : (bs : List ℕ) (n : Number) → ReadsNumber false bs (Ok n) → ReadsSigned (without_sign bs) n
unsigned_reads [] n reads = reads
unsigned_reads (b ∷ bs) n reads = elim (cases_Bool (b == 45)) [
  | inl minus ↦ absurd (no_minus bs n
      (subst (λ (c : ℕ). ReadsNumber false (c ∷ bs) (Ok n)) (eqb-true b 45 minus) reads))
  | inr other ↦ subst (λ (t : Bool). ReadsSigned (if t then (true, bs) else (false, b ∷ bs)) n) (sym other) reads
]

by_sign : (t : Bool) (bs : List ℕ) (n : Number) → ReadsNumber t bs (Ok n)
    → ReadsSigned (without_sign ((if t then 45 ∷ [] else []) ++ bs)) n
by_sign true bs n reads = reads
by_sign false bs n reads = unsigned_reads bs n reads

pub text_reads_signed : (n : Number) → IsDecimal n → ReadsSigned (without_sign (text_of n)) n
text_reads_signed n is = by_sign (is_negative n.mantissa) (unsigned_text (unsigned_abs n.mantissa) n.exponent) n
    (text_reads n is)
