-- The tables of bytes, byte by byte.
use Rattle.std.proofs.Common.{◌≡◌, ◌==◌, ℕ, ◌<◌, ◌≤◌, ◌⊎◌, Bool, false, List, map, Option, None, unwrap_or, inl, inr}
use Rattle.std.proofs.Common.{sym, ap, ◌∙◌, arith}
use Rattle.std.specs.List.{range_with_len, slice_get}
use Rattle.std.proofs.lemmas.Bool.{cases_lt}
use Rattle.std.proofs.lemmas.Bool.Decides.{nat_tests}
use Rattle.std.proofs.lemmas.List.FromFn.{get_or-map-range_with_len, length-map-range_with_len}
use Rattle.std.proofs.lemmas.Option.{slice_get_past, unwrap_or-slice_get}
use Rattle.dbc_words.specs.Name.{continues_identifier}
use Rattle.dbc_grammar.specs.Lexing.{kind_of}
use Rattle.dbc_grammar.specs.Spelling.{is_gap}
use Rattle.dbc_lex.specs.Class.{class_of, of_kind}
use Rattle.dbc_lex.specs.declared.kinds.Class.{Class}
use Rattle.dbc_lex.specs.declared.kinds.Class.TheVariants.{Stray}

-- what a table of all bytes shows, if what it is for is the same for all numbers above them
module _ {X : Type 0} (f : ℕ → X) (other : X) (above_bytes : (b : ℕ) → 256 ≤ b → f b ≡ other) where
  table_is : (table : List X) (b : ℕ) → table ≡ map f (range_with_len 0 256) → unwrap_or (slice_get table b) other ≡ f b
  table_is table b is = ap (λ (l : List X). unwrap_or (slice_get l b) other) is ∙ by_range (cases_lt b 256)
    where
      by_range : (b < 256) ⊎ (256 ≤ b) → unwrap_or (slice_get (map f (range_with_len 0 256)) b) other ≡ f b
      by_range (inl below) = unwrap_or-slice_get (map f (range_with_len 0 256)) b other
          ∙ get_or-map-range_with_len f 0 256 b b other below (omega arith)
      by_range (inr above) =
          ap (λ (o : Option X). unwrap_or o other)
          (slice_get_past (map f (range_with_len 0 256)) b (omega (arith, length-map-range_with_len f 0 256)))
          ∙ sym (above_bytes b above)

-- nothing begins with a number above those of bytes
none_above : (b : ℕ) → 256 ≤ b → kind_of b ≡ None
none_above b above = grind (arith, nat_tests)

no_gap_above : (b : ℕ) → 256 ≤ b → is_gap b ≡ false
no_gap_above b above = grind (arith, nat_tests)

no_space_above : (b : ℕ) → 256 ≤ b → (b == 32) ≡ false
no_space_above b above = grind (arith, nat_tests)

stray_above : (b : ℕ) → 256 ≤ b → class_of b ≡ Stray
stray_above b above = rw (no_gap_above b above, no_space_above b above) (ap of_kind (none_above b above))

-- and no name has one
no_name_above : (b : ℕ) → 256 ≤ b → continues_identifier b ≡ false
no_name_above b above = grind (arith, nat_tests)

pub classes_are : (classes : List Class) (b : ℕ) → classes ≡ map class_of (range_with_len 0 256)
    → unwrap_or (slice_get classes b) Stray ≡ class_of b
classes_are classes b is = table_is class_of Stray stray_above classes b is

pub names_are : (flags : List Bool) (b : ℕ) → flags ≡ map continues_identifier (range_with_len 0 256)
    → unwrap_or (slice_get flags b) false ≡ continues_identifier b
names_are flags b is = table_is continues_identifier false no_name_above flags b is
