-- What stands in a list.
use Rattle.std.specs.Prelude.{ℕ, Bool, List, Option, map}
use Rattle.std.specs.Option.{option_copied, option_map, option_map_or}
use Rattle.base.specs.Split.{split_once}
use Rattle.bitlayout.specs.declared.layout.Layout.{Layout}
use Rattle.bitlayout.specs.declared.place.Mux.{Mux}
use Rattle.can_id.specs.declared.ident.Ident.{Ident}
use Rattle.columns.specs.declared.run.Run.{Run}
use Rattle.decimal.specs.Number.{Number}
use Rattle.rows.specs.declared.cell.Cell.{Cell}
use Rattle.rows.specs.declared.cell.Cell.TheVariants as cell

-- a value, with its texts as bytes
pub data Fact : Type 0 where
  of_ident : Option Ident → Fact
  of_number : ℕ → Fact
  of_name : List ℕ → Fact
  of_word : List ℕ → Fact
  of_rest : List ℕ → Fact
  of_front : List ℕ → Bool → Fact
  of_runs : List Run → Fact
  of_free : List Run → Fact
  of_mark : Bool → Fact
  of_path : List ℕ → Option (List ℕ) → Fact
  of_change : List ℕ → Option (List ℕ × List ℕ) → Fact
  of_maybe : Option ℕ → Fact
  of_share : ℕ → ℕ → Fact
  of_position : ℕ → ℕ → Fact
  of_words : List (List ℕ) → Fact
  of_digits : Ident → Fact
  of_layout : Layout → Bool → Fact
  of_mux : Mux → Fact
  of_decimal : Number → Fact
  of_scale : Number → Number → Fact
  of_range : Number → Number → Fact

abbrev pub fact_of : Cell → Fact
fact_of (cell.Ident ident) = of_ident ident
fact_of (cell.Number n) = of_number n
fact_of (cell.Name name) = of_name name.now
fact_of (cell.Made name) = of_name name
fact_of (cell.Word text) = of_word text.now
fact_of (cell.Rest text) = of_rest text.now
fact_of (cell.Front text goes_on) = of_front text.now goes_on
fact_of (cell.Runs runs) = of_runs runs
fact_of (cell.Free runs) = of_free runs
fact_of (cell.Mark is) = of_mark is
fact_of (cell.Path name part) = of_path name.now (option_copied part)
fact_of (cell.Change word values) = of_change word.now (option_map (λ v. (v.0.now, v.1.now)) values)
fact_of (cell.Maybe n) = of_maybe n
fact_of (cell.Share n all) = of_share n all
fact_of (cell.Position line column) = of_position line column
fact_of (cell.Words texts) = of_words (map (λ text. text.now) texts)
fact_of (cell.Digits ident) = of_digits ident
fact_of (cell.Layout layout signed) = of_layout layout signed
fact_of (cell.Mux mux) = of_mux mux
fact_of (cell.Decimal d) = of_decimal d.now
fact_of (cell.Scale factor offset) = of_scale factor.now offset.now
fact_of (cell.Range minimum maximum) = of_range minimum.now maximum.now

-- what is before the spaces
abbrev pub name_of : List ℕ → List ℕ
name_of name = option_map_or (λ (parts : List ℕ × List ℕ). parts.0) (split_once 32 name) name
