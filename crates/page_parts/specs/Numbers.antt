-- Numbers of a page, as HTML.
use Rattle.std.specs.Prelude.{ℕ, ◌==◌, true, List, [], ◌∷◌, ◌++◌, Option, Some, None, codes, if◌then◌else◌}
use Rattle.std.specs.Fmt.{digits}
use Rattle.std.specs.List.{flat_map}
use Rattle.can_id.specs.declared.ident.Ident.{Ident}
use Rattle.can_id.specs.declared.ident.Ident.TheVariants.{Std, Ext}
use Rattle.columns.specs.Padding.{filled}
use Rattle.columns.specs.declared.run.Run.{Run}
use Rattle.markup.specs.Html.{end_tag, escaped, start_tag}
use Rattle.markup.specs.declared.tag.Tag.TheVariants as tag
use Rattle.page_parts.specs.Words.{run_html}
use Rattle.page_parts.specs.declared.numbers.HexWidth.{HexWidth}
use Rattle.page_parts.specs.declared.numbers.HexWidth.TheVariants.{Three, Four, Eight}

-- how many digits a number has at least
abbrev pub least_digits : HexWidth → ℕ
least_digits Three = 3
least_digits Four = 4
least_digits Eight = 8

-- a number in upper case hexadecimal digits, with zeros before it up to the width
unfoldable pub hex : HexWidth → ℕ → List ℕ
hex width n = escaped (filled 48 (least_digits width) (digits 16 true n))

-- an identifier: 3 digits of 11 bits, 8 of 29
abbrev pub ident_hex : Ident → List ℕ
ident_hex (Std n) = hex Three n
ident_hex (Ext n) = hex Eight n

-- as FF01, or FF01-FF09
unfoldable pub hex_run : HexWidth → Run → List ℕ
hex_run width r = hex width r.first ++ (if r.first == r.last then [] else codes "-" ++ hex width r.last)

-- a run in decimal, and where it has a width in hexadecimal too: `65281-65289 (FF01-FF09)`
abbrev pub both : Option HexWidth → Run → List ℕ
both None r = run_html r
both (Some width) r =
    run_html r ++ (codes " " ++ (start_tag tag.Code []
    ++ (codes "(" ++ (hex_run width r ++ (codes ")" ++ end_tag tag.Code)))))

-- a comma and the run for each
abbrev pub later_runs : List Run → List ℕ
later_runs rs = flat_map (λ r. codes ", " ++ run_html r) rs

-- with commas between: `1-3, 5`
abbrev pub runs : List Run → List ℕ
runs [] = []
runs (r ∷ rs) = run_html r ++ later_runs rs
