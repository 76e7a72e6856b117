-- A text with lines blanked: the same offsets, and the same lines.
use Rattle.std.specs.Prelude.{◌==◌, ◌||◌, ℕ, List, ◌++◌, map, take, drop, if◌then◌else◌}
use Rattle.dbc_advice.specs.Lines.{line_end, line_feed, line_start}

abbrev pub carriage_return : ℕ
carriage_return = 13

abbrev space : ℕ
space = 32

abbrev pub blank : ℕ → ℕ
blank b = if (b == line_feed) || (b == carriage_return) then b else space

-- every byte from one offset up to another, other than CR and LF, is a space
abbrev pub blanked_between : ℕ → ℕ → List ℕ → List ℕ
blanked_between start end text = take start text ++ (map blank (drop start (take end text)) ++ drop end text)

-- the lines from that of one offset to that of another are blanked
abbrev pub blanked : ℕ → ℕ → List ℕ → List ℕ
blanked first last text = blanked_between (line_start text first) (line_end text last) text
