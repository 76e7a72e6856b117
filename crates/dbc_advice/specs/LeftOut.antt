-- What is stated of statements that are skipped.
use Rattle.std.specs.Prelude.{◌≡◌, ℕ, nat_lt, Bool, List, [], ◌∷◌, ◌++◌, Option, Some, None, take, drop, length, min}
use Rattle.std.specs.Prelude.{codes, decimal, if◌then◌else◌}
use Rattle.std.specs.List.{count_by, enumerate_from, flat_map, list_any}
use Rattle.std.specs.Str.{bytes_eq}
use Rattle.dbc_words.specs.Keyword.{keyword_text}
use Rattle.dbc_words.specs.declared.keyword.Keyword.{Keyword}
use Rattle.dbc_sheet.specs.declared.sheet.Sheet.{Sheet}
use Rattle.dbc_read.specs.declared.passed.Passed.{Passed}
use Rattle.dbc_advice.specs.Citation.{Cited, citation_at, citation_text, is_missing}
use Rattle.dbc_advice.specs.Limits.{citations_reported}
use Rattle.dbc_advice.specs.Position.{position_at}
use Rattle.dbc_advice.specs.ReportedLine.{more_text, reported_line}
use Rattle.dbc_advice.specs.declared.leaving.Parts.{Parts}

-- `passed KEYWORD`
abbrev pub passed_label : Keyword → List ℕ
passed_label keyword = codes "passed " ++ keyword_text keyword

-- how many of these statements begin with the keyword
abbrev pub kind_count : Keyword → List Passed → ℕ
kind_count keyword passed = count_by (λ (p : Passed). bytes_eq (keyword_text p.keyword) (keyword_text keyword)) passed

abbrev pub count_text : ℕ → List ℕ
count_text count = decimal count ++ codes " left out, the first one here"

-- the line of what is stated of a skipped statement: at its keyword, and with this as its label
abbrev pub passed_line : List ℕ → List ℕ → Passed → List ℕ → List ℕ
passed_line file text p sentence =
    reported_line file (position_at text (min p.at (length text))) (passed_label p.keyword) sentence

-- ---- one by one

-- what the skipped statement cites, if the sheet doesn't have it
abbrev pub unless_present : Sheet → Option Cited → Option Cited
unless_present s None = None
unless_present s (Some cited) = if is_missing s cited then Some cited else None

abbrev pub missing_at : Sheet → List ℕ → Passed → Option Cited
missing_at s text p = unless_present s (citation_at text p.at)

-- a skipped statement, and what it cites that the sheet doesn't have
abbrev pub Missing : Type 0
Missing = Passed × Cited

abbrev pub with_missing : Passed → Option Cited → List Missing
with_missing p None = []
with_missing p (Some cited) = (p, cited) ∷ []

-- those of these statements that cite what the sheet doesn't have
abbrev pub all_missing : Sheet → List ℕ → List Passed → List Missing
all_missing s text passed = flat_map (λ (p : Passed). with_missing p (missing_at s text p)) passed

-- the line of one
abbrev pub missing_line : List ℕ → List ℕ → Missing → List ℕ
missing_line file text m = passed_line file text m.0 (citation_text m.1)

-- the same after so many reports: nothing, if there are enough
abbrev pub line_after : ℕ → List ℕ → List ℕ → Missing → List ℕ
line_after reported file text m = if nat_lt reported citations_reported then missing_line file text m else []

-- the lines of the first of them
abbrev pub missing_lines : List ℕ → List ℕ → List Missing → List ℕ
missing_lines file text missing = flat_map (missing_line file text) (take citations_reported missing)

abbrev pub without_missing : Passed → Option Cited → List Passed
without_missing p None = p ∷ []
without_missing p (Some cited) = []

-- the other statements
abbrev pub all_others : Sheet → List ℕ → List Passed → List Passed
all_others s text passed = flat_map (λ (p : Passed). without_missing p (missing_at s text p)) passed

-- that there are more than are reported, if so
abbrev pub more_missing : List ℕ → List Missing → List ℕ
more_missing file missing = more_text file citations_reported (length missing) (codes "citations")

-- the statements that are reported one by one, how many there are, and the others
pub record ArePartedFrom (file text : List ℕ) (s : Sheet) (passed : List Passed) (p : Parts) : Type 0 where
  pub lines : p.lines.items ≡ missing_lines file text (all_missing s text passed)
  pub missing : p.missing ≡ length (all_missing s text passed)
  pub others : p.others.items ≡ all_others s text passed

-- ---- kind by kind

-- one of the statements begins with the keyword
abbrev pub has_keyword : Keyword → List Passed → Bool
has_keyword keyword passed = list_any (λ (p : Passed). bytes_eq (keyword_text p.keyword) (keyword_text keyword)) passed

-- a statement whose keyword no earlier one has is reported, with how many have it
abbrev pub kind_text : List ℕ → List ℕ → List Passed → ℕ × Passed → List ℕ
kind_text file text passed p =
    if has_keyword p.1.keyword (take p.0 passed) then [] else passed_line file text p.1
    (count_text (kind_count p.1.keyword passed))

-- those of the index and after it
abbrev pub kinds_text : List ℕ → List ℕ → List Passed → ℕ → List ℕ
kinds_text file text passed n = flat_map (kind_text file text passed) (enumerate_from n (drop n passed))

-- ---- all

-- what is reported one by one, and then each kind of the others
abbrev pub left_out : List ℕ → List ℕ → Sheet → List Passed → List ℕ
left_out file text s passed =
    (missing_lines file text (all_missing s text passed) ++ more_missing file (all_missing s text passed))
    ++ kinds_text file text (all_others s text passed) 0
