-- Worked examples of the definitions.
use Rattle.dbc_advice.proofs.Common.{◌≡◌, [], ◌∷◌, ◌++◌, Some, refl, codes}
use Rattle.std.specs.Char.{encode_utf8}
use Rattle.std.specs.Fmt.{digits}
use Rattle.std.specs.Str.{chars}
use Rattle.dbc_words.specs.declared.keyword.Keyword.TheVariants as key
use Rattle.dbc_lex.specs.declared.fault.ReadCode.TheVariants as code
use Rattle.dbc_advice.specs.Blanked.{blanked}
use Rattle.dbc_advice.specs.Position.{position_at}
use Rattle.dbc_advice.specs.Sentence.{listed, sentence_of}
use Rattle.dbc_advice.specs.Explained.{count_line}
use Rattle.dbc_advice.specs.ReportedLine.{code_label, more_text, reported_line}
use Rattle.dbc_advice.specs.ShownPath.{shown_path}
use Rattle.dbc_advice.specs.declared.candidate.Candidate.TheVariants as kind
use Rattle.dbc_advice.specs.declared.found.Found.TheVariants as found
use Rattle.dbc_advice.specs.declared.hint.Hint.TheVariants as hint
use Rattle.dbc_advice.specs.declared.findings.Ending.TheVariants as ending

-- ---- lines and columns

first_byte : position_at (codes "VERSION") 0 ≡ record { line = 1; column = 1 }
first_byte = refl

-- CR belongs to the line before its LF
after_cr_lf : position_at (97 ∷ 13 ∷ 10 ∷ 98 ∷ 99 ∷ []) 4 ≡ record { line = 2; column = 2 }
after_cr_lf = refl

at_lf : position_at (97 ∷ 13 ∷ 10 ∷ 98 ∷ 99 ∷ []) 2 ≡ record { line = 1; column = 3 }
at_lf = refl

-- a tab is one byte
after_tabs : position_at (9 ∷ 9 ∷ 120 ∷ []) 2 ≡ record { line = 1; column = 3 }
after_tabs = refl

-- the end of a text, after a last line with an end and after one without
end_after_lf : position_at (97 ∷ 10 ∷ []) 2 ≡ record { line = 2; column = 1 }
end_after_lf = refl

end_without_lf : position_at (97 ∷ 10 ∷ 98 ∷ []) 3 ≡ record { line = 2; column = 2 }
end_without_lf = refl

-- ---- blanked lines

middle_line : blanked 2 2 (97 ∷ 10 ∷ 98 ∷ 99 ∷ 10 ∷ 100 ∷ []) ≡ 97 ∷ 10 ∷ 32 ∷ 32 ∷ 10 ∷ 100 ∷ []
middle_line = refl

-- any offset of a line stands for it, its LF too
two_lines : blanked 3 5 (97 ∷ 10 ∷ 98 ∷ 99 ∷ 10 ∷ 100 ∷ []) ≡ 97 ∷ 10 ∷ 32 ∷ 32 ∷ 10 ∷ 32 ∷ []
two_lines = refl

line_of_cr_lf : blanked 0 0 (97 ∷ 13 ∷ 10 ∷ 98 ∷ []) ≡ 32 ∷ 13 ∷ 10 ∷ 98 ∷ []
line_of_cr_lf = refl

-- ---- sentences and lines

one_of_three : listed (kind.Number ∷ kind.Name ∷ kind.Semicolon ∷ []) ≡ codes "a number, a name or ';'"
one_of_three = refl

ends_too_early : sentence_of code.Unexpected found.End (kind.Semicolon ∷ []) (Some key.Comment)
    (Some (hint.Unfinished 7))
    ≡ codes "found the end of the file, ';' is wanted here (in CM_); the statement of line 7 isn't finished"
unfolding digits
ends_too_early = refl

line_of_a_fault : reported_line (codes "a.dbc") (record { line = 5; column = 12 }) (code_label 39 (codes "Size"))
    (codes "too large") ≡ codes "a.dbc:5:12: 39 Size: too large\n"
unfolding digits
line_of_a_fault = refl

-- ---- last lines

hundred_faults : count_line (codes "a.dbc") 100 ending.Many ≡ codes "a.dbc: 100 faults shown; there may be more\n"
unfolding digits
hundred_faults = refl

hundred_clashes : more_text (codes "a.dbc") 100 100 (codes "clashes") ≡ []
hundred_clashes = refl

one_clash_more : more_text (codes "a.dbc") 100 101 (codes "clashes")
    ≡ codes "a.dbc: 100 clashes shown; there are more\n"
unfolding digits
one_clash_more = refl

-- ---- paths

-- ESC, LF, DEL and U+009B
control_characters : shown_path (codes "a" ++ 27 ∷ 10 ∷ 127 ∷ 194 ∷ 155 ∷ codes "b.dbc")
    ≡ codes "a\\x1b\\x0a\\x7f\\x9bb.dbc"
unfolding chars encode_utf8
control_characters = refl

-- a blank, a backslash, `à` and `€`
other_characters : shown_path (codes "a \\x1b" ++ 195 ∷ 160 ∷ 226 ∷ 130 ∷ 172 ∷ []) ≡ codes "a \\x1b" ++ 195 ∷ 160 ∷ 226
    ∷ 130 ∷ 172 ∷ []
unfolding chars encode_utf8
other_characters = refl
