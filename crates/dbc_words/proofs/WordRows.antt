-- Rows of faults in words, and of texts, computed.
use Rattle.dbc_words.proofs.Common.{◌≡◌, true, false, ℕ, List, [], ◌∷◌, ◌++◌, refl, codes}
use Rattle.std.specs.Fmt.{decimal, digits}
use Rattle.bitlayout.specs.declared.clash.Clash.TheVariants as clash
use Rattle.dbc_words.specs.Fault.{about_text, code_name, code_number}
use Rattle.dbc_words.specs.Text.{is_text}
use Rattle.dbc_words.specs.declared.fault.About.{About}
use Rattle.dbc_words.specs.declared.fault.About.TheVariants as about
use Rattle.dbc_words.specs.declared.fault.SheetCode.{SheetCode}
use Rattle.dbc_words.specs.declared.fault.SheetCode.TheVariants.{DoubleNumber, DoubleName, OutsidePayload, Clash}
use Rattle.dbc_words.specs.declared.fault.SheetCode.TheVariants.{NoMultiplexor, TwoMultiplexors, TooMany}

-- faults in words
abbrev printed_fault : SheetCode → About → List ℕ
printed_fault code about = decimal (code_number code) ++ codes " " ++ code_name code ++ codes ": " ++ about_text about

row_printed_number : printed_fault DoubleNumber (about.Message 256) ≡ codes "20 DoubleNumber: message 256"
unfolding digits
row_printed_number = refl

row_printed_name : printed_fault DoubleName (about.Message 257) ≡ codes "21 DoubleName: message 257"
unfolding digits
row_printed_name = refl

row_printed_node : printed_fault DoubleName about.Node ≡ codes "21 DoubleName: a node"
unfolding digits
row_printed_node = refl

row_printed_table : printed_fault DoubleName about.Table ≡ codes "21 DoubleName: a value table"
unfolding digits
row_printed_table = refl

row_printed_multiplexors : printed_fault TwoMultiplexors (about.Message 256) ≡ codes "25 TwoMultiplexors: message 256"
unfolding digits
row_printed_multiplexors = refl

row_printed_full : printed_fault TooMany (about.Message 2147483648) ≡ codes "26 TooMany: message 2147483648"
unfolding digits
row_printed_full = refl

row_printed_full_of_nodes : printed_fault TooMany about.Node ≡ codes "26 TooMany: a node"
unfolding digits
row_printed_full_of_nodes = refl

row_printed_outside : printed_fault OutsidePayload (about.Signals 9 (clash.Outside 0))
    ≡ codes "22 OutsidePayload: signals of message 9"
unfolding digits
row_printed_outside = refl

row_printed_clash : printed_fault Clash (about.Signals 7 (clash.Overlap 0 1)) ≡ codes "23 Clash: signals of message 7"
unfolding digits
row_printed_clash = refl

row_printed_no_multiplexor : printed_fault NoMultiplexor (about.Signals 1 (clash.NoMultiplexor 0))
    ≡ codes "24 NoMultiplexor: signals of message 1"
unfolding digits
row_printed_no_multiplexor = refl

-- texts: empty, plain, a quote that is escaped, a backslash that is escaped
row_empty : is_text [] ≡ true
row_empty = refl

row_plain : is_text (codes "km/h") ≡ true
row_plain = refl

row_taken_quote : is_text (97 ∷ 92 ∷ 34 ∷ 98 ∷ []) ≡ true
row_taken_quote = refl

row_taken_backslash : is_text (92 ∷ 92 ∷ []) ≡ true
row_taken_backslash = refl

-- a lone quote, a lone backslash, a quote after a backslash that is escaped
row_lone_quote : is_text (97 ∷ 34 ∷ []) ≡ false
row_lone_quote = refl

row_lone_backslash : is_text (97 ∷ 92 ∷ []) ≡ false
row_lone_backslash = refl

row_quote_after : is_text (92 ∷ 92 ∷ 34 ∷ []) ≡ false
row_quote_after = refl
