-- What is stated of a fault: one sentence.
use Rattle.std.specs.Prelude.{ℕ, nat_le, nat_lt, ◌&&◌, List, [], ◌∷◌, ◌++◌, length, map, take, Option, Some, None}
use Rattle.std.specs.Prelude.{if◌then◌else◌, codes, decimal}
use Rattle.dbc_words.specs.Keyword.{keyword_text}
use Rattle.dbc_words.specs.declared.keyword.Keyword.{Keyword}
use Rattle.dbc_lex.specs.declared.fault.ReadCode.{ReadCode}
use Rattle.dbc_lex.specs.declared.fault.ReadCode.TheVariants.{DoubleNumber, DoubleName, TwoMultiplexors, TooMany}
use Rattle.dbc_lex.specs.declared.fault.ReadCode.TheVariants.{UnclosedText, StrayByte, Unexpected, UnknownStatement}
use Rattle.dbc_lex.specs.declared.fault.ReadCode.TheVariants.{ExtendedMultiplexing, Number, Identifier, Name, Length}
use Rattle.dbc_lex.specs.declared.fault.ReadCode.TheVariants.{Size, Memory}
use Rattle.dbc_advice.specs.Candidate.{phrase_of}
use Rattle.dbc_advice.specs.declared.candidate.Candidate.{Candidate}
use Rattle.dbc_advice.specs.declared.found.Found.{Found}
use Rattle.dbc_advice.specs.declared.found.Found.TheVariants as found
use Rattle.dbc_advice.specs.declared.hint.Hint.{Hint}
use Rattle.dbc_advice.specs.declared.hint.Hint.TheVariants as hint

-- ---- what was found

abbrev question_mark : ℕ
question_mark = 63

-- a byte as it is shown: one that isn't printable ASCII is a question mark
abbrev pub visible : ℕ → ℕ
visible b = if nat_le 32 b && nat_le b 126 then b else question_mark

-- at most this many bytes are shown
abbrev pub shown_limit : ℕ
shown_limit = 40

abbrev pub shown : List ℕ → List ℕ
shown bytes = if nat_lt shown_limit (length bytes) then map visible (take shown_limit bytes)
    ++ codes ".." else map visible bytes

abbrev pub quoted : List ℕ → List ℕ
quoted bytes = codes "'" ++ (shown bytes ++ codes "'")

abbrev pub found_text : Found → List ℕ
found_text found.End = codes "the end of the file"
found_text found.Quote = codes "a quote"
found_text (found.Token bytes) = quoted bytes.now
found_text (found.Byte b) = if nat_le 33 b && nat_le b 126 then quoted (b ∷ []) else codes "the byte " ++ decimal b

-- ---- what may be there

-- a list in words: `a`, `a or b`, `a, b or c`
abbrev pub listed : List Candidate → List ℕ
listed [] = []
listed (a ∷ []) = phrase_of a
listed (a ∷ (b ∷ [])) = phrase_of a ++ (codes " or " ++ phrase_of b)
listed (a ∷ (b ∷ (c ∷ rest))) = phrase_of a ++ (codes ", " ++ listed (b ∷ (c ∷ rest)))

-- ---- what the code means, after what was found

abbrev pub plain_meaning : ReadCode → List ℕ
plain_meaning DoubleNumber = codes ", the number of an earlier message too: give one of them another number"
plain_meaning DoubleName = codes ", the name of an earlier one too: rename one of them"
plain_meaning TwoMultiplexors = codes ", but the message has a multiplexor already: mark only one signal with M"
plain_meaning TooMany = codes ", one more than a sheet may have (README.md): split the file"
plain_meaning UnclosedText = codes ", and no other quote closes the text that it opens"
plain_meaning StrayByte = codes ", with which no name, number, text or mark begins"
plain_meaning Unexpected = codes ", which can't come here"
plain_meaning UnknownStatement = codes ", but a statement begins with a keyword"
plain_meaning ExtendedMultiplexing = codes ", but extended multiplexing can't be read: use M and m0, not m0M"
plain_meaning Number = codes
    ", out of range: at most 36 digits, powers of ten -400 to 400; a type is 0 to 2, m is m0 to m4294967295"
plain_meaning Identifier = codes ", no message's number: 0 to 2047, or 2147483648 more than 29 bits"
plain_meaning Name = codes ", which can't be a name here: a keyword, Vector__XXX or over 128 bytes"
plain_meaning Length = codes ", but a length is 0 to 1785 bytes: take out messages that are longer"
plain_meaning Size = codes ", but a start is 0 to 65535, and a size 1 to 64 bits: split a longer signal"
plain_meaning Memory = codes ", and memory ran out"

abbrev pub wanted_text : List Candidate → List ℕ
wanted_text [] = plain_meaning Unexpected
wanted_text (a ∷ rest) = codes ", " ++ (listed (a ∷ rest) ++ codes " is wanted here")

-- of an unexpected token, what may be there
abbrev pub meaning_of : List Candidate → ReadCode → List ℕ
meaning_of wanted Unexpected = wanted_text wanted
meaning_of wanted code = plain_meaning code

-- ---- which statement it is in, and what is plain to do

abbrev pub statement_text : Option Keyword → List ℕ
statement_text None = []
statement_text (Some keyword) = codes " (in " ++ (keyword_text keyword ++ codes ")")

abbrev pub hint_text : Hint → List ℕ
hint_text hint.ByteOrderMark = codes "; the file begins with a byte order mark: save it as UTF-8 without one"
hint_text hint.Utf16 = codes "; the file is UTF-16: save it as UTF-8 without a byte order mark"
hint_text hint.Comment = codes "; a DBC file has no such comments: take it out, or write CM_"
hint_text hint.Hexadecimal = codes "; numbers are decimal, so write no 0x"
hint_text hint.PointFirst = codes "; write a digit before the point"
hint_text hint.SignalAlone = codes "; a signal comes after its message (BO_) or another signal of it"
hint_text (hint.Unfinished line) = codes "; the statement of line " ++ (decimal line ++ codes " isn't finished")

abbrev pub hinted : Option Hint → List ℕ
hinted None = []
hinted (Some h) = hint_text h

-- what was found, what that means, the statement, and what to do
abbrev pub sentence_of : ReadCode → Found → List Candidate → Option Keyword → Option Hint → List ℕ
sentence_of code found wanted statement hint =
    codes "found " ++ (found_text found ++ (meaning_of wanted code ++ (statement_text statement ++ hinted hint)))
