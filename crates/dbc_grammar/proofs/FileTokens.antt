-- The tokens of a file, and of its lines cut at each byte.
use Rattle.dbc_grammar.proofs.Common.{◌≡◌, ℕ, zero, suc, ◌+◌, List, [], ◌∷◌, ◌++◌, length, map, Option, Some, None}
use Rattle.dbc_grammar.proofs.Common.{refl, ap, if◌then◌else◌, codes}
use Rattle.std.specs.Prelude.{◌==◌, ◌-◌, drop, option_map, Result, Ok, Err}
use Rattle.dbc_grammar.specs.Lexing.{LexFault, UnclosedText, Lexed, exponent_len, first_token, inside_len, lexed}
use Rattle.dbc_grammar.specs.Lexing.{lexed_in, number_len, power_len, tail_len, token_at, with_first, word_len}
use Rattle.dbc_grammar.specs.Token.{Token}
use Rattle.dbc_grammar.specs.TokenLaw.{tokens_then_fault, tokens_without_fault}

-- What is read, as it is defined, but what comes after a token is computed once and not twice.

abbrev before : Token → Lexed → Lexed
before token rest = record { tokens = token ∷ rest.tokens; fault = rest.fault }

abbrev once_first : Result (Option Token) LexFault → (Token → Lexed) → Lexed
once_first (Err fault) after = tokens_then_fault [] fault
once_first (Ok None) after = tokens_without_fault []
once_first (Ok (Some token)) after = before token (after token)

abbrev once_in : ℕ → ℕ → List ℕ → Lexed
once_in zero offset bytes = tokens_without_fault []
once_in (suc steps) offset bytes =
    once_first (first_token offset bytes) (λ token. once_in steps token.end (drop (token.end - offset) bytes))

abbrev once : List ℕ → Lexed
once bytes = once_in (length bytes + 1) 0 bytes

first_is : (found : Result (Option Token) LexFault) (f g : Token → Lexed) → ((token : Token) → f token ≡ g token)
    → with_first found f ≡ once_first found g
first_is (Err fault) f g e = refl
first_is (Ok None) f g e = refl
first_is (Ok (Some token)) f g e = ap (λ (rest : Lexed). before token rest) (e token)

in_is : (steps offset : ℕ) (bytes : List ℕ) → lexed_in steps offset bytes ≡ once_in steps offset bytes
unfolding lexed_in
in_is zero offset bytes = refl
in_is (suc steps) offset bytes =
    first_is (first_token offset bytes) (λ token. lexed_in steps token.end (drop (token.end - offset) bytes))
    (λ token. once_in steps token.end (drop (token.end - offset) bytes))
    (λ token. in_is steps token.end (drop (token.end - offset) bytes))

once_is : (bytes : List ℕ) → lexed 0 bytes ≡ once bytes
unfolding lexed
once_is bytes = in_is (length bytes + 1) 0 bytes

-- The file.

-- a word after a tab
abbrev listed : List ℕ → List ℕ
listed word = 9 ∷ word

-- a signal whose unit is a degree sign of ISO 8859-1 and `C`
abbrev temperature : List ℕ
temperature = codes " SG_ Temp : 16|8@1+ (1,-40) [-40|210] \"" ++ 176 ∷ codes "C\"  Dash"

-- the lines of a file of two messages, with a list of new symbols
abbrev file : List (List ℕ)
file =
    codes "VERSION \"\"" ∷ [] ∷ [] ∷ codes "NS_ :" ∷ listed (codes "NS_DESC_") ∷ listed (codes "CM_")
    ∷ listed (codes "BA_DEF_") ∷ listed (codes "BA_") ∷
    listed (codes "VAL_") ∷ listed (codes "CAT_DEF_") ∷ listed (codes "CAT_") ∷ listed (codes "FILTER")
    ∷ listed (codes "BA_DEF_DEF_") ∷
    listed (codes "EV_DATA_") ∷ listed (codes "ENVVAR_DATA_") ∷ listed (codes "SGTYPE_") ∷ listed (codes "SGTYPE_VAL_")
    ∷
    listed (codes "BA_DEF_SGTYPE_") ∷ listed (codes "BA_SGTYPE_") ∷ listed (codes "SIG_TYPE_REF_")
    ∷ listed (codes "VAL_TABLE_") ∷
    listed (codes "SIG_GROUP_") ∷ listed (codes "SIG_VALTYPE_") ∷ listed (codes "SIGTYPE_VALTYPE_")
    ∷ listed (codes "BO_TX_BU_") ∷
    listed (codes "BA_DEF_REL_") ∷ listed (codes "BA_REL_") ∷ listed (codes "BA_DEF_DEF_REL_")
    ∷ listed (codes "BU_SG_REL_") ∷
    listed (codes "BU_EV_REL_") ∷ listed (codes "BU_BO_REL_") ∷ listed (codes "SG_MUL_VAL_") ∷ [] ∷ codes "BS_:" ∷ []
    ∷ codes "BU_: ECU Dash" ∷ [] ∷ [] ∷
    codes "BO_ 3221225472 VECTOR__INDEPENDENT_SIG_MSG: 0 Vector__XXX"
    ∷ codes " SG_ Spare : 0|8@1+ (1,0) [0|0] \"\" Vector__XXX" ∷ [] ∷
    codes "BO_ 2364540158 Msg1: 8 ECU" ∷ temperature ∷ [] ∷ codes "CM_ SG_ 2364540158 Temp \"Coolant temperature\";" ∷
    codes "BA_DEF_ SG_ \"SPN\" INT 0 524287;" ∷ codes "BA_DEF_DEF_ \"SPN\" 0;"
    ∷ codes "BA_ \"SPN\" SG_ 2364540158 Temp 500;" ∷ []

-- lines, each with its line feed
abbrev whole : List (List ℕ) → List ℕ
whole [] = []
whole (line ∷ lines) = line ++ 10 ∷ whole lines

its_length : length (whole file) ≡ 676
its_length = refl

its_tokens : length (once (whole file)).tokens ≡ 118
unfolding first_token token_at word_len number_len tail_len exponent_len power_len inside_len
its_tokens = refl

no_fault : (once (whole file)).fault ≡ None
unfolding first_token token_at word_len number_len tail_len exponent_len power_len inside_len
no_fault = refl

-- The cuts.

-- the beginnings of a line, from no bytes to all
abbrev beginnings : List ℕ → List (List ℕ)
beginnings [] = [] ∷ []
beginnings (b ∷ bytes) = [] ∷ map (λ beginning. b ∷ beginning) (beginnings bytes)

-- the quote that opens a text, or that ends the text which the other opened
abbrev after_quote : ℕ → Option ℕ → Option ℕ
after_quote offset None = Some offset
after_quote offset (Some opened) = None

-- the quote that opens a text and that no other quote ends, in bytes from an offset on that have no backslash
abbrev open_quote : ℕ → Option ℕ → List ℕ → Option ℕ
open_quote offset opened [] = opened
open_quote offset opened (b ∷ bytes) = open_quote (offset + 1) (if b == 34 then after_quote offset opened else opened)
    bytes

abbrev wanted : List ℕ → Option LexFault
wanted bytes = option_map UnclosedText (open_quote 0 None bytes)

-- a cut leaves a text open, or nothing is wrong with its tokens
each_cut_of_each_line : map (λ line. map (λ cut. (once cut).fault) (beginnings line)) file
    ≡ map (λ line. map wanted (beginnings line)) file
unfolding first_token token_at word_len number_len tail_len exponent_len power_len inside_len
each_cut_of_each_line = refl
