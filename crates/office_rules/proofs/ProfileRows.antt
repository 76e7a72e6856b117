-- Worked examples of the profiles: which sheets are of the first one, and what a file with a longer message is read as.
use Rattle.office_rules.proofs.Common.{◌≡◌, ◌≤◌, ◌+◌, ℕ, List, [], ◌∷◌, Some, None, refl, arith, subst, codes}
use Rattle.office_rules.proofs.Common.{empty_sheet, Sheet}
use Rattle.std.specs.Prelude.{length}
use Rattle.std.specs.List.{IsDistinct}
use Rattle.std.specs.List.Sorted.{IsStrictlySortedBy}
use Rattle.std.proofs.lemmas.List.Elements.{All-from_recursion}
use Rattle.can_id.specs.declared.ident.Ident.TheVariants as id
use Rattle.dbc_words.specs.Name.{is_name}
use Rattle.dbc_words.specs.declared.keyword.Keyword.TheVariants as keyword
use Rattle.dbc_words.proofs.Texts.{text-Decides}
use Rattle.dbc_sheet.specs.Form.{IsMessage, IsNode, IsSheet, IsSignal, IsTable}
use Rattle.dbc_grammar.specs.Lexing.{exponent_len, first_token, lexed, lexed_in, number_len, power_len, tail_len}
use Rattle.dbc_grammar.specs.Lexing.{token_at, word_len}
use Rattle.dbc_grammar.specs.Parsing.{line_at, message_at, signals_at, statement_at, statements_at}
use Rattle.dbc_grammar.specs.Reads.{Reads}
use Rattle.dbc_grammar.specs.Saying.{Says}
use Rattle.dbc_grammar.specs.Statement.{MessageIs, Statement}
use Rattle.dbc_grammar.specs.Token.{Token}
use Rattle.dbc_grammar.specs.TokenLaw.{tokens_without_fault}
use Rattle.dbc_grammar.specs.declared.token.TokenKind.{TokenKind}
use Rattle.dbc_grammar.specs.declared.token.TokenKind.TheVariants.{Name, Number, Mark}
use Rattle.dbc_grammar.proofs.Divisions.{one_division, reading_is_exact}
use Rattle.dbc_grammar.proofs.OneReading.{one_reading}
use Rattle.dbc_grammar.proofs.OneSheet.{one_sheet}
use Rattle.dbc_grammar.proofs.TokenExact.{exact}
use Rattle.dbc_grammar.proofs.TokensOnce.{tokens_once}
use Rattle.office_rules.specs.Importing.{Reading, Unreadable}
use Rattle.office_rules.specs.Profile.{One, Two, IsOfProfile}
use Rattle.office_rules.specs.Step.{IsReadingOf}
use Rattle.office_rules.proofs.TeamCommand.{message}

-- a sheet of one message, this long
abbrev pub of_length : ℕ → Sheet
of_length n = record empty_sheet { messages = record (message (id.Std 256) (codes "M") []) { length = n } ∷ [] }

-- 64 bytes are the most under the first profile
old_has_64 : IsOfProfile One (of_length 64)
old_has_64 = All-from_recursion (λ m. m.length ≤ 64) (of_length 64).messages (omega arith, tt)

old_hasnt_65 : IsOfProfile One (of_length 65) → ⊥
old_hasnt_65 all = let few : 65 ≤ 64 = all 0 (message (id.Std 256) (codes "M") []) (omega arith) in
    absurd (omega (arith, few))

today_has_both : IsOfProfile Two (of_length 64) × IsOfProfile Two (of_length 65)
today_has_both = (tt, tt)

-- A file of one message of 100 bytes.

abbrev pub long_file : List ℕ
long_file = codes "BO_ 256 M: 100 Vector__XXX"

abbrev token : TokenKind → ℕ → List ℕ → Token
token kind start text = record { kind = kind; start = start; end = start + length text; text = text }

abbrev its_tokens : List Token
its_tokens =
    token Name 0 (codes "BO_")
    ∷ token Number 4 (codes "256")
    ∷ token Name 8 (codes "M")
    ∷ token Mark 9 (codes ":")
    ∷ token Number 11 (codes "100")
    ∷ token Name 15 (codes "Vector__XXX") ∷ []

abbrev its_statements : List Statement
its_statements = record {
  start = 0;
  keyword = keyword.Message;
  content = MessageIs (record { ident = id.Std 256; name = codes "M"; length = 100; transmitter = None; signals = [] });
} ∷ []

has_its_tokens : lexed 0 long_file ≡ tokens_without_fault its_tokens
unfolding lexed lexed_in first_token token_at word_len number_len tail_len exponent_len power_len
has_its_tokens = refl

has_its_statements : statements_at its_tokens ≡ Some its_statements
unfolding statements_at statement_at line_at message_at signals_at is_name
has_its_statements = refl

is_a_sheet : IsSheet (of_length 100)
unfolding IsDistinct IsStrictlySortedBy is_name
is_a_sheet = record {
  well_formed = record {
    nodes = record { apart = tt; few = omega arith };
    tables = record { apart = tt; few = omega arith };
    entries = tt;
    together = record { ascending = (tt, tt); apart = (tt, tt); few = omega arith };
    messages = (record { signals = record { apart = tt; one_multiplexor = tt; few = omega arith }; values = tt }, tt);
  };
  version = (text-Decides []).0 refl;
  comment = (text-Decides []).0 refl;
  nodes = All-from_recursion IsNode [] tt;
  tables = All-from_recursion IsTable [] tt;
  messages = All-from_recursion IsMessage (of_length 100).messages (
    record {
      ident = omega arith;
      named = refl;
      length = omega arith;
      transmitter = tt;
      comment = (text-Decides []).0 refl;
      signals = All-from_recursion IsSignal [] tt;
    },
    tt,
  );
}

says_it : Says its_statements (of_length 100)
says_it = record {
  is_sheet = is_a_sheet;
  version = refl;
  comment = refl;
  nodes = refl;
  tables = refl;
  messages = record { moves = []; below = tt; is = refl };
}

reads : Reads long_file (of_length 100)
reads = (
  [],
  record {
    tokens = its_tokens;
    statements = its_statements;
    has_tokens = (exact 0 long_file its_tokens).1 has_its_tokens;
    divides = (reading_is_exact its_tokens its_statements).1 has_its_statements;
    says = says_it;
    passes = refl;
  },
)

-- Today it reads as its sheet. Under the first profile it read as none: the fault 38 is at its length, at byte 11.

pub read_today : IsReadingOf Two long_file (Reading (of_length 100))
read_today = (reads, tt)

pub unread_before : IsReadingOf One long_file (Unreadable (record { fault = 38; at = 11 }))
unread_before = record {
  unread = λ s under.
      let same = (one_reading (tokens_once 0) one_division one_sheet long_file s (of_length 100) under.0.0 reads.0
      under.0.1 reads.1).0 in
      let few : 100 ≤ 64 = subst (IsOfProfile One) same under.1 0
      (record (message (id.Std 256) (codes "M") []) { length = 100 }) (omega arith) in
      absurd (omega (arith, few));
  code = (12, omega arith, refl);
  offset = omega arith;
}
