-- What follows a statement or a signal is a keyword, at which no list of nodes goes on.
use Rattle.dbc_law.proofs.Common.{◌≡◌, ◌&&◌, ◌∙◌, ℕ, true, false, not, List, [], ◌∷◌, length, is_some, nat_le, refl}
use Rattle.dbc_law.proofs.Common.{sym, ap, codes, bytes_eq, and_parts, is_keyword, name_limit, is_c_identifier, no_node}
use Rattle.dbc_law.proofs.Common.{space, word, Token, Name}
use Rattle.std.proofs.lemmas.Bool.{and_left, and_right, false_from_ne_true, false≢true, not_from_true}
use Rattle.std.proofs.lemmas.Slice.Eq.{bytes_eq-Decides}
use Rattle.dbc_words.specs.Name.{is_name}
use Rattle.dbc_words.specs.declared.keyword.Keyword.TheVariants.{Signal}
use Rattle.dbc_grammar.specs.Fields.{is_key, key_of}
use Rattle.dbc_grammar.specs.Grammar.{next}
use Rattle.dbc_grammar.proofs.ExactFields.{kind_is}
use Rattle.dbc_grammar.proofs.ExactLines.{next_name}
use Rattle.dbc_law.proofs.PieceTokens.{token_of}
use Rattle.dbc_law.proofs.StatementNodes.{EndsList}

keyword_is_no_name : (w : List ℕ) → is_keyword w ≡ true → is_name w ≡ false
unfolding is_name
keyword_is_no_name w h =
    let known = is_c_identifier w && nat_le (length w) name_limit in
    and_left (known && not (is_keyword w)) (not (bytes_eq w no_node))
    (and_right known (not (is_keyword w)) (not_from_true (is_keyword w) h))

keyword_is_some_node : (w : List ℕ) → is_keyword w ≡ true → bytes_eq w no_node ≡ false
keyword_is_some_node w h =
    false_from_ne_true (bytes_eq w no_node) (λ e.
    let same : w ≡ no_node = (bytes_eq-Decides w no_node).0 e in
    let keyword : is_keyword no_node ≡ true = ap is_keyword (sym same) ∙ h in
    false≢true keyword)

keyword_ends : (t : Token) (ts : List Token) → t.kind ≡ Name → is_keyword t.text ≡ true → EndsList (t ∷ ts)
keyword_ends t ts name h = rw (name, keyword_is_some_node t.text h, keyword_is_no_name t.text h) refl

pub next_ends : (rest : List Token) → next rest ≡ true → EndsList rest
next_ends [] h = refl
next_ends (t ∷ ts) h =
    let name = kind_is Name t (next_name t h) in
    let keyword = (and_parts (is_some (key_of t)) (not (is_key Signal t)) h).0 in
    keyword_ends t ts name (rw name at keyword)

pub signal_ends : (start end : ℕ) (ts : List Token) → EndsList (token_of (word space (codes "SG_")) start end ∷ ts)
signal_ends start end ts = keyword_ends (token_of (word space (codes "SG_")) start end) ts refl refl
