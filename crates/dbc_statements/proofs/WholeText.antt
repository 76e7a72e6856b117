-- The statements of a whole text.
use Rattle.dbc_statements.proofs.Common.{◌≡◌, ℕ, true, false, List, [], ◌∷◌, Some, None, refl, sym, ap, ◌∙◌, Lexed}
use Rattle.dbc_statements.proofs.Common.{lexed, many_at, with_front, is_more, statement_at, Statement, Token}
use Rattle.dbc_statements.proofs.Common.{tokens_without_fault, statements_take, is_over}
use Rattle.dbc_grammar.specs.Parsing.{statements_at}
use Rattle.dbc_grammar.proofs.Divisions.{reading_is_exact}
use Rattle.dbc_grammar.proofs.Repeating.{breaks_off}
use Rattle.dbc_grammar.proofs.TokenExact.{exact}
use Rattle.dbc_statements.specs.Division.{HasNoDivision, IsDivided}
use Rattle.dbc_lex.specs.declared.fault.ReadFault.{ReadFault}
use Rattle.dbc_statements.specs.Tokens.{EndsWith}

module _ (begin ts : List Token) (ss : List Statement)
    (h : with_front ss (many_at is_more statement_at ts) ≡ many_at is_more statement_at begin) where
  none_left : (rest : List Token) → is_more rest ≡ false → many_at is_more statement_at begin ≡ Some (ss, rest)
      → statements_at begin ≡ Some ss
  unfolding statements_at
  none_left [] over e = rw e refl
  none_left (t ∷ rest) over e = absurd cc

  -- where no token is left they are all
  pub are_all : is_more ts ≡ false → statements_at begin ≡ Some ss
  are_all over = none_left ts over (is_over statements_take ss ts (many_at is_more statement_at begin) over h)

  -- where the next one can't be read there are none
  pub are_none : is_more ts ≡ true → statement_at ts ≡ None → statements_at begin ≡ None
  unfolding statements_at
  are_none more e = rw (breaks_off statements_take ss ts (many_at is_more statement_at begin) more e h) refl

module _ (bytes : List ℕ) where
  pub no_tokens : (fault : ReadFault) → EndsWith (lexed 0 bytes) fault → HasNoDivision bytes
  no_tokens fault (cause, ends, is) ss d =
      absurd (let w : Some cause ≡ None =
      sym ends ∙ ap (λ (l : Lexed). l.fault) ((exact 0 bytes d.tokens).0 d.has_tokens) in cc)

  -- all that is read, where no fault comes
  pub whole : (tokens : List Token) → tokens ≡ (lexed 0 bytes).tokens → (lexed 0 bytes).fault ≡ None
      → lexed 0 bytes ≡ tokens_without_fault tokens
  whole tokens same none = λ i. record { tokens = sym same i; fault = none i }

  module _ (tokens : List Token) (read : lexed 0 bytes ≡ tokens_without_fault tokens) where
    pub is_divided : (ss : List Statement) → statements_at tokens ≡ Some ss → IsDivided bytes ss
    is_divided ss e = record {
      tokens = tokens;
      has_tokens = (exact 0 bytes tokens).1 read;
      divides =
          (reading_is_exact tokens ss).1 e;
    }

    pub no_division : statements_at tokens ≡ None → HasNoDivision bytes
    no_division e ss d =
        let same : d.tokens ≡ tokens =
        ap (λ (l : Lexed). l.tokens) (sym ((exact 0 bytes d.tokens).0 d.has_tokens) ∙ read) in
        let found : statements_at d.tokens ≡ Some ss = (reading_is_exact d.tokens ss).0 d.divides in
        absurd (let w : None ≡ Some ss = sym e ∙ ap statements_at (sym same) ∙ found in cc)
