-- The first statement of the tokens that are left, and the others.
use Rattle.dbc_statements.proofs.Common.{◌≡◌, ◌∙◌, ℕ, true, false, List, [], ◌∷◌, drop, Some, None, refl, sym, ap}
use Rattle.dbc_statements.proofs.Common.{lexed, Parsed, is_more, many_at, statement_at, with_front, Statement, Token}
use Rattle.dbc_statements.proofs.Common.{goes_round, statements_take}
use Rattle.std.specs.Option.{option_and_then, option_map}
use Rattle.dbc_grammar.specs.Parsing.{all_of, statements_at}
use Rattle.dbc_statements.specs.Left.{BeginsWith, IsLeft}
use Rattle.dbc_statements.proofs.LoopRounds.{at_start}
use Rattle.dbc_statements.proofs.Offsets.{first_reached, statement_within}
use Rattle.dbc_statements.proofs.WholeText.{are_all, are_none}

abbrev all_from : List Token → Parsed (List Statement)
all_from ts = many_at is_more statement_at ts

others_after : (s : Statement) (o : Parsed (List Statement)) → option_and_then all_of (with_front (s ∷ []) o)
    ≡ option_map (λ others. s ∷ others) (option_and_then all_of o)
others_after s None = refl
others_after s (Some (ss, [])) = refl
others_after s (Some (ss, t ∷ ts)) = refl

pub first_and_others : (ts : List Token) (x : Statement × List Token) → is_more ts ≡ true → statement_at ts ≡ Some x
    → statements_at ts ≡ option_map (λ others. x.0 ∷ others) (statements_at x.1)
unfolding statements_at
first_and_others ts x more e =
    ap (option_and_then all_of) (sym (goes_round statements_take [] ts x (all_from ts) more e (at_start (all_from ts))))
    ∙ others_after x.0 (all_from x.1)

pub begins_with : (ts : List Token) (x : Statement × List Token) → is_more ts ≡ true → statement_at ts ≡ Some x
    → BeginsWith x.0 ts x.1
begins_with ts x more e =
    record { statements = first_and_others ts x more e; fewer = statements_take.shorter ts x more e }

pub none_left : (ts : List Token) → is_more ts ≡ false → statements_at ts ≡ Some []
none_left ts over = are_all ts ts [] (at_start (all_from ts)) over

pub not_there : (ts : List Token) → is_more ts ≡ true → statement_at ts ≡ None → statements_at ts ≡ None
not_there ts more e = are_none ts ts [] (at_start (all_from ts)) more e

-- what is left of a text, once the first token is looked at, and once a statement is read
module _ (source : List ℕ) (tokens : List Token) (offset : ℕ) (left : IsLeft source tokens offset) where
  pub left_reached : (t : Token) → tokens ≡ t ∷ drop 1 tokens → IsLeft source tokens t.end
  left_reached t first = record {
    read = left.read;
    whole = left.whole;
    reached =
        first_reached (lexed 0 source).tokens tokens t (left.read, left.whole) first;
  }

  pub left_after : (x : Statement × List Token) → statement_at tokens ≡ Some x → IsLeft source x.1 offset
  left_after x e =
      let within = statement_within (lexed 0 source).tokens tokens x (left.read, left.whole) e in
      record { read = within.0; whole = within.1; reached = left.reached }
