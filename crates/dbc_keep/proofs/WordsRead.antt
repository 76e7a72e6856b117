-- The words of a statement, one by one.
use Rattle.dbc_keep.proofs.Common.{◌≡◌, ◌++◌, true, false, List, [], ◌∷◌, map, refl, sym, ap, ◌∙◌, append_assoc}
use Rattle.dbc_keep.proofs.Common.{is_open, Token, to_mark, Word, token_of}
use Rattle.std.proofs.Common.{append-nil}
use Rattle.std.proofs.lemmas.List.{map-append}
use Rattle.dbc_keep.specs.Staying.{all_seen, seen, token_word}
use Rattle.dbc_lex.specs.declared.token.Token.{Token as TextToken}

go_at : (t : Token) (us : List Token) → is_open t ≡ true
    → map token_word (to_mark (t ∷ us)) ≡ token_word t ∷ map token_word (to_mark us)
go_at t us e = rw e refl

stop_at : (t : Token) (us : List Token) → is_open t ≡ false → map token_word (to_mark (t ∷ us)) ≡ token_word t ∷ []
stop_at t us e = rw e refl

module _ (old : List TextToken) (x : TextToken) (ts us : List Token) (first : ts ≡ token_of x ∷ us) where
  pub word_goes : is_open (token_of x) ≡ true
      → all_seen (old ++ x ∷ []) ++ map token_word (to_mark us) ≡ all_seen old ++ map token_word (to_mark ts)
  word_goes e =
      ap (λ (l : List Word). l ++ map token_word (to_mark us)) (map-append seen old (x ∷ []))
      ∙ append_assoc (all_seen old) (seen x ∷ []) (map token_word (to_mark us))
      ∙ ap (λ (l : List Word). all_seen old ++ l) (sym (go_at (token_of x) us e))
      ∙ ap (λ (l : List Token). all_seen old ++ map token_word (to_mark l)) (sym first)

  pub word_stops : is_open (token_of x) ≡ false
      → all_seen (old ++ x ∷ []) ≡ all_seen old ++ map token_word (to_mark ts)
  word_stops e =
      map-append seen old (x ∷ []) ∙ ap (λ (l : List Word). all_seen old ++ l) (sym (stop_at (token_of x) us e))
      ∙ ap (λ (l : List Token). all_seen old ++ map token_word (to_mark l)) (sym first)

pub no_word : (old : List TextToken) (ts : List Token) → ts ≡ []
    → all_seen old ≡ all_seen old ++ map token_word (to_mark ts)
no_word old ts e =
    sym (append-nil (all_seen old))
    ∙ ap (λ (l : List Token). all_seen old ++ map token_word (to_mark l)) (sym e)
