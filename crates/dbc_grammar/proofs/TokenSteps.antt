-- What is read of a text, token by token.
use Rattle.dbc_grammar.proofs.Common.{◌≡◌, ℕ, zero, suc, ◌+◌, ◌-◌, ◌<◌, List, length, drop, Option, Some, None, Result}
use Rattle.dbc_grammar.proofs.Common.{Ok, Err, refl, subst, ap, arith}
use Rattle.dbc_grammar.specs.Lexing.{LexFault, Lexed, first_token, lexed, lexed_in, with_first}
use Rattle.dbc_grammar.specs.Token.{Token}
use Rattle.dbc_grammar.proofs.TokenExact.{after_first, rest_is_shorter}
use Rattle.dbc_grammar.proofs.TokenReading.{Means, first_token_means}

-- fewer bytes come after the first token
pub fewer : (offset : ℕ) (bytes : List ℕ) (t : Token) → first_token offset bytes ≡ Ok (Some t)
    → length (drop (t.end - offset) bytes) < length bytes
fewer offset bytes t e =
    let (rest, first) = subst (Means offset bytes) e (first_token_means offset bytes) in
    rw (after_first offset bytes t rest first) (rest_is_shorter offset bytes t rest first)

same_after : (r : Result (Option Token) LexFault) (f g : Token → Lexed) → ((t : Token) → r ≡ Ok (Some t) → f t ≡ g t)
    → with_first r f ≡ with_first r g
same_after (Err fault) f g h = refl
same_after (Ok None) f g h = refl
same_after (Ok (Some t)) f g h = ap (λ l. with_first (Ok (Some t)) (λ v. l)) (h t refl)

-- any number of steps above the number of bytes is as good as any other
enough : (n m offset : ℕ) (bytes : List ℕ) → length bytes < n → length bytes < m
    → lexed_in n offset bytes ≡ lexed_in m offset bytes
unfolding lexed_in
enough zero m offset bytes p q = absurd (omega arith)
enough (suc n) zero offset bytes p q = absurd (omega arith)
enough (suc n) (suc m) offset bytes p q = same_after (first_token offset bytes) _ _ (λ t e.
    let less = fewer offset bytes t e in
    enough n m t.end (drop (t.end - offset) bytes) (omega arith) (omega arith))

-- what is read is the first token, and then what is read of the bytes after it
pub lexed_step : (offset : ℕ) (bytes : List ℕ)
    → lexed offset bytes ≡ with_first (first_token offset bytes) (λ t. lexed t.end (drop (t.end - offset) bytes))
unfolding lexed lexed_in
lexed_step offset bytes =
    let steps : length bytes + 1 ≡ suc (length bytes) = omega arith in
    rw steps (same_after (first_token offset bytes) _ _ (λ t e.
    let less = fewer offset bytes t e in
    enough (length bytes) (length (drop (t.end - offset) bytes) + 1) t.end (drop (t.end - offset) bytes) (omega arith)
    (omega arith)))
