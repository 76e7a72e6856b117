-- One call of the lexer.
use Rattle.std.proofs.Common.{◌≡◌, ℕ, ◌+◌, ◌-◌, ◌≤◌, List, drop, Option, Some, None, Result, Ok, Err, sym, ap, ◌∙◌}
use Rattle.std.proofs.Common.{arith}
use Rattle.std.specs.List.{prefix_len}
use Rattle.std.proofs.lemmas.List.{drop-drop}
use Rattle.dbc_grammar.specs.Lexing.{LexFault, Lexed, first_token, lexed, token_at, with_first}
use Rattle.dbc_grammar.specs.Spelling.{is_gap}
use Rattle.dbc_grammar.specs.Token.{Token}
use Rattle.dbc_grammar.proofs.TokenSteps.{lexed_step}

-- what is read of the bytes from the offset on
abbrev pub lexed_from : List ℕ → ℕ → Lexed
lexed_from bytes at = lexed at (drop at bytes)

module _ (bytes : List ℕ) (at start : ℕ) (is : start ≡ at + prefix_len is_gap (drop at bytes)) where
  -- the first token is the one after the gap
  first_is : first_token at (drop at bytes) ≡ token_at start (drop start bytes)
  unfolding first_token
  first_is =
      let gap = prefix_len is_gap (drop at bytes) in
      ap (token_at (at + gap)) (drop-drop gap at bytes) ∙ ap (λ n. token_at n (drop n bytes)) (sym is)

  read_is : (r : Result (Option Token) LexFault) → token_at start (drop start bytes) ≡ r
      → lexed_from bytes at ≡ with_first r (λ t. lexed t.end (drop (t.end - at) (drop at bytes)))
  read_is r h = lexed_step at (drop at bytes)
      ∙ ap (λ v. with_first v (λ t. lexed t.end (drop (t.end - at) (drop at bytes)))) (first_is ∙ h)

  -- what is read is that token, and then what is read from its end on
  pub token_read : (t : Token) → at ≤ t.end → token_at start (drop start bytes) ≡ Ok (Some t)
      → lexed_from bytes at ≡ with_first (Ok (Some t)) (λ t. lexed_from bytes t.end)
  token_read t within h =
      let on : at + (t.end - at) ≡ t.end = omega (arith, within) in
      read_is (Ok (Some t)) h ∙ ap (λ v. with_first (Ok (Some t)) (λ _. lexed t.end v))
      (drop-drop (t.end - at) at bytes ∙ ap (λ n. drop n bytes) on)

  -- at the end of the text
  pub none_read : token_at start (drop start bytes) ≡ Ok None
      → lexed_from bytes at ≡ with_first (Ok None) (λ t. lexed_from bytes t.end)
  none_read h = read_is (Ok None) h

  -- where no token begins
  pub fault_read : (fault : LexFault) → token_at start (drop start bytes) ≡ Err fault
      → lexed_from bytes at ≡ with_first (Err fault) (λ t. lexed_from bytes t.end)
  fault_read fault h = read_is (Err fault) h
