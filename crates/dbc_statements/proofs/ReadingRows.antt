-- Computed rows of what is read from the front of the tokens.
use Rattle.dbc_statements.proofs.Common.{◌≡◌, ℕ, [], ◌∷◌, None, Some, Ok, Err, refl, codes, Token, Mark}
use Rattle.dbc_lex.specs.declared.fault.ReadCode.TheVariants.{Memory, Unexpected}
use Rattle.dbc_statements.specs.Reading.{ReadsTokens, itself, with_mark, with_one}

abbrev colon : Token
colon = record { kind = Mark; start = 3; end = 4; text = codes ":" }

-- the number 7 is read, and the colon after it is left
seven_is_read : ReadsTokens {X = ℕ} itself (Ok 7) (Some (7, colon ∷ [])) (colon ∷ [])
seven_is_read = refl

-- where a token is unexpected, the tokens don't begin with a number
none_is_read : ReadsTokens {X = ℕ} itself (Err (record { code = Unexpected; at = 3 })) None []
none_is_read = λ named. refl

-- where memory ran out, they may all the same
memory_says_nothing : ReadsTokens {X = ℕ} itself (Err (record { code = Memory; at = 3 })) (Some (7, colon ∷ [])) []
memory_says_nothing = λ named. absurd (named refl)

-- 9 comes after 7 and 8
nine_comes_last : with_one {A = ℕ} (7 ∷ 8 ∷ []) (Some (9, colon ∷ [])) ≡ Some (7 ∷ 8 ∷ 9 ∷ [], colon ∷ [])
nine_comes_last = refl

-- after 7 a colon follows, which is read too, and no semicolon
colon_follows : with_mark {A = ℕ} (Some (7, colon ∷ [])) (codes ":") ≡ Some (7, [])
colon_follows = refl

no_semicolon_follows : with_mark {A = ℕ} (Some (7, colon ∷ [])) (codes ";") ≡ None
no_semicolon_follows = refl
