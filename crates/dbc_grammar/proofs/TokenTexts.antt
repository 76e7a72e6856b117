-- The quote that ends a text is the first that no backslash takes.
use Rattle.dbc_grammar.proofs.Common.{◌≡◌, ℕ, suc, ◌<◌, ◌-◌, Bool, true, false, eqb, List, [], ◌∷◌, ◌++◌, length, take}
use Rattle.dbc_grammar.proofs.Common.{Option, Some, None, refl, ap, subst, arith, eqb-true, length-append, take_at}
use Rattle.std.specs.Option.{option_map}
use Rattle.dbc_words.specs.Text.{is_text_after}
use Rattle.dbc_grammar.specs.Lexing.{inside_len}
use Rattle.dbc_grammar.specs.Inside.{inside_of}
use Rattle.dbc_grammar.specs.Spelling.{is_quote, quoted}

-- ---- the length of what is inside

past_one : (b : ℕ) (bytes rest : List ℕ) (quote : Bool) → is_quote b ≡ quote → is_text_after false (b ∷ bytes) ≡ true
    → (is_text_after (eqb b 92) bytes ≡ true → inside_len (eqb b 92) (bytes ++ 34 ∷ rest) ≡ Some (length bytes))
    → inside_len false (b ∷ (bytes ++ 34 ∷ rest)) ≡ Some (suc (length bytes))
unfolding inside_len
past_one b bytes rest true q h after = let no : false ≡ true = rw q at h in absurd cc
past_one b bytes rest false q h after = rw (q, after (rw q at h)) refl

pub inside_exact : (escaped : Bool) (inside rest : List ℕ) → is_text_after escaped inside ≡ true
    → inside_len escaped (inside ++ 34 ∷ rest) ≡ Some (length inside)
unfolding inside_len
inside_exact true [] rest h = absurd cc
inside_exact false [] rest h = refl
inside_exact true (b ∷ bytes) rest h = rw (inside_exact false bytes rest h) refl
inside_exact false (b ∷ bytes) rest h = past_one b bytes rest (is_quote b) refl h (inside_exact (eqb b 92) bytes rest)

-- ---- what is found

-- n bytes are inside, and a quote after them
pub record Closes (escaped : Bool) (bytes : List ℕ) (n : ℕ) : Type 0 where
  pub within : n < length bytes
  pub inside : is_text_after escaped (take n bytes) ≡ true
  pub quote : take (suc n) bytes ≡ take n bytes ++ 34 ∷ []

map_some : (o : Option ℕ) (n : ℕ) → option_map suc o ≡ Some n → (k : ℕ) × (o ≡ Some k) × (suc k ≡ n)
map_some None n e = absurd cc
map_some (Some k) n e = (k, refl, cc)

after_one : (escaped next : Bool) (b : ℕ) (bytes : List ℕ) (n : ℕ)
    → (is_text_after next (take n bytes) ≡ true → is_text_after escaped (b ∷ take n bytes) ≡ true) → Closes next bytes n
    → Closes escaped (b ∷ bytes) (suc n)
after_one escaped next b bytes n step c =
    record { within = omega (arith, c.within); inside = step c.inside; quote = ap (λ v. b ∷ v) c.quote }

closes_plain : (b : ℕ) (bytes : List ℕ) (n : ℕ) (quote : Bool) → is_quote b ≡ quote
    → ((k : ℕ) → inside_len (eqb b 92) bytes ≡ Some k → Closes (eqb b 92) bytes k)
    → inside_len false (b ∷ bytes) ≡ Some n → Closes false (b ∷ bytes) n
unfolding inside_len
closes_plain b bytes n true q after h =
    let none : (let x : Option ℕ = Some 0 in x) ≡ Some n = rw q at h in
    let here : 0 ≡ n = cc in
    subst (Closes false (b ∷ bytes)) here
    (record { within = omega arith; inside = refl; quote = ap (λ c. c ∷ []) (eqb-true b 34 q) })
closes_plain b bytes n false q after h =
    let (k, e, next) = map_some (inside_len (eqb b 92) bytes) n (rw q at h) in
    subst (Closes false (b ∷ bytes)) next (after_one false (eqb b 92) b bytes k (λ t. rw q t) (after k e))

pub closes : (escaped : Bool) (bytes : List ℕ) (n : ℕ) → inside_len escaped bytes ≡ Some n → Closes escaped bytes n
unfolding inside_len
closes escaped [] n h = absurd cc
closes true (b ∷ bytes) n h =
    let m = map_some (inside_len false bytes) n h in
    subst (Closes true (b ∷ bytes)) m.2 (after_one true false b bytes m.0 (λ t. t) (closes false bytes m.0 m.1))
closes false (b ∷ bytes) n h = closes_plain b bytes n (is_quote b) refl (closes (eqb b 92) bytes) h

-- ---- the value

pub inside_kept : (inside : List ℕ) → inside_of (quoted inside) ≡ inside
inside_kept inside = take_at inside (34 ∷ []) (length (quoted inside) - 2)
    (omega (arith, length-append inside (34 ∷ [])))
