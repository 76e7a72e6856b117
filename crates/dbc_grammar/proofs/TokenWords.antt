-- The longest spelling with which the bytes begin is found from their first byte.
use Rattle.dbc_grammar.proofs.Common.{◌≡◌, ℕ, suc, ◌+◌, ◌≤◌, Bool, true, false, cond, List, [], ◌∷◌, ◌++◌, length, take}
use Rattle.dbc_grammar.proofs.Common.{Option, Some, None, refl, sym, ap, subst, ◌∙◌, arith, append_assoc}
use Rattle.dbc_grammar.proofs.Common.{is_ascii_digit, prefix_len, list_all, and_parts, and_from, eqb-true}
use Rattle.dbc_grammar.proofs.Common.{length-append, prefix_len-le-length, prefix_all, starts_identifier, text-Decides}
use Rattle.std.specs.Option.{option_map}
use Rattle.dbc_words.specs.Name.{continues_identifier, is_c_identifier}
use Rattle.dbc_grammar.specs.declared.token.TokenKind.{TokenKind}
use Rattle.dbc_grammar.specs.declared.token.TokenKind.TheVariants.{Name, Number, Text, Mark}
use Rattle.dbc_grammar.specs.Lexing.{inside_len, kind_of, number_len, word_len}
use Rattle.dbc_grammar.specs.Spelling.{Spells, is_mark, is_quote}
use Rattle.dbc_grammar.specs.Tokens.{IsLongest}
use Rattle.dbc_grammar.proofs.TokenBytes.{Begins, begins_further, one_kind}
use Rattle.dbc_grammar.proofs.TokenNumbers.{number_found, number_le, number_within}
use Rattle.dbc_grammar.proofs.TokenRuns.{prefix_le}
use Rattle.dbc_grammar.proofs.TokenTexts.{closes, inside_exact}

-- no spelling of the kind begins the bytes
abbrev pub IsNone : TokenKind → List ℕ → Type 0
IsNone kind bytes = (word rest : List ℕ) → Spells kind word → bytes ≡ word ++ rest → ⊥

-- n bytes are a spelling of the kind, and the longest one
pub record IsWord (kind : TokenKind) (bytes : List ℕ) (n : ℕ) : Type 0 where
  pub within : n ≤ length bytes
  pub spelled : Spells kind (take n bytes)
  pub longest : (word rest : List ℕ) → Spells kind word → bytes ≡ word ++ rest → length word ≤ n

-- what it means to find this many bytes; only a text that isn't closed isn't found though its first byte begins one
abbrev pub IsFound : TokenKind → ℕ → List ℕ → Option ℕ → Type 0
IsFound kind b bytes None = (is_quote b ≡ true) × IsNone kind (b ∷ bytes)
IsFound kind b bytes (Some n) = IsWord kind (b ∷ bytes) n

-- ---- each kind

continues : (b : ℕ) → starts_identifier b ≡ true → continues_identifier b ≡ true
continues b h = rw h refl

pub name_continues : (word : List ℕ) → is_c_identifier word ≡ true → list_all continues_identifier word ≡ true
name_continues [] h = refl
name_continues (b ∷ bytes) h =
    let parts = and_parts (starts_identifier b) (list_all continues_identifier bytes) h in
    and_from _ _ (continues b parts.0) parts.1

name_found : (b : ℕ) (bytes : List ℕ) → starts_identifier b ≡ true
    → IsWord Name (b ∷ bytes) (prefix_len continues_identifier (b ∷ bytes))
name_found b bytes h = record {
  within = prefix_len-le-length continues_identifier (b ∷ bytes);
  spelled = rw (continues b h, one_more) (and_from _ _ h (prefix_all continues_identifier bytes));
  longest = λ word rest s e.
      let le = prefix_le continues_identifier word rest (name_continues word s) in
      subst (λ v. length word ≤ prefix_len continues_identifier v) (sym e) le;
}
  where
    one_more : 1 + prefix_len continues_identifier bytes ≡ suc (prefix_len continues_identifier bytes)
    one_more = omega arith

number_is_found : (b : ℕ) (bytes : List ℕ) → is_ascii_digit b ≡ true
    → IsWord Number (b ∷ bytes) (number_len (b ∷ bytes))
number_is_found b bytes h = record {
  within = number_within (b ∷ bytes);
  spelled = number_found (b ∷ bytes) (rw h (omega arith));
  longest = λ word rest s e. rw e (number_le word rest s.0 s.1);
}

-- what is inside a text that the bytes begin with
text_inside : (b : ℕ) (bytes word rest : List ℕ) → (s : Spells Text word) → b ∷ bytes ≡ word ++ rest
    → inside_len false bytes ≡ Some (length s.0)
text_inside b bytes word rest (inside, text, q) e =
    let all : b ∷ bytes ≡ 34 ∷ (inside ++ 34 ∷ rest) = e ∙ ap (λ v. v ++ rest) q ∙ simp append_assoc in
    let after : bytes ≡ inside ++ 34 ∷ rest = cc in
    ap (inside_len false) after ∙ inside_exact false inside rest ((text-Decides inside).1 text)

text_found : (bytes : List ℕ) (n : ℕ) → inside_len false bytes ≡ Some n → IsWord Text (34 ∷ bytes) (n + 2)
text_found bytes n h =
    let c = closes false bytes n h in
    let two : n + 2 ≡ suc (suc n) = omega arith in
    record {
      within = omega (arith, c.within);
      spelled = (take n bytes, (text-Decides (take n bytes)).0 c.inside, rw two (ap (λ v. 34 ∷ v) c.quote));
      longest = λ word rest s e.
          let same : Some n ≡ Some (length s.0) = sym h ∙ text_inside 34 bytes word rest s e in
          let long : n ≡ length s.0 = cc in
          omega (arith, long, ap length s.2, length-append s.0 (34 ∷ []));
    }

text_is_found : (bytes : List ℕ) (o : Option ℕ) → inside_len false bytes ≡ o
    → IsFound Text 34 bytes (option_map (λ n. n + 2) o)
text_is_found bytes (Some n) h = text_found bytes n h
text_is_found bytes None h =
    (refl, λ word rest s e. let no : None ≡ Some (length s.0) = sym h ∙ text_inside 34 bytes word rest s e in absurd cc)

mark_found : (b : ℕ) (bytes : List ℕ) → is_mark b ≡ true → IsWord Mark (b ∷ bytes) 1
mark_found b bytes h = record {
  within = omega arith;
  spelled = (b, h, refl);
  longest = λ word rest s e. omega (arith, ap length s.2);
}

-- ---- the kind that the first byte determines

by_first : (b : ℕ) (bytes : List ℕ) (kind : TokenKind) (letter digit quote mark : Bool)
    → starts_identifier b ≡ letter → is_ascii_digit b ≡ digit → is_quote b ≡ quote → is_mark b ≡ mark
    → cond letter (Some Name) (cond digit (Some Number) (cond quote (Some Text) (cond mark (Some Mark) None)))
    ≡ Some kind
    → IsFound kind b bytes (word_len kind (b ∷ bytes))
unfolding word_len
by_first b bytes kind true digit quote mark l d q m h =
    let same : Name ≡ kind = cc in
    subst (λ k. IsFound k b bytes (word_len k (b ∷ bytes))) same (name_found b bytes l)
by_first b bytes kind false true quote mark l d q m h =
    let same : Number ≡ kind = cc in
    subst (λ k. IsFound k b bytes (word_len k (b ∷ bytes))) same (number_is_found b bytes d)
by_first b bytes kind false false true mark l d q m h =
    let same : Text ≡ kind = cc in
    let found = text_is_found bytes (inside_len false bytes) refl in
    let here = subst (λ c. IsFound Text c bytes (option_map (λ n. n + 2) (inside_len false bytes)))
    (sym (eqb-true b 34 q)) found in
    subst (λ k. IsFound k b bytes (word_len k (b ∷ bytes))) same here
by_first b bytes kind false false false true l d q m h =
    let same : Mark ≡ kind = cc in
    subst (λ k. IsFound k b bytes (word_len k (b ∷ bytes))) same (mark_found b bytes m)
by_first b bytes kind false false false false l d q m h = absurd cc

pub word_found : (b : ℕ) (bytes : List ℕ) (kind : TokenKind) → kind_of b ≡ Some kind
    → IsFound kind b bytes (word_len kind (b ∷ bytes))
word_found b bytes kind h = by_first b bytes kind (starts_identifier b) (is_ascii_digit b) (is_quote b) (is_mark b) refl
    refl refl refl h

-- ---- a spelling of any kind is one of that kind

pub of_that_kind : (b : ℕ) (bytes : List ℕ) (kind : TokenKind) → kind_of b ≡ Some kind
    → (k : TokenKind) (word rest : List ℕ) → Spells k word → b ∷ bytes ≡ word ++ rest → Spells kind word
of_that_kind b bytes kind h k word rest s e =
    let here : Begins kind (b ∷ bytes) = record { first = b; after = bytes; parts = refl; kind_begins = h } in
    let same : k ≡ kind = one_kind k kind (word ++ rest) (b ∷ bytes) (begins_further k word rest s) here (sym e) in
    subst (λ l. Spells l word) same s

pub longest_of_all : (b : ℕ) (bytes : List ℕ) (kind : TokenKind) (n : ℕ) → kind_of b ≡ Some kind
    → IsWord kind (b ∷ bytes) n → IsLongest n (b ∷ bytes)
longest_of_all b bytes kind n h found =
    λ k word rest s e. found.longest word rest (of_that_kind b bytes kind h k word rest s e) e
