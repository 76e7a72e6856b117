-- Whether a statement declares the attribute with suspect parameter numbers is seen by its first three tokens.
use Rattle.dbc_keep.proofs.Common.{◌≡◌, ◌==◌, ◌&&◌, ℕ, Bool, true, false, List, [], ◌∷◌, drop, refl, sym, ap, ◌∙◌}
use Rattle.dbc_keep.proofs.Common.{Keyword, Message, is_open, starts, Token, others_of, run_of, to_mark, tokens_at}
use Rattle.dbc_keep.proofs.Common.{defaults_spn, defines_spn, place_of, line_of, Passed}
use Rattle.std.proofs.Common.{codes}
use Rattle.std.specs.Str.{bytes_eq}
use Rattle.dbc_grammar.specs.Fields.{is_mark}
use Rattle.dbc_grammar.proofs.ExactFields.{mark_text}
use Rattle.dbc_keep.specs.Finding.{found_in, has_text, says_there}

abbrev pub spn_text : List ℕ
spn_text = codes "\"SPN\""

abbrev pub definition_text : List ℕ
definition_text = codes "BA_DEF_"

abbrev pub default_text : List ℕ
default_text = codes "BA_DEF_DEF_"

abbrev pub signal_text : List ℕ
signal_text = codes "SG_"

none_of : (b : Bool) → (b && false) ≡ false
none_of true = refl
none_of false = refl

closed_text : (t : Token) → is_open t ≡ false → t.text ≡ codes ";"
closed_text t e = by_test (is_mark (codes ";") t) refl e
  where
    by_test : (b : Bool) → is_mark (codes ";") t ≡ b → is_open t ≡ false → t.text ≡ codes ";"
    by_test true m h = mark_text (codes ";") t m
    by_test false m h = let no : is_open t ≡ true = rw m refl in let not : true ≡ false = sym no ∙ h in absurd cc

closed_other : (t : Token) → is_open t ≡ false → bytes_eq t.text signal_text ≡ false
closed_other t e = rw (closed_text t e) refl

-- ---- of the tokens up to `;`

module _ (source : List ℕ) (t : Token) where
  third_by : (u v : Token) (us : List Token) (b : Bool) → is_open v ≡ b → is_open u ≡ true
      → defines_spn (line_of source (t ∷ to_mark (u ∷ v ∷ us)))
      ≡ (bytes_eq t.text definition_text && (bytes_eq u.text signal_text && bytes_eq v.text spn_text))
  third_by u v us true e h = rw (h, e) refl
  third_by u v us false e h = rw (h, e) refl

  second_by : (u : Token) (us : List Token) (b : Bool) → is_open u ≡ b
      → defines_spn (line_of source (t ∷ to_mark (u ∷ us)))
      ≡ (bytes_eq t.text definition_text && (bytes_eq u.text signal_text && starts (has_text spn_text) us))
  second_by u [] true e =
      rw (e, none_of (bytes_eq u.text signal_text)) (sym (none_of (bytes_eq t.text definition_text)))
  second_by u (v ∷ us) true e = third_by u v us (is_open v) refl e
  second_by u us false e = rw (e, closed_other u e) (sym (none_of (bytes_eq t.text definition_text)))

  defines_by_words : (ts : List Token) → defines_spn (line_of source (t ∷ to_mark ts))
      ≡ (bytes_eq t.text definition_text
      && (starts (has_text signal_text) ts && starts (has_text spn_text) (drop 1 ts)))
  defines_by_words [] = sym (none_of (bytes_eq t.text definition_text))
  defines_by_words (u ∷ us) = second_by u us (is_open u) refl

  default_by : (u : Token) (us : List Token) (b : Bool) → is_open u ≡ b
      → defaults_spn (line_of source (t ∷ to_mark (u ∷ us)))
      ≡ (bytes_eq t.text default_text && bytes_eq u.text spn_text)
  default_by u us true e = rw e refl
  default_by u us false e = rw e refl

  defaults_by_words : (ts : List Token) → defaults_spn (line_of source (t ∷ to_mark ts))
      ≡ (bytes_eq t.text default_text && starts (has_text spn_text) ts)
  defaults_by_words [] = sym (none_of (bytes_eq t.text default_text))
  defaults_by_words (u ∷ us) = default_by u us (is_open u) refl

-- ---- of a statement of the place

definition_to_mark : (k : Keyword) → (place_of k == 6) ≡ true → (ts : List Token) → others_of k ts ≡ to_mark ts
definition_to_mark Message h ts = absurd cc
definition_to_mark k h ts = refl

default_to_mark : (k : Keyword) → (place_of k == 7) ≡ true → (ts : List Token) → others_of k ts ≡ to_mark ts
default_to_mark Message h ts = absurd cc
default_to_mark k h ts = refl

module _ (source : List ℕ) (one : Passed) (tokens : List Token) (there : tokens_at source one.at ≡ tokens) where
  abbrev defines : List Token → Bool
  defines ts = starts (has_text definition_text) ts
      && (starts (has_text signal_text) (drop 1 ts) && starts (has_text spn_text) (drop 1 (drop 1 ts)))

  abbrev defaults : List Token → Bool
  defaults ts = starts (has_text default_text) ts && starts (has_text spn_text) (drop 1 ts)

  defines_there : (ts : List Token) → tokens ≡ ts → (place_of one.keyword == 6) ≡ true
      → defines_spn (found_in source one).line ≡ defines ts
  defines_there [] e h = ap (λ (ts : List Token). defines_spn (line_of source (run_of one.keyword ts))) (there ∙ e)
  defines_there (t ∷ ts) e h =
      ap (λ (ts : List Token). defines_spn (line_of source (run_of one.keyword ts))) (there ∙ e)
      ∙ ap (λ (ts : List Token). defines_spn (line_of source (t ∷ ts))) (definition_to_mark one.keyword h ts)
      ∙ defines_by_words source t ts

  defaults_there : (ts : List Token) → tokens ≡ ts → (place_of one.keyword == 7) ≡ true
      → defaults_spn (found_in source one).line ≡ defaults ts
  defaults_there [] e h = ap (λ (ts : List Token). defaults_spn (line_of source (run_of one.keyword ts))) (there ∙ e)
  defaults_there (t ∷ ts) e h =
      ap (λ (ts : List Token). defaults_spn (line_of source (run_of one.keyword ts))) (there ∙ e)
      ∙ ap (λ (ts : List Token). defaults_spn (line_of source (t ∷ ts))) (default_to_mark one.keyword h ts)
      ∙ defaults_by_words source t ts

  says_defines : (place_of one.keyword == 6) ≡ true → says_there source 6 defines_spn one ≡ defines tokens
  says_defines h = rw h (defines_there tokens refl h)

  says_default : (place_of one.keyword == 7) ≡ true → says_there source 7 defaults_spn one ≡ defaults tokens
  says_default h = rw h (defaults_there tokens refl h)

  -- of the definition

  pub no_definition : (place_of one.keyword == 6) ≡ true → starts (has_text definition_text) tokens ≡ false
      → says_there source 6 defines_spn one ≡ false
  no_definition h e = says_defines h ∙ rw e refl

  pub no_signal : (place_of one.keyword == 6) ≡ true → starts (has_text definition_text) tokens ≡ true
      → starts (has_text signal_text) (drop 1 tokens) ≡ false → says_there source 6 defines_spn one ≡ false
  no_signal h d e = says_defines h ∙ rw (d, e) refl

  pub signal_named : (place_of one.keyword == 6) ≡ true → starts (has_text definition_text) tokens ≡ true
      → starts (has_text signal_text) (drop 1 tokens) ≡ true
      → says_there source 6 defines_spn one ≡ starts (has_text spn_text) (drop 1 (drop 1 tokens))
  signal_named h d e = says_defines h ∙ rw (d, e) refl

  -- of the default

  pub no_default : (place_of one.keyword == 7) ≡ true → starts (has_text default_text) tokens ≡ false
      → says_there source 7 defaults_spn one ≡ false
  no_default h e = says_default h ∙ rw e refl

  pub default_named : (place_of one.keyword == 7) ≡ true → starts (has_text default_text) tokens ≡ true
      → says_there source 7 defaults_spn one ≡ starts (has_text spn_text) (drop 1 tokens)
  default_named h d = says_default h ∙ rw d refl
