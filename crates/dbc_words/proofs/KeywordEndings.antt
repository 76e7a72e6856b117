-- Words that are keywords, and words that are none by their last byte.
use Rattle.dbc_words.proofs.Common.{◌≡◌, ◌∙◌, ℕ, true, false, List, [], ◌∷◌, None, refl, sym, ap, find, bytes_eq}
use Rattle.dbc_words.proofs.Common.{false≢true, bytes_eq-Decides}
use Rattle.std.specs.List.{list_all}
use Rattle.std.proofs.lemmas.Bool.{and_parts, false_from_ne_true}
use Rattle.dbc_words.specs.Keyword.{ends_keyword, keyword_of, keyword_text, keywords}
use Rattle.dbc_words.specs.declared.keyword.Keyword.{Keyword}

-- a word that passes the test is not the one that fails it
differs : (word text : List ℕ) → ends_keyword word ≡ false → ends_keyword text ≡ true → bytes_eq text word ≡ false
differs word text fails ends =
    false_from_ne_true (bytes_eq text word)
    (λ same. false≢true (sym fails ∙ ap ends_keyword (sym ((bytes_eq-Decides text word).0 same)) ∙ ends))

none_found : (word : List ℕ) (ks : List Keyword) → list_all (λ k. ends_keyword (keyword_text k)) ks ≡ true
    → ends_keyword word ≡ false
    → find (λ k. bytes_eq (keyword_text k) word) ks ≡ None
none_found word [] all fails = refl
none_found word (k ∷ ks) all fails =
    let parts = and_parts (ends_keyword (keyword_text k)) (list_all (λ j. ends_keyword (keyword_text j)) ks) all in
    rw (differs word (keyword_text k) fails parts.0) (none_found word ks parts.1 fails)

pub no_keyword : (word : List ℕ) → ends_keyword word ≡ false → keyword_of word ≡ None
no_keyword word fails = none_found word keywords refl fails
