-- What the words of a line are, and which request they make.
use Rattle.std.proofs.Common.{◌≡◌, ◌==◌, ◌↔◌, ℕ, List, [], ◌∷◌, Some, refl, sym, ap, ◌∙◌, arith}
use Rattle.std.specs.List.{join_with_byte}
use Rattle.std.proofs.lemmas.List.Splits.{length-slice_split, join_with_byte-slice_split}
use Rattle.office_fields.specs.Value.{plain_name_of}
use Rattle.office_fields.specs.declared.requested.Requested.{Requested}
use Rattle.office_script.specs.declared.keys.Dash.{Dash}
use Rattle.office_script.specs.Keys.{key_of}
use Rattle.office_script.specs.Requests.{requested_by, request_of_words}
use Rattle.office_script.proofs.Parts.{parts_lack, split_joined}
use Rattle.office_script.specs.Words.{words_of, AreWordsOf}

-- `words_of` gives the words
words_of_are : (line : List ℕ) → AreWordsOf line (words_of line)
words_of_are line = record {
  some = omega (arith, length-slice_split (λ b. b == 32) line);
  apart = parts_lack 32 line;
  joined = join_with_byte-slice_split 32 line;
}

-- and no other lists are
are_words_of : (line : List ℕ) (words : List (List ℕ)) → AreWordsOf line words → words ≡ words_of line
are_words_of line [] h = absurd (omega (arith, h.some))
are_words_of line (word ∷ words) h = sym (split_joined 32 word words h.apart) ∙ ap words_of h.joined

-- the words of a line are one list
pub words_law : (line : List ℕ) (words : List (List ℕ)) → (AreWordsOf line words ↔ (words ≡ words_of line))
words_law line words = (are_words_of line words, λ e. rw e (words_of_are line))

-- the request of a line's parts: what its text requests, under its key
pub parts_make : (dash : Dash) (number : ℕ) (first second text word : List ℕ) (rest : List (List ℕ)) (key team : List ℕ)
    (requested : Requested) (copy : List ℕ) → words_of text ≡ word ∷ rest
    → key_of dash number first ≡ Some key → plain_name_of second ≡ Some team → requested_by word rest ≡ Some requested
    → copy ≡ text
    → request_of_words dash number (first ∷ second ∷ words_of text)
    ≡ Some (record { team = team; key = key; text = copy; requested = requested })
parts_make dash number first second text word rest key team requested copy split is_key is_team requests same =
    let joined : join_with_byte 32 (word ∷ rest) ≡ copy = ap (join_with_byte 32) (sym split)
    ∙ join_with_byte-slice_split 32 text ∙ sym same in
    let made : request_of_words dash number (first ∷ second ∷ word ∷ rest)
    ≡ Some (record { team = team; key = key; text = join_with_byte 32 (word ∷ rest); requested = requested }) =
    rw (is_key, is_team, requests) refl in
    ap (λ words. request_of_words dash number (first ∷ second ∷ words)) split ∙ made
    ∙ ap (λ (t : List ℕ). Some (record { team = team; key = key; text = t; requested = requested })) joined
