-- Words of a line, one after the other.
use Rattle.std.proofs.Common.{◌≡◌, ◌≢◌, ℕ, zero, suc, ◌+◌, ◌-◌, ◌++◌, List, ◌∷◌, Option, Some, None, length, refl, ap}
use Rattle.std.proofs.Common.{◌∙◌, arith, length-append}
use Rattle.std.specs.Borrow.{Bor}
use Rattle.std.specs.Prelude.{MatchOption}
use Rattle.office_advice.specs.Words.{offset_of, word_of}

-- how many bytes are left from here on, with the space before them
abbrev pub bytes_after : Option (Bor (List ℕ)) → ℕ
bytes_after None = 0
bytes_after (Some rest) = length rest.now + 1

-- a later word is one of the rest
pub offset_more : (word : List ℕ) (words : List (List ℕ)) (k : ℕ) → k ≢ 0
    → offset_of (word ∷ words) k ≡ length word + 1 + offset_of words (k - 1)
offset_more word words zero ne = absurd (ne refl)
offset_more word words (suc k) ne = let e : suc k - 1 ≡ k = omega arith in rw e refl

pub word_more : (word : List ℕ) (words : List (List ℕ)) (k : ℕ) → k ≢ 0
    → word_of (word ∷ words) k ≡ word_of words (k - 1)
word_more word words zero ne = absurd (ne refl)
word_more word words (suc k) ne = let e : suc k - 1 ≡ k = omega arith in rw e refl

-- the same along the equations of the code
pub offset_after : (before offset k : ℕ) (here : List (List ℕ)) (word : List ℕ) (words : List (List ℕ))
    → here ≡ word ∷ words → k ≢ 0
    → before ≡ offset + offset_of here k → before ≡ offset + (length word + 1) + offset_of words (k - 1)
offset_after before offset k here word words e ne h =
    let more : offset_of here k ≡ length word + 1 + offset_of words (k - 1) = ap (λ ws. offset_of ws k) e
    ∙ offset_more word words k ne in
    omega (arith, h, more)

pub word_after : (before : List ℕ) (k : ℕ) (here : List (List ℕ)) (word : List ℕ) (words : List (List ℕ))
    → here ≡ word ∷ words → k ≢ 0
    → before ≡ word_of here k → before ≡ word_of words (k - 1)
word_after before k here word words e ne h = h ∙ ap (λ ws. word_of ws k) e ∙ word_more word words k ne

-- a word, and what is left after it, are the bytes
pub bytes_more : (line word : List ℕ) (rest : Option (Bor (List ℕ)))
    → MatchOption rest (line ≡ word) (λ r. line ≡ word ++ (32 ∷ r.now))
    → length word + bytes_after rest ≡ length line
bytes_more line word None e = let same : length line ≡ length word = ap length e in omega (arith, same)
bytes_more line word (Some rest) e =
    let same : length line ≡ length word + length (32 ∷ rest.now) = ap length e ∙ length-append word (32 ∷ rest.now) in
    omega (arith, same)
