-- The parts of a list of bytes round a separator.
use Rattle.std.proofs.Common.{rules, tests, ◌≡◌, ◌≢◌, ◌==◌, ℕ, false, List, [], ◌∷◌, ◌++◌, ap, ◌∙◌, inl, inr}
use Rattle.std.specs.List.{slice_split, onto_first, join_with_byte, All}
use Rattle.std.proofs.lemmas.List.Splits.{slice_split_none, slice_split_at, slice_split-cons_yes, slice_split-cons_no}
use Rattle.std.proofs.lemmas.List.Elements.{All-weaker, All-head, All-tail, All-cons, All-nil}
use Rattle.std.proofs.lemmas.Bool.{ne_eqb}
use Rattle.std.proofs.lemmas.Bool.Decides.{eqb_tells}

-- the bytes have no `c` among them
abbrev pub Lacks : ℕ → List ℕ → Type 0
Lacks c bs = All (λ b. b ≢ c) bs

-- bytes that lack the separator fail the test for it
pub none_passes : (c : ℕ) (bs : List ℕ) → Lacks c bs → All (λ b. (b == c) ≡ false) bs
none_passes c bs h = All-weaker (λ b. b ≢ c) (λ b. (b == c) ≡ false) (λ b ne. ne_eqb b c ne) bs h

-- the first part, and those of what follows
pub split_at_separator : (c : ℕ) (before after : List ℕ) → Lacks c before
    → slice_split (λ b. b == c) (before ++ (c ∷ after)) ≡ before ∷ slice_split (λ b. b == c) after
split_at_separator c before after h =
    slice_split_at (λ b. b == c) before c after (none_passes c before h) (search (rules, tests))

-- the one part
pub split_without_separator : (c : ℕ) (bs : List ℕ) → Lacks c bs → slice_split (λ b. b == c) bs ≡ bs ∷ []
split_without_separator c bs h = slice_split_none (λ b. b == c) bs (none_passes c bs h)

-- a byte other than the separator, put before the first part
onto_first_lacks : (c x : ℕ) (parts : List (List ℕ)) → x ≢ c → All (Lacks c) parts → All (Lacks c) (onto_first x parts)
onto_first_lacks c x [] ne h = All-cons (Lacks c) (x ∷ []) [] (All-cons (λ b. b ≢ c) x [] ne (All-nil (λ b. b ≢ c))) h
onto_first_lacks c x (part ∷ parts) ne h =
    All-cons (Lacks c) (x ∷ part) parts (All-cons (λ b. b ≢ c) x part ne (All-head (Lacks c) part parts h))
    (All-tail (Lacks c) part parts h)

-- no part has the separator in it
pub parts_lack : (c : ℕ) (bs : List ℕ) → All (Lacks c) (slice_split (λ b. b == c) bs)
parts_lack c [] = All-cons (Lacks c) [] [] (All-nil (λ b. b ≢ c)) (All-nil (Lacks c))
parts_lack c (x ∷ xs) =
    elim (eqb_tells x c) [
      | inl h ↦ rw (slice_split-cons_yes (λ b. b == c) x xs h.0)
          (All-cons (Lacks c) [] (slice_split (λ b. b == c) xs) (All-nil (λ b. b ≢ c)) (parts_lack c xs))
      | inr h ↦ rw (slice_split-cons_no (λ b. b == c) x xs h.0)
          (onto_first_lacks c x (slice_split (λ b. b == c) xs) h.1 (parts_lack c xs))
    ]

-- the parts of parts that were joined
pub split_joined : (c : ℕ) (part : List ℕ) (parts : List (List ℕ)) → All (Lacks c) (part ∷ parts)
    → slice_split (λ b. b == c) (join_with_byte c (part ∷ parts)) ≡ part ∷ parts
split_joined c part [] h = split_without_separator c part (All-head (Lacks c) part [] h)
split_joined c part (next ∷ parts) h =
    split_at_separator c part (join_with_byte c (next ∷ parts)) (All-head (Lacks c) part (next ∷ parts) h)
    ∙ ap (λ ps. part ∷ ps) (split_joined c next parts (All-tail (Lacks c) part (next ∷ parts) h))
