-- A spelling is the longest at its offset, if what follows does not continue it.
use Rattle.dbc_law.proofs.Common.{◌≡◌, ℕ, ◌+◌, false, List, [], ◌∷◌, ◌++◌, length, Some, sym, ap, subst, ◌∙◌}
use Rattle.dbc_law.proofs.Common.{append_assoc, arith, option_map, length-append, text-Decides, Spells, TokenKind, Name}
use Rattle.dbc_law.proofs.Common.{Text, Mark}
use Rattle.std.proofs.Common.{drop}
use Rattle.dbc_grammar.specs.Lexing.{inside_len, word_len}
use Rattle.dbc_grammar.specs.Tokens.{IsLongest}
use Rattle.dbc_grammar.specs.declared.token.TokenKind.TheVariants.{Number}
use Rattle.dbc_grammar.proofs.TokenBytes.{spelling_begins}
use Rattle.dbc_grammar.proofs.TokenTexts.{inside_exact}
use Rattle.dbc_grammar.proofs.TokenWords.{IsFound, longest_of_all, word_found}
use Rattle.dbc_law.proofs.TokenLengths.{Breaks, name_exact, number_exact}

-- a spelling of the kind ends before the bytes: names and numbers need it, texts and marks end by themselves
abbrev pub Ends : TokenKind → List ℕ → Type 0
Ends Name rest = Breaks rest
Ends Number rest = Breaks rest
Ends Text rest = Unit {0}
Ends Mark rest = Unit {0}

text_exact : (word rest : List ℕ) → Spells Text word → word_len Text (word ++ rest) ≡ Some (length word)
unfolding word_len
text_exact word rest (inside, text, q) =
    let all : word ++ rest ≡ 34 ∷ (inside ++ 34 ∷ rest) = ap (λ v. v ++ rest) q ∙ simp append_assoc in
    let found = inside_exact false inside rest ((text-Decides inside).1 text) in
    let long : length inside + 2 ≡ length word = omega (arith, ap length q, length-append inside (34 ∷ [])) in
    ap (λ v. option_map (λ n. n + 2) (inside_len false (drop 1 v))) all ∙ ap (option_map (λ n. n + 2)) found
    ∙ ap Some long

word_exact : (kind : TokenKind) (word rest : List ℕ) → Spells kind word → Ends kind rest
    → word_len kind (word ++ rest) ≡ Some (length word)
unfolding word_len
word_exact Name word rest s ends = ap Some (name_exact word rest s ends)
word_exact Number word rest s ends = ap Some (number_exact word rest s.0 s.1 ends)
word_exact Text word rest s ends = text_exact word rest s
word_exact Mark word rest s ends = ap Some (sym (ap length s.2))

pub word_longest : (kind : TokenKind) (word rest : List ℕ) → Spells kind word → Ends kind rest
    → IsLongest (length word) (word ++ rest)
word_longest kind word rest s ends =
    let b = spelling_begins kind word s in
    let e : word ++ rest ≡ b.first ∷ (b.after ++ rest) = ap (λ v. v ++ rest) b.parts in
    let long : word_len kind (b.first ∷ (b.after ++ rest)) ≡ Some (length word) = ap (word_len kind) (sym e)
    ∙ word_exact kind word rest s ends in
    let found = subst (IsFound kind b.first (b.after ++ rest)) long
    (word_found b.first (b.after ++ rest) kind b.kind_begins) in
    subst (IsLongest (length word)) (sym e)
    (longest_of_all b.first (b.after ++ rest) kind (length word) b.kind_begins found)
