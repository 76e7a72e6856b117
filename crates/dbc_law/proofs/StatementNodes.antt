-- Lists of nodes, read from the tokens of their pieces.
use Rattle.dbc_law.proofs.Common.{◌≡◌, ◌∙◌, ℕ, false, not, List, [], ◌∷◌, map, Option, Some, None, is_some, refl, sym}
use Rattle.dbc_law.proofs.Common.{ap, inl, inr, codes, All, flat_map, or_parts, All-head, All-tail, IsName, goes_on}
use Rattle.dbc_law.proofs.Common.{node_of, many, Token}
use Rattle.std.proofs.Common.{filter_map}
use Rattle.std.proofs.lemmas.List.{map-id}
use Rattle.dbc_grammar.specs.Canon as canon
use Rattle.dbc_grammar.specs.Fields.{further, no_names, nodes, some_names}
use Rattle.dbc_grammar.specs.Rules.{begins}
use Rattle.dbc_law.proofs.PieceTokens.{line}
use Rattle.dbc_law.proofs.StatementRules.{chain, finish, past, read, then_followed}
use Rattle.dbc_law.proofs.StatementWords.{says_node}

-- the tokens don't begin with a name of a list
abbrev pub EndsList : List Token → Type 0
EndsList rest = goes_on rest ≡ false

none_begins : (rest : List Token) → EndsList rest → begins node_of rest ≡ false
none_begins [] h = refl
none_begins (t ∷ ts) h = (or_parts (is_some (node_of t)) _ h).0

module _ {A : Type 0} (name_of : A → List ℕ) where
  abbrev pub IsNamed : A → Type 0
  IsNamed x = IsName (name_of x)

  -- the names that a list says, where none is left out
  all_kept : (xs : List A) → filter_map (λ (name : Option (List ℕ)). name) (map (λ x. Some (name_of x)) xs)
      ≡ map name_of xs
  all_kept [] = refl
  all_kept (x ∷ xs) = ap (λ names. name_of x ∷ names) (all_kept xs)

  -- ---- with spaces before each

  abbrev spaced : List A → List canon.Piece
  spaced xs = map (λ x. canon.word canon.space (name_of x)) xs

  spaced_further : (xs : List A) (ts rest : List Token) → All IsNamed xs → line ts (spaced xs) rest
      → many further ts (map (λ x. Some (name_of x)) xs) rest
  unfolding further
  spaced_further [] ts rest h same = same
  spaced_further (x ∷ xs) ts rest h (middle, name, others) = (
    middle,
    chain None ts refl (past name (says_node canon.space (name_of x) (All-head IsNamed x xs h)) (finish refl)),
    spaced_further xs middle rest (All-tail IsNamed x xs h) others,
  )

  pub spaced_nodes : (xs : List A) (ts rest : List Token) → All IsNamed xs → line ts (spaced xs) rest → EndsList rest
      → nodes ts (map name_of xs) rest
  unfolding nodes some_names no_names
  spaced_nodes [] ts rest h same end =
      inr (then_followed (ap not (none_begins ts (ap goes_on (sym same) ∙ end))) (finish same))
  spaced_nodes (x ∷ xs) ts rest h (middle, name, others) end =
      inl (past name (says_node canon.space (name_of x) (All-head IsNamed x xs h))
      (chain (map (λ y. Some (name_of y)) xs) rest (spaced_further xs middle rest (All-tail IsNamed x xs h) others)
      (then_followed (ap not end)
      (record { value = ap (λ names. name_of x ∷ names) (sym (all_kept xs)); all = refl }))))

-- ---- the receivers of a signal, with a comma before each further one

abbrev comma_pieces : List (List ℕ) → List canon.Piece
comma_pieces names = flat_map (λ (n : List ℕ). canon.mark canon.tight (codes ",") ∷ canon.word canon.tight n ∷ []) names

comma_further : (names : List (List ℕ)) (ts rest : List Token) → All IsName names → line ts (comma_pieces names) rest
    → many further ts (map Some names) rest
unfolding further
comma_further [] ts rest h same = same
comma_further (n ∷ names) ts rest h (after, comma, (middle, name, others)) = (
  middle,
  chain (Some tt) after (read comma (λ _ _. refl))
      (past name (says_node canon.tight n (All-head IsName n names h)) (finish refl)),
  comma_further names middle rest (All-tail IsName n names h) others,
)

pub receivers_read : (names : List (List ℕ)) (ts rest : List Token) → All IsName names
    → line ts (canon.receiver_pieces names) rest → EndsList rest
    → nodes ts names rest
unfolding nodes some_names
receivers_read [] ts rest h (middle, name, same) end =
    inl (past name (λ _ _. refl)
    (chain [] middle refl (then_followed (ap not (ap goes_on (sym same) ∙ end)) (finish same))))
receivers_read (n ∷ names) ts rest h (middle, name, others) end =
    inl (past name (says_node canon.space n (All-head IsName n names h))
    (chain (map Some names) rest (comma_further names middle rest (All-tail IsName n names h) others)
    (then_followed (ap not end)
    (record { value = ap (λ others. n ∷ others) (sym (all_kept (λ m. m) names ∙ map-id names)); all = refl }))))
