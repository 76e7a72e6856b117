-- What contents say of one kind, one after the other.
use Rattle.dbc_law.proofs.Common.{◌≡◌, ◌∙◌, List, [], ◌∷◌, ◌++◌, Option, None, Some, refl, ap, filter_map, Content}
use Rattle.dbc_law.proofs.Common.{Statement}
use Rattle.std.specs.List.{cons_option}
use Rattle.std.proofs.lemmas.List.Elements.{filter_map-append}
use Rattle.dbc_grammar.specs.Saying.{each_in}
use Rattle.dbc_law.proofs.Contents.{contents_of}

-- of this kind the contents say these
pub record States {X : Type 0} (kind : Content → Option X) (cs : List Content) (xs : List X) : Type 0 where
  pub contents_are : filter_map kind cs ≡ xs

module _ {X : Type 0} {kind : Content → Option X} where
  pub no_contents : States kind [] []
  no_contents = record { contents_are = refl }

  -- a content that says nothing of the kind, or x, before others
  pub silent : {c : Content} {cs : List Content} {xs : List X} → kind c ≡ None → States kind cs xs
      → States kind (c ∷ cs) xs
  silent {cs} e more = record { contents_are = ap (λ o. cons_option o (filter_map kind cs)) e ∙ more.contents_are }

  pub speaks : {c : Content} {cs : List Content} {x : X} {xs : List X} → kind c ≡ Some x → States kind cs xs
      → States kind (c ∷ cs) (x ∷ xs)
  speaks {cs} {x} e more =
      record { contents_are = ap (λ o. cons_option o (filter_map kind cs)) e ∙ ap (λ rest. x ∷ rest) more.contents_are }

  infixl 10 ◌also◌
  pub ◌also◌ : {cs ds : List Content} {xs ys : List X} → States kind cs xs → States kind ds ys
      → States kind (cs ++ ds) (xs ++ ys)
  ◌also◌ {cs} {ds} first second =
      record { contents_are = filter_map-append kind cs ds ∙ (λ i. first.contents_are i ++ second.contents_are i) }

  pub states_same : {cs : List Content} {xs ys : List X} → xs ≡ ys → States kind cs xs → States kind cs ys
  states_same e states = record { contents_are = states.contents_are ∙ e }

-- statements say what their contents say
pub each_in-contents : {X : Type 0} (kind : Content → Option X) (statements : List Statement)
    → each_in kind statements ≡ filter_map kind (contents_of statements)
each_in-contents kind [] = refl
each_in-contents kind (x ∷ xs) = ap (λ r. cons_option (kind x.content) r) (each_in-contents kind xs)
