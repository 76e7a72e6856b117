-- Computed rows of what a statement defines, and of too many texts.
use Rattle.dbc_read.proofs.Common.{◌≡◌, ℕ, true, false, nat_lt, List, [], ◌∷◌, append-nil, length, refl, subst, sym}
use Rattle.dbc_read.proofs.Common.{Nodes, Cited, ValueText}
use Rattle.dbc_grammar.specs.Parsing.{statements_at}
use Rattle.dbc_grammar.specs.Statement as dbc
use Rattle.dbc_read.specs.Definitions.{AreDefinitions, DefineFurther, has_many_texts, is_definition}
use Rattle.dbc_read.specs.declared.gathered.Gathered.{Gathered}

-- a list of nodes defines, and a comment doesn't
nodes_define : is_definition (dbc.NodesAre []) ≡ true
nodes_define = refl

comments_define_nothing : is_definition (dbc.CommentIs []) ≡ false
comments_define_nothing = refl

-- 65,536 texts aren't too many, whatever they are of
limit_is : (cited : Cited) (name : List ℕ) (texts : List ValueText)
    → has_many_texts (dbc.ValueTextsAre cited name texts) ≡ nat_lt 65536 (length texts)
limit_is cited name texts = refl

-- of one list with the node A that node is the only definition, wherever its name is
one_node : (g : Gathered)
    → AreDefinitions (record { start = 0; keyword = Nodes; content = dbc.NodesAre ((65 ∷ []) ∷ []) } ∷ [])
    (record g { nodes = record { at = 5; name = 65 ∷ [] } ∷ []; tables = []; messages = [] })
one_node g = record { nodes = refl; tables = refl; messages = refl }

-- no tokens define anything further
nothing_further : (g : Gathered) → DefineFurther [] g g
unfolding statements_at
nothing_further g = record {
  stated = [];
  read = refl;
  few = tt;
  are =
      λ before are. subst (λ ss. AreDefinitions ss g) (sym (append-nil before)) are;
}
