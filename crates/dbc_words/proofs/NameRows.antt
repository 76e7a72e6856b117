-- Rows of keywords and names, computed.
use Rattle.dbc_words.proofs.Common.{◌≡◌, true, false, [], ◌∷◌, map, Some, None, refl, codes}
use Rattle.std.proofs.Common.{replicate}
use Rattle.dbc_words.specs.Keyword.{keyword_of}
use Rattle.dbc_words.specs.Name.{is_c_identifier, is_name}
use Rattle.dbc_words.specs.declared.keyword.Keyword.TheVariants.{Message, ValueTable, RelationAttributeDefault}
use Rattle.dbc_words.specs.declared.keyword.Keyword.TheVariants.{ExtendedMultiplexing}

keywords : map keyword_of (codes "BO_" ∷ codes "VAL_TABLE_" ∷ codes "BA_DEF_DEF_REL_" ∷ codes "SG_MUL_VAL_" ∷ [])
    ≡ Some Message ∷ Some ValueTable ∷ Some RelationAttributeDefault ∷ Some ExtendedMultiplexing ∷ []
keywords = refl

no_keywords : map keyword_of (codes "BO" ∷ codes "bo_" ∷ [] ∷ [])
    ≡ None ∷ None ∷ None ∷ []
no_keywords = refl

names : map is_name (codes "ECU" ∷ codes "_9a" ∷ codes "Vector__XXX_" ∷ replicate 128 97 ∷ [])
    ≡ true ∷ true ∷ true ∷ true ∷ []
unfolding is_name
names = refl

-- too long, too short, another byte first, another byte in it, a keyword, and the name of no node
no_names : map is_name (replicate 129 97 ∷ [] ∷ codes "9a" ∷ codes "a-b" ∷ (97 ∷ 195 ∷ []) ∷ codes "EV_"
    ∷ codes "Vector__XXX" ∷ [])
    ≡ false ∷ false ∷ false ∷ false ∷ false ∷ false ∷ false ∷ []
unfolding is_name
no_names = refl

identifier_of_any_length : is_c_identifier (replicate 129 97) ≡ true
identifier_of_any_length = refl
