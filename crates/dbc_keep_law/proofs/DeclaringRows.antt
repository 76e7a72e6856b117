-- Which statements declare the attribute with suspect parameter numbers: examples that compute.
use Rattle.dbc_keep_law.proofs.Common.{◌≡◌, false, true, [], ◌∷◌, codes, refl, spn_default, spn_definition}
use Rattle.dbc_grammar.specs.Canon.{mark, number, quoted, space, tight, word}
use Rattle.dbc_keep_law.specs.Kept.{defaults_spn, defines_spn}

canonical_definition : defines_spn spn_definition ≡ true
canonical_definition = refl

canonical_default : defaults_spn spn_default ≡ true
canonical_default = refl

-- BA_DEF_ BO_ "SPN" INT 0 1;
of_messages : defines_spn (word tight (codes "BA_DEF_") ∷ word space (codes "BO_") ∷ quoted space (codes "SPN")
    ∷ word space (codes "INT") ∷ number space 0 ∷ number space 1 ∷ mark tight (codes ";") ∷ []) ≡ false
of_messages = refl

-- BA_DEF_REL_ SG_ "SPN" INT 0 1;
of_relations : defines_spn (word tight (codes "BA_DEF_REL_") ∷ word space (codes "SG_") ∷ quoted space (codes "SPN")
    ∷ word space (codes "INT") ∷ number space 0 ∷ number space 1 ∷ mark tight (codes ";") ∷ []) ≡ false
of_relations = refl

-- BA_DEF_DEF_REL_ "SPN" 7;
default_of_relations : defaults_spn (word tight (codes "BA_DEF_DEF_REL_") ∷ quoted space (codes "SPN") ∷ number space 7
    ∷ mark tight (codes ";") ∷ []) ≡ false
default_of_relations = refl

-- BA_DEF_DEF_ "Cycle" 0;
default_of_another : defaults_spn (word tight (codes "BA_DEF_DEF_") ∷ quoted space (codes "Cycle") ∷ number space 0
    ∷ mark tight (codes ";") ∷ []) ≡ false
default_of_another = refl
