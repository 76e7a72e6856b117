-- The words that DBC text reserves (Vector's DBC File Format Documentation, the keywords of its statements),
-- and what is done with a statement that begins with one, which is a choice of this project.
use Rattle.std.specs.Prelude.{ℕ, ◌-◌, ◌==◌, Bool, ◌||◌, List, [], ◌∷◌, length, slice_get, Option, unwrap_or, find}
use Rattle.std.specs.Prelude.{is_some, codes}
use Rattle.std.specs.Str.{bytes_eq}
use Rattle.dbc_words.specs.declared.keyword.Keyword.{Keyword}
use Rattle.dbc_words.specs.declared.keyword.Keyword.TheVariants.{
  Version,
  NewSymbols,
  BitTiming,
  Nodes,
  ValueTable,
  Message,
  Signal,
  Comment,
  ValueTexts,
  SignalValueType,
  AttributeValue,
  MessageTransmitters,
  EnvironmentVariable,
  EnvironmentVariableData,
  EnvironmentData,
  SignalType,
  SignalTypeValues,
  SignalGroup,
  SignalTypeReference,
  SignalTypeValueType,
  Category,
  CategoryDefinition,
  Filter,
  NewSymbolDescription,
  AttributeDefinition,
  AttributeDefault,
  RelationAttributeDefinition,
  RelationAttributeValue,
  RelationAttributeDefault,
  SignalTypeAttributeDefinition,
  SignalTypeAttributeValue,
  NodeSignalRelation,
  NodeEnvironmentRelation,
  NodeMessageRelation,
  ExtendedMultiplexing,
}

-- how each keyword is spelled
abbrev pub keyword_text : Keyword → List ℕ
keyword_text Version = codes "VERSION"
keyword_text NewSymbols = codes "NS_"
keyword_text BitTiming = codes "BS_"
keyword_text Nodes = codes "BU_"
keyword_text ValueTable = codes "VAL_TABLE_"
keyword_text Message = codes "BO_"
keyword_text Signal = codes "SG_"
keyword_text Comment = codes "CM_"
keyword_text ValueTexts = codes "VAL_"
keyword_text SignalValueType = codes "SIG_VALTYPE_"
keyword_text AttributeValue = codes "BA_"
keyword_text MessageTransmitters = codes "BO_TX_BU_"
keyword_text EnvironmentVariable = codes "EV_"
keyword_text EnvironmentVariableData = codes "ENVVAR_DATA_"
keyword_text EnvironmentData = codes "EV_DATA_"
keyword_text SignalType = codes "SGTYPE_"
keyword_text SignalTypeValues = codes "SGTYPE_VAL_"
keyword_text SignalGroup = codes "SIG_GROUP_"
keyword_text SignalTypeReference = codes "SIG_TYPE_REF_"
keyword_text SignalTypeValueType = codes "SIGTYPE_VALTYPE_"
keyword_text Category = codes "CAT_"
keyword_text CategoryDefinition = codes "CAT_DEF_"
keyword_text Filter = codes "FILTER"
keyword_text NewSymbolDescription = codes "NS_DESC_"
keyword_text AttributeDefinition = codes "BA_DEF_"
keyword_text AttributeDefault = codes "BA_DEF_DEF_"
keyword_text RelationAttributeDefinition = codes "BA_DEF_REL_"
keyword_text RelationAttributeValue = codes "BA_REL_"
keyword_text RelationAttributeDefault = codes "BA_DEF_DEF_REL_"
keyword_text SignalTypeAttributeDefinition = codes "BA_DEF_SGTYPE_"
keyword_text SignalTypeAttributeValue = codes "BA_SGTYPE_"
keyword_text NodeSignalRelation = codes "BU_SG_REL_"
keyword_text NodeEnvironmentRelation = codes "BU_EV_REL_"
keyword_text NodeMessageRelation = codes "BU_BO_REL_"
keyword_text ExtendedMultiplexing = codes "SG_MUL_VAL_"

-- all keywords
abbrev pub keywords : List Keyword
keywords =
    Version ∷ NewSymbols ∷ BitTiming ∷ Nodes ∷ ValueTable ∷ Message ∷ Signal ∷ Comment ∷ ValueTexts ∷
    SignalValueType ∷ AttributeValue ∷ MessageTransmitters ∷ EnvironmentVariable ∷
    EnvironmentVariableData ∷ EnvironmentData ∷ SignalType ∷ SignalTypeValues ∷ SignalGroup ∷
    SignalTypeReference ∷ SignalTypeValueType ∷ Category ∷ CategoryDefinition ∷ Filter ∷
    NewSymbolDescription ∷ AttributeDefinition ∷ AttributeDefault ∷ RelationAttributeDefinition ∷
    RelationAttributeValue ∷ RelationAttributeDefault ∷ SignalTypeAttributeDefinition ∷
    SignalTypeAttributeValue ∷ NodeSignalRelation ∷ NodeEnvironmentRelation ∷ NodeMessageRelation ∷
    ExtendedMultiplexing ∷ []

-- the keyword that a word spells
abbrev pub keyword_of : List ℕ → Option Keyword
keyword_of word = find (λ k. bytes_eq (keyword_text k) word) keywords

abbrev pub is_keyword : List ℕ → Bool
is_keyword word = is_some (keyword_of word)

-- `_`, or the last letter of `VERSION` or `FILTER`
abbrev pub is_ending : ℕ → Bool
is_ending b = (b == 95) || (b == 78) || (b == 82)

-- the last byte is one with which a keyword ends
abbrev pub ends_keyword : List ℕ → Bool
ends_keyword word = is_ending (unwrap_or (slice_get word (length word - 1)) 0)

-- what is done with a statement that begins with a keyword
pub data KeywordGroup : Type 0 where
  -- It is read. Its contents are kept, except those of `NS_` and `BS_`; a few forms are skipped and reported.
  Kept : KeywordGroup
  -- It is skipped and reported.
  Passed : KeywordGroup
  -- A file that has it is refused, since skipping it would change which signals are present together.
  Refused : KeywordGroup

-- statements that are read, those that are skipped, and the one that is refused
abbrev pub keyword_group : Keyword → KeywordGroup
keyword_group Version = Kept
keyword_group NewSymbols = Kept
keyword_group BitTiming = Kept
keyword_group Nodes = Kept
keyword_group ValueTable = Kept
keyword_group Message = Kept
keyword_group Signal = Kept
keyword_group Comment = Kept
keyword_group ValueTexts = Kept
keyword_group SignalValueType = Kept
keyword_group AttributeValue = Kept
keyword_group ExtendedMultiplexing = Refused
keyword_group k = Passed
