-- The kinds of remarks, with their numbers and names.
use Rattle.std.specs.Prelude.{ℕ, ◌==◌, Bool, not, ◌||◌, List, [], ◌∷◌, length, codes, find, Option, None, is_some}
use Rattle.std.specs.Prelude.{if◌then◌else◌}
use Rattle.std.specs.List.{list_any, slice_split}
use Rattle.std.specs.Str.{bytes_eq}
use Rattle.dbc_lint.specs.declared.kind.Kind.{Kind}
use Rattle.dbc_lint.specs.declared.kind.Kind.TheVariants.{LongName, ZeroFactor, RangeInverted, RangeOutside, FloatSize}
use Rattle.dbc_lint.specs.declared.kind.Kind.TheVariants.{MuxOutside, MuxUnused, SpnTwice, ValueOutside, ValueTwice}
use Rattle.dbc_lint.specs.declared.kind.Kind.TheVariants.{UnknownNode, LongFrame, AddressTwice, IdleNode}

abbrev pub kind_number : Kind → ℕ
kind_number LongName = 80
kind_number ZeroFactor = 81
kind_number RangeInverted = 82
kind_number RangeOutside = 83
kind_number FloatSize = 84
kind_number MuxOutside = 85
kind_number MuxUnused = 86
kind_number SpnTwice = 87
kind_number ValueOutside = 88
kind_number ValueTwice = 89
kind_number UnknownNode = 90
kind_number LongFrame = 91
kind_number AddressTwice = 92
kind_number IdleNode = 93

abbrev pub kind_name : Kind → List ℕ
kind_name LongName = codes "LongName"
kind_name ZeroFactor = codes "ZeroFactor"
kind_name RangeInverted = codes "RangeInverted"
kind_name RangeOutside = codes "RangeOutside"
kind_name FloatSize = codes "FloatSize"
kind_name MuxOutside = codes "MuxOutside"
kind_name MuxUnused = codes "MuxUnused"
kind_name SpnTwice = codes "SpnTwice"
kind_name ValueOutside = codes "ValueOutside"
kind_name ValueTwice = codes "ValueTwice"
kind_name UnknownNode = codes "UnknownNode"
kind_name LongFrame = codes "LongFrame"
kind_name AddressTwice = codes "AddressTwice"
kind_name IdleNode = codes "IdleNode"

-- in ascending order of their numbers
abbrev pub all_kinds : List Kind
all_kinds =
    LongName ∷ ZeroFactor ∷ RangeInverted ∷ RangeOutside ∷ FloatSize ∷ MuxOutside ∷ MuxUnused ∷ SpnTwice
    ∷ ValueOutside ∷ ValueTwice ∷ UnknownNode ∷ LongFrame ∷ AddressTwice ∷ IdleNode ∷ []

-- the kind of the name
abbrev pub kind_of : List ℕ → Option Kind
kind_of name = find (λ k. bytes_eq (kind_name k) name) all_kinds

-- ---- names that choose kinds

-- names, with commas between them
abbrev pub parts_of : List ℕ → List (List ℕ)
parts_of names = slice_split (λ b. b == 44) names

-- the names choose the kind; where there are none, all are chosen
abbrev pub is_chosen : List ℕ → Kind → Bool
is_chosen names k = length names == 0 || list_any (λ name. bytes_eq name (kind_name k)) (parts_of names)

abbrev pub is_unknown : List ℕ → Bool
is_unknown name = not (is_some (kind_of name))

-- the first of the names that no kind has
abbrev pub first_unknown : List ℕ → Option (List ℕ)
first_unknown names = if length names == 0 then None else find is_unknown (parts_of names)
