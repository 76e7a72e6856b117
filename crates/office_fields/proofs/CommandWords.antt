-- Each command is that of its word.
use Rattle.std.proofs.Common.{◌≡◌, Some, refl}
use Rattle.office_fields.specs.declared.kind.ActionKind.TheVariants as act
use Rattle.office_fields.specs.declared.kind.CommandKind.{CommandKind}
use Rattle.office_fields.specs.declared.kind.CommandKind.TheVariants.{Act, Import, Bundle}
use Rattle.office_fields.specs.Kind.{kind_of_word, word_of}

pub named_back : (kind : CommandKind) → kind_of_word (word_of kind) ≡ Some kind
named_back (Act act.OpenNet) = refl
named_back (Act kind) = refl
named_back Import = refl
named_back Bundle = refl
