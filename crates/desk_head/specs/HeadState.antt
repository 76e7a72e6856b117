-- What an answer of `parse_head` says of the bytes.
use Rattle.std.specs.Prelude.{ℕ, List}
use Rattle.httparse.specs.declared.spans.HeaderSpan.{HeaderSpan}
use Rattle.desk_head.specs.Head.{IsHeadAt, IsUnfinished, NeverHasHead}
use Rattle.desk_head.specs.declared.parsing.HeadState.{HeadState}
use Rattle.desk_head.specs.declared.parsing.HeadState.TheVariants.{Complete, Incomplete, Impossible}

abbrev pub IsHeadState : List ℕ → List HeaderSpan → HeadState → Type 0
IsHeadState bytes headers (Complete spans) = IsHeadAt bytes headers spans
IsHeadState bytes headers Incomplete = IsUnfinished bytes
IsHeadState bytes headers Impossible = NeverHasHead bytes
