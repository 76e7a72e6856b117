use Rattle.std.proofs.Common.{◌≡◌, ◌++◌, length}
use Rattle.std.specs.Option.{option_map}
use Rattle.office_script.specs.Escapes.{unescaped}
use Rattle.office_script.proofs.escapes.unescape.Given as goal

-- the bytes so far, and those of what is left
abbrev pub invariant-loop-first : goal.invariant-loop-first
invariant-loop-first l = unescaped l.fn.written ≡ option_map (λ more. l.bytes.items ++ more) (unescaped l.rest)

abbrev pub decreases-loop-first : goal.decreases-loop-first
decreases-loop-first l = length l.rest
