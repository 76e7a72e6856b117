use Rattle.dbc_lint.proofs.Common.{◌≡◌, drop, find, bytes_eq}
use Rattle.dbc_lint.specs.Kind.{kind_name, kind_of}
use Rattle.dbc_lint.proofs.kind.Kind.of.Given as goal

-- the one that is looked for is among those that are left
abbrev pub invariant-loop-kind : goal.invariant-loop-kind
invariant-loop-kind l = kind_of l.name
    ≡ find (λ k. bytes_eq (kind_name k) l.name) (drop l.kind-index l.kind-items)
