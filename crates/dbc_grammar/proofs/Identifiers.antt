-- The identifiers that DBC files write as numbers.
use Rattle.dbc_grammar.proofs.Common.{◌≡◌, ◌≤◌, ◌-◌, ℕ, Bool, true, false, Some, refl, ap, ◌&&◌, arith, if◌then◌else◌}
use Rattle.dbc_grammar.proofs.Common.{nat_tests, Ident, Std, Ext}
use Rattle.std.proofs.Common.{nat_le}
use Rattle.can_id.specs.Ident.{IsIdentifier, dbc_number}
use Rattle.dbc_grammar.specs.Fields.{ident_of, NumbersAreIdentifiers}
use Rattle.dbc_grammar.specs.Rules.{only}

abbrev Writes : ℕ → Ident → Type 0
Writes n ident = IsIdentifier ident × (dbc_number ident ≡ n)

extended : (n : ℕ) (in_range : Bool) → (nat_le 2147483648 n && nat_le n 2684354559) ≡ in_range → (ident : Ident)
    → only in_range (Ext (n - 2147483648)) ≡ Some ident → Writes n ident
extended n false test ident e = absurd cc
extended n true test (Std k) e = absurd cc
extended n true test (Ext k) e =
    let same : n - 2147483648 ≡ k = cc in
    let low : 2147483648 ≤ n = grind (arith, nat_tests) in
    let high : n ≤ 2684354559 = grind (arith, nat_tests) in
    (omega (arith, same, low, high), omega (arith, same, low, high))

writes_ident : (n : ℕ) (standard : Bool) → nat_le n 2047 ≡ standard → (ident : Ident)
    → (if standard then Some (Std n) else only (nat_le 2147483648 n && nat_le n 2684354559) (Ext (n - 2147483648)))
    ≡ Some ident → Writes n ident
writes_ident n true test (Std k) e =
    let same : n ≡ k = cc in
    let low : n ≤ 2047 = grind (arith, nat_tests) in
    (omega (arith, same, low), omega (arith, same))
writes_ident n true test (Ext k) e = absurd cc
writes_ident n false test ident e = extended n (nat_le 2147483648 n && nat_le n 2684354559) refl ident e

ident_of_writing : (n : ℕ) (ident : Ident) → Writes n ident → ident_of n ≡ Some ident
ident_of_writing n (Std k) (range, e) =
    let test : nat_le n 2047 ≡ true = grind (arith, nat_tests) in
    rw test (ap (λ m. Some (Std m)) (omega (arith, e)))
ident_of_writing n (Ext k) (range, e) =
    let test : nat_le n 2047 ≡ false = grind (arith, nat_tests) in
    let in_range : (nat_le 2147483648 n && nat_le n 2684354559) ≡ true = grind (arith, nat_tests) in
    rw (test, in_range) (ap (λ m. Some (Ext m)) (omega (arith, e)))

pub numbers_are_identifiers : NumbersAreIdentifiers
numbers_are_identifiers n ident = (λ e. writes_ident n (nat_le n 2047) refl ident e, ident_of_writing n ident)
