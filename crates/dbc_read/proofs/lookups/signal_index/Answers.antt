use Rattle.dbc_read.proofs.Common.{◌&&◌, ℕ, List, Bor, nat_eq, refl, subst, bytes_eq, same_signal}
use Rattle.dbc_read.specs.Lookup.{IsIndexIn}
use Rattle.dbc_read.specs.Keys.{key_of}
use Rattle.dbc_read.proofs.LookingUp.{index_seen}
use Rattle.dbc_read.proofs.lookups.signal_index.Goals as goal

pub returns-in-Some : goal.returns-in-Some
returns-in-Some c = λ statements are.
    let number = c.in-Some.number in
    let name = c.args.cited.now.name.now in
    let here = c.find.ensures are.signal_keys are.signals in
    rw c.in-Some.is
    (subst (λ keys. IsIndexIn (λ key. same_signal key (number, name)) keys c.find.result) are.keys
    (index_seen key_of (λ (k : ℕ × Bor (List ℕ)). nat_eq k.0 number && bytes_eq k.1.now name)
    (λ key. same_signal key (number, name)) (λ k. refl) are.signal_keys c.find.result here))
