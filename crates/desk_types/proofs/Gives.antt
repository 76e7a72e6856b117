-- How many bytes a source gives, over several reads.
use Rattle.std.proofs.Common.{◌≡◌, ◌∙◌, ℕ, ◌+◌, ◌≤◌, List, [], ◌++◌, length, Option, Err, ap, arith, length-append}
use Rattle.std.proofs.KnownBytes.{Consumes-kept, Consumes-nil, Consumes-trans}
use Rattle.std.specs.Io.KnownBytes.{Consumes, Keeps}
use Rattle.desk_types.specs.declared.device.Source.{Ghosts}
use Rattle.desk_types.specs.declared.fault.ReadFault.{ReadFault}
use Rattle.desk_types.specs.declared.fault.ReadFault.TheVariants.{Read, Memory}
use Rattle.desk_types.specs.Counts.{CountsRead}
use Rattle.desk_types.specs.Moved.{GivesAtMost}
use Rattle.desk_types.specs.Reading.{ReadsAtMost}

-- nothing was read
pub gives_none : (a b : Option (List ℕ)) (most : ℕ) → Keeps a b → GivesAtMost a b most
gives_none a b most kept = ([], Consumes-kept a a b [] (Consumes-nil a) kept, omega arith)

-- these bytes were read
pub gives_these : (a b : Option (List ℕ)) (bytes : List ℕ) (most : ℕ) → Consumes a b bytes → length bytes ≤ most
    → GivesAtMost a b most
gives_these a b bytes most read fits = (bytes, read, fits)

-- one read after another
pub gives_more : (a b c : Option (List ℕ)) (first second most : ℕ) → GivesAtMost a b first → GivesAtMost b c second
    → first + second ≤ most → GivesAtMost a c most
gives_more a b c first second most p q fits = (
  p.0 ++ q.0,
  Consumes-trans a b c p.0 q.0 p.1 q.1,
  omega (arith, length-append p.0 q.0, p.2, q.2, fits),
)

-- a fault counts as much for all of the calls as for the last one, where none of those before failed
counts_on : (T U : Type 0) (fault : ReadFault) (first mid last : ℕ) → mid ≡ first
    → CountsRead {T = T} (Err fault) mid last → CountsRead {T = U} (Err fault) first last
counts_on T U Read first mid last sound counts = counts ∙ ap (λ n. n + 1) sound
counts_on T U Memory first mid last sound counts = counts ∙ sound

-- reading that ends by a fault, after reads none of which failed
pub reads_to_fault : {R : Type 0} (T U : Type 0) (source : Ghosts R) (first mid last : R) (got most limit : ℕ)
    (fault : ReadFault) → GivesAtMost (source.left first) (source.left mid) got
    → source.failure_count mid ≡ source.failure_count first
    → ReadsAtMost {T = T} source mid last most (Err fault) → got + most ≤ limit
    → ReadsAtMost {T = U} source first last limit (Err fault)
reads_to_fault T U source first mid last got most limit fault gives sound reads fits = record {
  most = gives_more _ _ _ got most limit gives reads.most fits;
  count = counts_on T U fault _ _ _ sound reads.count;
}
