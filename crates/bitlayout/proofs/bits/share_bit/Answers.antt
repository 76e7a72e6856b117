use Rattle.bitlayout.proofs.Common.{◌≡◌, ◌↔◌, IsTrue, arith, rules, same_from_decides}
use Rattle.bitlayout.specs.Bits.{SharesBit}
use Rattle.bitlayout.proofs.Walks.{shared_rank, share_from_rank, shares_bit_decides}
use Rattle.bitlayout.proofs.bits.share_bit.Goals as goal

pub returns-then-eq : goal.returns-then-eq
returns-then-eq c =
    let a = c.args.a in
    let b = c.args.b in
    let same : a.order ≡ b.order = search rules in
    let shared : IsTrue c.meets.result ↔ SharesBit a b = (
      λ t. let (n, of_a, of_b) = c.meets.ensures.0 t in
          share_from_rank a b same n (omega arith) (omega arith) (omega arith) (omega arith),
      λ s. let (n, of_a, of_b) = shared_rank a b same s in
          c.meets.ensures.1 (n, (omega arith, omega arith), (omega arith, omega arith)),
    ) in
    record { shared = shared; computed = same_from_decides _ _ shared (shares_bit_decides a b) }

pub returns-else-eq : goal.returns-else-eq
returns-else-eq c = record {
  shared = c.share_bit_across.ensures;
  computed =
      same_from_decides _ _ c.share_bit_across.ensures (shares_bit_decides c.args.a c.args.b);
}
