use Rattle.bitlayout.proofs.Common.{◌≡◌, ℕ, ◌/◌, ◌≤◌, false, refl, inl, inr, arith, cases_lt, both_ways, iff_false}
use Rattle.bitlayout.specs.Interval.{rank}
use Rattle.bitlayout.proofs.Walks.{bit_within, bit_from_within, rank_byte, rank_of_rank, reversed_rank}
use Rattle.bitlayout.proofs.bits.share_bit_across.Goals as goal

pub loop-byte-init : goal.loop-byte-init
loop-byte-init c = λ q of_a of_b.
    let within_a = bit_within c.args.a q of_a in
    let within_b = bit_within c.args.b q of_b in
    let byte_a = rank_byte c.args.a.order q in
    let byte_b = rank_byte c.args.b.order q in
    omega arith

pub returns-then-meets : goal.returns-then-meets
returns-then-meets c =
    let a = c.args.a in
    let b = c.args.b in
    let (n, of_a, of_b) = c.meets.ensures.0 c.if-meets.true in
    let q : ℕ = rank b.order n in
    let at_b : rank b.order q ≡ n = rank_of_rank b.order n in
    let byte_b = rank_byte b.order n in
    let byte_q = rank_byte b.order q in
    let reversed = reversed_rank a.order b.order c.requires q in (
      λ _. (q, bit_from_within a q (omega arith) (omega arith), bit_from_within b q (omega arith) (omega arith)),
      λ _. refl,
    )

pub loop-byte-preserved : goal.loop-byte-preserved
loop-byte-preserved c = λ q of_a of_b.
    let a = c.args.a in
    let b = c.args.b in
    let later : c.loop-byte.byte ≤ q / 8 = c.loop-byte.invariant q of_a of_b in
    elim (cases_lt c.loop-byte.byte (q / 8)) [
      | inl above ↦ omega arith
      | inr here ↦
          let within_a = bit_within a q of_a in
          let within_b = bit_within b q of_b in
          let byte_a = rank_byte a.order q in
          let byte_b = rank_byte b.order q in
          let reversed = reversed_rank a.order b.order c.requires q in
          absurd (iff_false c.meets.ensures c.if-meets.false
          (rank b.order q, (omega arith, omega arith), (omega arith, omega arith)))
    ]

pub returns : goal.returns
returns c = (
  λ t. absurd (both_ways false refl t),
  λ (q, of_a, of_b).
      let within_a = bit_within c.args.a q of_a in
      let within_b = bit_within c.args.b q of_b in
      let byte_a = rank_byte c.args.a.order q in
      let byte_b = rank_byte c.args.b.order q in
      let later : c.loop-byte.byte ≤ q / 8 = c.loop-byte.invariant q of_a of_b in
      absurd (omega arith),
)
