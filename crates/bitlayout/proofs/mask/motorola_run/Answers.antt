use Rattle.bitlayout.proofs.Masks.{three_runs, motorola_bits}
use Rattle.bitlayout.proofs.mask.motorola_run.Goals as goal

pub returns : goal.returns
returns c i =
    let runs = three_runs c.run-2.result c.run-3.result c.run-4.result i (c.run-2.ensures i) (c.run-3.ensures i)
    (c.run-4.ensures i) in
    let bits = motorola_bits c.args.first c.args.end i c.requires.some c.if-first_byte-last_byte.false in
    (λ h. bits.1 (runs.0 h), λ h. runs.1 (bits.0 h))
