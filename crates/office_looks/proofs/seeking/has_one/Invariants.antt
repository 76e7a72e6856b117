use Rattle.office_looks.proofs.Common.{◌≡◌, drop}
use Rattle.office_looks.specs.Who.{has_one}
use Rattle.office_looks.proofs.seeking.has_one.Given as goal

-- the numbers that are left
abbrev pub invariant-loop-form : goal.invariant-loop-form
invariant-loop-form l = has_one l.numbers l.granted ≡ has_one (drop l.form-index l.numbers) l.granted
