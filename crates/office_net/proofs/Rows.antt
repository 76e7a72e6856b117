-- Worked examples, computed from the definitions.
use Rattle.std.proofs.Common.{◌≡◌, Some, None, refl}
use Rattle.std.specs.Prelude.{codes}
use Rattle.office_types.specs.declared.block.BlockForm.TheVariants.{Std, Spn}
use Rattle.office_types.specs.declared.change.Change.{Change}
use Rattle.office_types.specs.declared.change.Change.TheVariants.{SetBlock, SetSpnBlock}
use Rattle.office_types.specs.declared.refusal.Refusal.TheVariants as no
use Rattle.office_net.specs.Granting.{grant_change}
use Rattle.office_net.specs.FactsOf.{refused_or_full}

-- a block of identifiers is set on the network, one of suspect parameter numbers in the book, with the network's name
on_net : ◌≡◌ {A = Change}
    (grant_change (codes "truck")
    (record { team = codes "engine"; block = record { form = Std; first = 256; last = 258 } }))
    (SetBlock (record { block = record { form = Std; first = 256; last = 258 }; team = codes "engine" }))
on_net = refl

in_book : ◌≡◌ {A = Change}
    (grant_change (codes "truck")
    (record { team = codes "engine"; block = record { form = Spn; first = 500; last = 501 } }))
    (SetSpnBlock (record { net = codes "truck"; team = codes "engine"; first = 500; last = 501 }))
in_book = refl

-- full blocks refuse last
taken_name : refused_or_full (Some no.NameTaken) None ≡ Some no.NameTaken
taken_name = refl

full : refused_or_full None None ≡ Some no.BlockFull
full = refl

not_full : refused_or_full None (Some 257) ≡ None
not_full = refl
