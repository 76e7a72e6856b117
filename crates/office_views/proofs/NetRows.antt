-- The lines computed on small networks.
use Rattle.std.proofs.Common.{◌≡◌, [], ◌∷◌, codes, refl}
use Rattle.std.specs.Fmt.{digits}
use Rattle.dbc_sheet.specs.Sheet.{empty_sheet}
use Rattle.office_types.specs.declared.command.NetKind.TheVariants.{Can, J1939}
use Rattle.office_types.specs.declared.state.Net.{Net}
use Rattle.office_types.specs.declared.state.Phase.TheVariants.{Draft, Review}
use Rattle.office_views.specs.NetList.{nets_text}

abbrev truck : Net
truck = record {
  name = codes "truck";
  head = record { kind = Can; reviews = 0; phase = Draft; frame = empty_sheet };
  live = [];
  blocks = [];
  held = [];
  approvals = [];
  releases = [];
}

-- under review, with one release
abbrev bus : Net
bus = record truck {
  name = codes "bus";
  head =
      record { kind = J1939; reviews = 1; phase = Review (codes "engine"); frame = empty_sheet };
  releases =
      empty_sheet ∷ [];
}

one_network : nets_text (truck ∷ []) ≡ codes "truck can draft 0\n"
unfolding digits
one_network = refl

two_networks : nets_text (bus ∷ truck ∷ []) ≡ codes "bus j1939 review 1\ntruck can draft 0\n"
unfolding digits
two_networks = refl

no_network : nets_text [] ≡ []
no_network = refl
