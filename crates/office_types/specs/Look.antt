-- What can be looked up, and in which form.
use Rattle.std.specs.Prelude.{Bool, if◌then◌else◌}
use Rattle.office_types.specs.declared.look.Look.{Look}
use Rattle.office_types.specs.declared.look.Look.TheVariants.{Net, Requests}
use Rattle.office_types.specs.declared.look.LookForm.{LookForm}
use Rattle.office_types.specs.declared.look.LookForm.TheVariants.{Json, Lines}

abbrev pub form_of : Bool → LookForm
form_of json = if json then Json else Lines

-- the look, where JSON is wanted or not
abbrev pub formed : Bool → Look → Look
formed json (Net net l form) = Net net l (form_of json)
formed json (Requests team form) = Requests team (form_of json)
formed json l = l

-- what can't be JSON has one form
abbrev pub look_form : Look → LookForm
look_form (Net net l form) = form
look_form (Requests team form) = form
look_form l = Lines
