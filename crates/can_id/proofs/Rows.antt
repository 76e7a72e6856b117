-- The definitions computed on messages of SAE J1939-71 and J1939-81, whose identifiers are known.
use Rattle.std.proofs.Common.{◌≡◌, true, false, [], ◌∷◌, map, Some, None, Ok, refl}
use Rattle.can_id.specs.Ident.{dbc_number, ident_in}
use Rattle.can_id.specs.declared.form.IdentForm.TheVariants.{Standard, Extended}
use Rattle.can_id.specs.declared.ident.Ident.TheVariants.{Std, Ext}
use Rattle.can_id.specs.declared.fault.IdFault.TheVariants as fault
use Rattle.can_id.specs.J1939.{Fields, fields_of, ident_fields, number_of, pgn_of, is_pgn, build_fault, build_result}

-- electronic engine controller 1 (EEC1), from source 254
engine_controller : Fields
engine_controller = record { priority = 3; extended_page = false; data_page = false; pf = 240; ps = 4; source = 254 }

engine_controller_fields : ident_fields (Ext 217056510) ≡ Some engine_controller
unfolding engine_controller
engine_controller_fields = refl

engine_controller_number : dbc_number (Ext (number_of engine_controller)) ≡ 2364540158
unfolding engine_controller
engine_controller_number = refl

engine_controller_pgn : pgn_of engine_controller ≡ 61444
unfolding engine_controller
engine_controller_pgn = refl

engine_controller_built : build_result 3 61444 255 254 ≡ Ok engine_controller
unfolding engine_controller
engine_controller_built = refl

-- torque/speed control 1 (TSC1), from source 3 to the engine's address 0
torque_control : Fields
torque_control = record { priority = 3; extended_page = false; data_page = false; pf = 0; ps = 0; source = 3 }

torque_control_built : build_result 3 0 0 3 ≡ Ok torque_control
unfolding torque_control
torque_control_built = refl

torque_control_number : number_of torque_control ≡ 0x0C000003
unfolding torque_control
torque_control_number = refl

torque_control_pgn : pgn_of torque_control ≡ 0
unfolding torque_control
torque_control_pgn = refl

-- engine temperature 1 (ET1), from source 0
engine_temperature : Fields
engine_temperature = record { priority = 6; extended_page = false; data_page = false; pf = 0xFE; ps = 0xEE; source = 0 }

engine_temperature_built : build_result 6 65262 255 0 ≡ Ok engine_temperature
unfolding engine_temperature
engine_temperature_built = refl

engine_temperature_number : number_of engine_temperature ≡ 0x18FEEE00
unfolding engine_temperature
engine_temperature_number = refl

-- address claimed, from address 0x80 to every node
address_claimed : Fields
address_claimed = record { priority = 6; extended_page = false; data_page = false; pf = 0xEE; ps = 255; source = 0x80 }

address_claimed_fields : fields_of 0x18EEFF80 ≡ address_claimed
unfolding address_claimed
address_claimed_fields = refl

address_claimed_pgn : pgn_of address_claimed ≡ 60928
unfolding address_claimed
address_claimed_pgn = refl

address_claimed_built : build_result 6 60928 255 0x80 ≡ Ok address_claimed
unfolding address_claimed
address_claimed_built = refl

-- the two pages are two bits
pages_apart : fields_of 0x02000000 ≡ record {
  priority = 0;
  extended_page = true;
  data_page = false;
  pf = 0;
  ps = 0;
  source = 0;
}
pages_apart = refl

no_fields_of_11_bits : ident_fields (Std 2047) ≡ None
no_fields_of_11_bits = refl

-- PF 239 has a destination, and so a low byte of 0; PF 240 has none
last_with_destination : is_pgn 61184 ≡ true
last_with_destination = refl

no_low_byte : is_pgn 61185 ≡ false
no_low_byte = refl

first_without_destination : is_pgn 61441 ≡ true
first_without_destination = refl

last_group : is_pgn 262143 ≡ true
last_group = refl

past_18_bits : is_pgn 262144 ≡ false
past_18_bits = refl

-- each refusal before the ones after it
priority_first : build_fault 8 61185 0 ≡ Some fault.Priority
priority_first = refl

then_the_group : build_fault 7 262144 0 ≡ Some fault.NotPgn
then_the_group = refl

then_the_destination : build_fault 7 61440 0 ≡ Some fault.Destination
then_the_destination = refl

none_refused : build_fault 7 61440 255 ≡ None
none_refused = refl

-- the least and the greatest of each form, as a DBC file writes them
dbc_numbers : map dbc_number (Std 0 ∷ Std 2047 ∷ Ext 0 ∷ Ext 536870911 ∷ []) ≡ 0 ∷ 2047 ∷ 2147483648 ∷ 2684354559 ∷ []
dbc_numbers = refl

greatest_standard : map (ident_in Standard) (2047 ∷ 2048 ∷ []) ≡ Some (Std 2047) ∷ None ∷ []
greatest_standard = refl

greatest_extended : map (ident_in Extended) (536870911 ∷ 536870912 ∷ []) ≡ Some (Ext 536870911) ∷ None ∷ []
greatest_extended = refl
