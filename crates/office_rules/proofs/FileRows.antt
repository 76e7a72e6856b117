-- Worked examples of imported files, computed from the definitions.
use Rattle.office_rules.proofs.Common.{◌≡◌, ℕ, false, List, [], ◌∷◌, map, Some, None, refl, codes, Intel, Always}
use Rattle.office_rules.proofs.Common.{empty_sheet, Sheet, Signal, Can, J1939, Broadcast, Done, Number, Counts, Release}
use Rattle.office_rules.proofs.Common.{Refused, Net}
use Rattle.bitlayout.specs.Bits.{walk, shares_bit, is_inside}
use Rattle.bitlayout.specs.Clash.{clash_after}
use Rattle.bitlayout.specs.First.{first_answer}
use Rattle.can_id.specs.declared.ident.Ident.TheVariants as id
use Rattle.dbc_words.specs.declared.value_type.ValueType.TheVariants.{Integer}
use Rattle.office_types.specs.declared.block.BlockForm.TheVariants as block
use Rattle.office_types.specs.declared.command.Action.TheVariants as act
use Rattle.office_types.specs.declared.refusal.Refusal.TheVariants as no
use Rattle.office_rules.specs.Facts.{taken_groups}
use Rattle.office_rules.specs.Importing.{Unreadable}
use Rattle.office_rules.specs.Step.{opening}
use Rattle.office_rules.proofs.TeamCommand.{adds, requests, brake, engine, grants, imports, left_by, message, number}
use Rattle.office_rules.proofs.TeamCommand.{office, opens, replies_to, setup, takes, takes_group}

abbrev three : Sheet
three = record empty_sheet {
  messages = message (id.Std 256) (codes "A") [] ∷ message (id.Std 257) (codes "B") []
      ∷ message (id.Std 258) (codes "C") [] ∷ [];
}

abbrev live_names : List Net → List (List (List ℕ))
live_names nets = map (λ net. map (λ m. m.message.name) net.live) nets

-- a message of the file that isn't as the live one of its number refuses the whole
taken_by_another : replies_to opening (setup (takes engine (codes "E3") (Some 258) ∷ imports engine three ∷ []))
    ≡ Done ∷ Done ∷ Number 258 ∷ Refused no.IdentTaken ∷ []
unfolding walk shares_bit is_inside clash_after first_answer
taken_by_another = refl

nothing_added : live_names
    (left_by opening (setup (takes engine (codes "E3") (Some 258) ∷ imports engine three ∷ []))).nets
    ≡ (codes "E3" ∷ []) ∷ []
unfolding walk shares_bit is_inside clash_after first_answer
nothing_added = refl

imported_twice : replies_to opening
    (setup (imports engine three ∷ imports engine three
    ∷ imports brake (record three { messages = message (id.Std 300) (codes "Z") [] ∷ [] }) ∷ []))
    ≡ Done ∷ Done ∷ Counts 3 0 ∷ Counts 0 3 ∷ Refused no.OutsideBlock ∷ []
unfolding walk shares_bit is_inside clash_after first_answer
imported_twice = refl

-- a file that reads as no sheet is refused with its fault, but in review it isn't read
unreadable : replies_to opening (setup (
    record (imports engine three) { reading = Unreadable (record { fault = 30; at = 565 }) }
    ∷ requests engine act.Submit
    ∷ record (imports engine three) { reading = Unreadable (record { fault = 30; at = 565 }) } ∷ []))
    ≡ Done ∷ Done ∷ Refused (no.FileFault (record { fault = 30; at = 565 })) ∷ Done ∷ Refused no.InReview ∷ []
unreadable = refl

abbrev temperature : Signal
temperature = record {
  name = codes "Temp";
  layout = record { start = 16; size = 8; order = Intel };
  signed = false;
  mux = Always;
  factor = number 1;
  offset = number 0;
  minimum = number 0;
  maximum = number 210;
  unit = codes "C";
  receivers = codes "Dash" ∷ [];
  comment = [];
  spn = 500;
  values = [];
  value_type = Integer;
}

abbrev engine_file : Sheet
engine_file = record empty_sheet { messages = message (id.Ext 217056510) (codes "Msg1") (temperature ∷ []) ∷ [] }

-- the group 61444 is live from another source
groups_of_live : replies_to opening (
    opens J1939 0
    ∷ imports office engine_file
    ∷ grants engine block.Pgn 61444 61445
    ∷ takes_group (codes "Eng") Broadcast
    ∷ takes_group (codes "Eng2") Broadcast ∷ [])
    ≡ Done ∷ Counts 1 0 ∷ Done ∷ Number 61445 ∷ Refused no.BlockFull ∷ []
unfolding walk shares_bit is_inside clash_after first_answer
groups_of_live = refl

used_by_file : (left_by opening (opens J1939 0 ∷ imports office engine_file ∷ [])).book.used ≡ 500 ∷ []
unfolding walk shares_bit is_inside clash_after first_answer
used_by_file = refl

groups_taken : map taken_groups
    (left_by opening (opens J1939 0 ∷ imports office engine_file ∷ grants engine block.Pgn 61444 61445
    ∷ takes_group (codes "Eng") Broadcast ∷ [])).nets
    ≡ (61444 ∷ 61445 ∷ []) ∷ []
unfolding walk shares_bit is_inside clash_after first_answer
groups_taken = refl

-- a file whose signals share bits is refused with the first unclear message's number
unclear : replies_to opening
    (opens Can 0 ∷ imports office
    (record empty_sheet {
      messages =
          message (id.Std 5) (codes "M") (temperature ∷ record temperature { name = codes "Oil" } ∷ []) ∷ [];
    }) ∷ [])
    ≡ Done ∷ Refused (no.FileFault (record { fault = 23; at = 5 })) ∷ []
unfolding walk shares_bit is_inside clash_after first_answer
unclear = refl

-- a message that is live so counts as the same, and the others are added
some_new : replies_to opening (setup (
    imports engine (record three { messages = message (id.Std 256) (codes "A") [] ∷ [] })
    ∷ imports engine three ∷ []))
    ≡ Done ∷ Done ∷ Counts 1 0 ∷ Counts 2 1 ∷ []
unfolding walk shares_bit is_inside clash_after first_answer
some_new = refl

abbrev one : List ℕ → Sheet
one name = record empty_sheet { messages = message (id.Std 256) name [] ∷ [] }

-- a number that is held for a message of a release doesn't come back, whoever brings it and under whatever name
held_number : replies_to opening (setup (
    takes engine (codes "E1") None
    ∷ requests engine act.Submit
    ∷ requests office act.Release
    ∷ requests engine (act.Retire (codes "E1"))
    ∷ imports engine (one (codes "E1"))
    ∷ imports office (one (codes "Z"))
    ∷ imports brake (one (codes "Z")) ∷ []))
    ≡ Done ∷ Done ∷ Number 256 ∷ Done ∷ Release 1 ∷ Done ∷ Refused no.Held ∷ Refused no.Held ∷ Refused no.Held ∷ []
unfolding walk shares_bit is_inside clash_after first_answer
held_number = refl

-- a new number under a live message's name
live_name_brought : replies_to opening
    (setup (takes engine (codes "B") None
    ∷ imports engine (record three { messages = message (id.Std 257) (codes "B") [] ∷ [] }) ∷ []))
    ≡ Done ∷ Done ∷ Number 256 ∷ Refused no.NameTaken ∷ []
unfolding walk shares_bit is_inside clash_after first_answer
live_name_brought = refl

-- a block of parameter groups lets its team bring their messages, from whatever source
brought_by_group : replies_to opening (
    opens J1939 0
    ∷ grants engine block.Pgn 61444 61444
    ∷ grants brake block.Pgn 61445 61445
    ∷ imports brake engine_file
    ∷ imports engine engine_file ∷ [])
    ≡ Done ∷ Done ∷ Done ∷ Refused no.OutsideBlock ∷ Counts 1 0 ∷ []
unfolding walk shares_bit is_inside clash_after first_answer
brought_by_group = refl

-- Frames.

abbrev titled : List ℕ → List ℕ → Sheet
titled version comment = record empty_sheet {
  version = version;
  comment = comment;
  nodes = record { name = codes "Dash"; comment = codes "new" } ∷ record { name = codes "Lamp"; comment = [] } ∷ [];
  tables = record { name = codes "Gear"; entries = record { value = number 0; text = codes "P" } ∷ [] } ∷ [];
}

-- nodes and value tables of new names come last, those that are there stay, and the first text that isn't empty stays
frame_widened : map (λ net. net.head.frame) (left_by opening (
    opens Can 0
    ∷ adds (codes "ECU")
    ∷ adds (codes "Dash")
    ∷ imports engine (titled [] (codes "trucks"))
    ∷ imports engine (record (titled (codes "2") (codes "cars")) { tables = [] }) ∷ [])).nets
    ≡ record {
      version = codes "2";
      comment = codes "trucks";
      nodes = record { name = codes "ECU"; comment = [] } ∷ record { name = codes "Dash"; comment = [] }
          ∷ record { name = codes "Lamp"; comment = [] } ∷ [];
      tables = record { name = codes "Gear"; entries = record { value = number 0; text = codes "P" } ∷ [] } ∷ [];
      messages = [];
    } ∷ []
frame_widened = refl
