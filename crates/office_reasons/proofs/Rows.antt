-- Worked examples of the definitions.
use Rattle.std.proofs.Common.{◌≡◌, [], ◌∷◌, Some, None, true, false, refl}
use Rattle.std.specs.Fmt.{digits}
use Rattle.std.specs.Prelude.{codes}
use Rattle.bitlayout.specs.declared.layout.Order.TheVariants.{Intel, Motorola}
use Rattle.bitlayout.specs.declared.place.Mux.TheVariants.{Multiplexor}
use Rattle.can_id.specs.declared.ident.Ident.TheVariants as id
use Rattle.office_reasons.specs.Bits.{bytes_text, start_text}
use Rattle.office_reasons.specs.Blocks.{nearest_of}
use Rattle.office_reasons.specs.Few.{listed}
use Rattle.office_reasons.specs.Numbers.{no_spn_text}
use Rattle.office_reasons.specs.Pieces.{ident_text, range_text}
use Rattle.office_reasons.specs.Places.{layout_text, mark_text}

-- ---- numbers

one_number : range_text (record { first = 190; last = 190 }) ≡ codes "190"
unfolding digits
one_number = refl

some_numbers : range_text (record { first = 256; last = 258 }) ≡ codes "256 to 258"
unfolding digits
some_numbers = refl

eleven_bits : ident_text (id.Std 256) ≡ codes "std 256 (0x100)"
unfolding digits
eleven_bits = refl

twenty_nine_bits : ident_text (id.Ext 419299328) ≡ codes "ext 419299328 (0x18FE0000)"
unfolding digits
twenty_nine_bits = refl

-- ---- lists

no_items : listed [] 0 ≡ []
no_items = refl

one_item : listed (codes "ECM" ∷ []) 0 ≡ codes "ECM"
one_item = refl

two_items : listed (codes "ECM" ∷ codes "TCM" ∷ []) 0 ≡ codes "ECM and TCM"
two_items = refl

three_items : listed (codes "A" ∷ codes "B" ∷ codes "C" ∷ []) 0 ≡ codes "A, B and C"
three_items = refl

further_items : listed (codes "A" ∷ codes "B" ∷ []) 3 ≡ codes "A, B and 3 more"
unfolding digits
further_items = refl

-- ---- bits

intel : layout_text (record { start = 8; size = 16; order = Intel }) false ≡ codes "8|16@1+"
unfolding digits
intel = refl

motorola : layout_text (record { start = 7; size = 12; order = Motorola }) true ≡ codes "7|12@0-"
unfolding digits
motorola = refl

marks : mark_text Multiplexor ≡ codes " M"
marks = refl

no_bytes : bytes_text 0 ≡ codes "no bytes"
no_bytes = refl

one_byte : bytes_text 1 ≡ codes "1 byte, bits 0 to 7"
unfolding digits
one_byte = refl

eight_bytes : bytes_text 8 ≡ codes "8 bytes, bits 0 to 63"
unfolding digits
eight_bytes = refl

free_start : start_text (Some 24) ≡ codes "the least start that is free is 24"
unfolding digits
free_start = refl

-- ---- blocks: 399 is 141 numbers from the one and 1 from the other; of two that are as near it is the first

nearer_above : nearest_of 399 (record { first = 256; last = 258 } ∷ record { first = 400; last = 400 } ∷ [])
    ≡ Some (record { first = 400; last = 400 })
nearer_above = refl

as_near : nearest_of 5 (record { first = 0; last = 3 } ∷ record { first = 7; last = 9 } ∷ [])
    ≡ Some (record { first = 0; last = 3 })
as_near = refl

no_block : nearest_of 5 [] ≡ None
no_block = refl

no_number : no_spn_text 0 ≡ codes "same=0 is no SPN: these are 1 to 524287"
unfolding digits
no_number = refl
