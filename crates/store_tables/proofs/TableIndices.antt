-- The index of each table in the schema, and its tree.
use Rattle.store_tables.proofs.Common.{◌≡◌, slice_get, true, Some, refl, Table}
use Rattle.store_tables.specs.Schema as tables
use Rattle.store_tables.specs.Schema.{analyzed_schema, office_schema}
use Rattle.store_tables.proofs.Changing.{is_only}
use Rattle.store_tables.proofs.Current.{InEach}

abbrev pub profile : Table
profile = record tables.profile { tree = 0 }

pub profile_there : InEach (λ s. slice_get s.tables 0 ≡ Some profile)
unfolding office_schema analyzed_schema
profile_there = record { usual = refl; analyzed = refl }

pub profile_only : InEach (λ s. is_only s.tables 0 0 ≡ true)
unfolding office_schema analyzed_schema
profile_only = record { usual = refl; analyzed = refl }

abbrev pub net : Table
net = record tables.net { tree = 1 }

pub net_there : InEach (λ s. slice_get s.tables 1 ≡ Some net)
unfolding office_schema analyzed_schema
net_there = record { usual = refl; analyzed = refl }

pub net_only : InEach (λ s. is_only s.tables 1 1 ≡ true)
unfolding office_schema analyzed_schema
net_only = record { usual = refl; analyzed = refl }

abbrev pub message : Table
message = record tables.message { tree = 3 }

pub message_there : InEach (λ s. slice_get s.tables 2 ≡ Some message)
unfolding office_schema analyzed_schema
message_there = record { usual = refl; analyzed = refl }

pub message_only : InEach (λ s. is_only s.tables 2 3 ≡ true)
unfolding office_schema analyzed_schema
message_only = record { usual = refl; analyzed = refl }

abbrev pub block : Table
block = record tables.block { tree = 6 }

pub block_there : InEach (λ s. slice_get s.tables 3 ≡ Some block)
unfolding office_schema analyzed_schema
block_there = record { usual = refl; analyzed = refl }

pub block_only : InEach (λ s. is_only s.tables 3 6 ≡ true)
unfolding office_schema analyzed_schema
block_only = record { usual = refl; analyzed = refl }

abbrev pub held : Table
held = record tables.held { tree = 8 }

pub held_there : InEach (λ s. slice_get s.tables 4 ≡ Some held)
unfolding office_schema analyzed_schema
held_there = record { usual = refl; analyzed = refl }

pub held_only : InEach (λ s. is_only s.tables 4 8 ≡ true)
unfolding office_schema analyzed_schema
held_only = record { usual = refl; analyzed = refl }

abbrev pub spn : Table
spn = record tables.spn { tree = 10 }

pub spn_there : InEach (λ s. slice_get s.tables 5 ≡ Some spn)
unfolding office_schema analyzed_schema
spn_there = record { usual = refl; analyzed = refl }

pub spn_only : InEach (λ s. is_only s.tables 5 10 ≡ true)
unfolding office_schema analyzed_schema
spn_only = record { usual = refl; analyzed = refl }

abbrev pub approval : Table
approval = record tables.approval { tree = 11 }

pub approval_there : InEach (λ s. slice_get s.tables 6 ≡ Some approval)
unfolding office_schema analyzed_schema
approval_there = record { usual = refl; analyzed = refl }

pub approval_only : InEach (λ s. is_only s.tables 6 11 ≡ true)
unfolding office_schema analyzed_schema
approval_only = record { usual = refl; analyzed = refl }

abbrev pub frozen : Table
frozen = record tables.frozen { tree = 13 }

pub frozen_there : InEach (λ s. slice_get s.tables 7 ≡ Some frozen)
unfolding office_schema analyzed_schema
frozen_there = record { usual = refl; analyzed = refl }

pub frozen_only : InEach (λ s. is_only s.tables 7 13 ≡ true)
unfolding office_schema analyzed_schema
frozen_only = record { usual = refl; analyzed = refl }

abbrev pub reply : Table
reply = record tables.reply { tree = 15 }

pub reply_there : InEach (λ s. slice_get s.tables 8 ≡ Some reply)
unfolding office_schema analyzed_schema
reply_there = record { usual = refl; analyzed = refl }

pub reply_only : InEach (λ s. is_only s.tables 8 15 ≡ true)
unfolding office_schema analyzed_schema
reply_only = record { usual = refl; analyzed = refl }

abbrev pub msg : Table
msg = record tables.msg { tree = 17 }

pub msg_there : InEach (λ s. slice_get s.tables 9 ≡ Some msg)
unfolding office_schema analyzed_schema
msg_there = record { usual = refl; analyzed = refl }

pub msg_only : InEach (λ s. is_only s.tables 9 17 ≡ true)
unfolding office_schema analyzed_schema
msg_only = record { usual = refl; analyzed = refl }

abbrev pub sig : Table
sig = record tables.sig { tree = 20 }

pub sig_there : InEach (λ s. slice_get s.tables 10 ≡ Some sig)
unfolding office_schema analyzed_schema
sig_there = record { usual = refl; analyzed = refl }

pub sig_only : InEach (λ s. is_only s.tables 10 20 ≡ true)
unfolding office_schema analyzed_schema
sig_only = record { usual = refl; analyzed = refl }

abbrev pub receiver : Table
receiver = record tables.receiver { tree = 23 }

pub receiver_there : InEach (λ s. slice_get s.tables 11 ≡ Some receiver)
unfolding office_schema analyzed_schema
receiver_there = record { usual = refl; analyzed = refl }

pub receiver_only : InEach (λ s. is_only s.tables 11 23 ≡ true)
unfolding office_schema analyzed_schema
receiver_only = record { usual = refl; analyzed = refl }

abbrev pub sigvalue : Table
sigvalue = record tables.sigvalue { tree = 25 }

pub sigvalue_there : InEach (λ s. slice_get s.tables 12 ≡ Some sigvalue)
unfolding office_schema analyzed_schema
sigvalue_there = record { usual = refl; analyzed = refl }

pub sigvalue_only : InEach (λ s. is_only s.tables 12 25 ≡ true)
unfolding office_schema analyzed_schema
sigvalue_only = record { usual = refl; analyzed = refl }

abbrev pub part : Table
part = record tables.part { tree = 27 }

pub part_there : InEach (λ s. slice_get s.tables 13 ≡ Some part)
unfolding office_schema analyzed_schema
part_there = record { usual = refl; analyzed = refl }

pub part_only : InEach (λ s. is_only s.tables 13 27 ≡ true)
unfolding office_schema analyzed_schema
part_only = record { usual = refl; analyzed = refl }
