-- What each SELECT shows of a row, and the order of its rows.
use Rattle.std.specs.Prelude.{[], ◌∷◌}
use Rattle.std.specs.Ordering.{then_cmp}
use Rattle.std.specs.declared.cmp.Ordering.{Ordering}
use Rattle.sqlite.specs.Order.{Row, column}
use Rattle.store_tables.specs.Selected.{by_column, by_column_descending}

-- name; by name
abbrev pub net_names_shown : Row → Row
net_names_shown row = column row 0 ∷ []

abbrev pub net_names_order : Row → Row → Ordering
net_names_order = by_column 0

-- kind, reviews, phase, submitter, frame; by name
abbrev pub net_shown : Row → Row
net_shown row = column row 1 ∷ column row 2 ∷ column row 3 ∷ column row 4 ∷ column row 5 ∷ []

abbrev pub net_order : Row → Row → Ordering
net_order = by_column 0

-- owner, body; by number
abbrev pub messages_shown : Row → Row
messages_shown row = column row 3 ∷ column row 4 ∷ []

abbrev pub messages_order : Row → Row → Ordering
messages_order = by_column 1

-- form, first, last, team; by form, first
abbrev pub blocks_shown : Row → Row
blocks_shown row = column row 1 ∷ column row 2 ∷ column row 3 ∷ column row 4 ∷ []

abbrev pub blocks_order : Row → Row → Ordering
blocks_order = then_cmp (by_column 1) (by_column 2)

-- net, first, last, team; by net, first
abbrev pub blocks_of_form_shown : Row → Row
blocks_of_form_shown row = column row 0 ∷ column row 2 ∷ column row 3 ∷ column row 4 ∷ []

abbrev pub blocks_of_form_order : Row → Row → Ordering
blocks_of_form_order = then_cmp (by_column 0) (by_column 2)

-- number; by number
abbrev pub held_shown : Row → Row
held_shown row = column row 1 ∷ []

abbrev pub held_order : Row → Row → Ordering
held_order = by_column 1

-- number; by number
abbrev pub spns_shown : Row → Row
spns_shown row = column row 0 ∷ []

abbrev pub spns_order : Row → Row → Ordering
spns_order = by_column 0

-- team; by team
abbrev pub approvals_shown : Row → Row
approvals_shown row = column row 1 ∷ []

abbrev pub approvals_order : Row → Row → Ordering
approvals_order = by_column 1

-- number, body; by number
abbrev pub releases_shown : Row → Row
releases_shown row = column row 1 ∷ column row 2 ∷ []

abbrev pub releases_order : Row → Row → Ordering
releases_order = by_column 1

-- number; by number
abbrev pub release_numbers_shown : Row → Row
release_numbers_shown row = column row 1 ∷ []

abbrev pub release_numbers_order : Row → Row → Ordering
release_numbers_order = by_column 1

-- body; by number
abbrev pub release_shown : Row → Row
release_shown row = column row 2 ∷ []

abbrev pub release_order : Row → Row → Ordering
release_order = by_column 1

-- content, kind, a, b, c; by key
abbrev pub reply_shown : Row → Row
reply_shown row = column row 2 ∷ column row 3 ∷ column row 4 ∷ column row 5 ∷ column row 6 ∷ []

abbrev pub reply_order : Row → Row → Ordering
reply_order = by_column 1

-- key; by key
abbrev pub keys_shown : Row → Row
keys_shown row = column row 1 ∷ []

abbrev pub keys_order : Row → Row → Ordering
keys_order = by_column 1

-- one, number; by one
abbrev pub profile_shown : Row → Row
profile_shown row = column row 0 ∷ column row 1 ∷ []

abbrev pub profile_order : Row → Row → Ordering
profile_order = by_column 0

-- number, name, owner, length, sender, comment; by number
abbrev pub msg_named_shown : Row → Row
msg_named_shown row = column row 1 ∷ column row 2 ∷ column row 3 ∷ column row 4 ∷ column row 5 ∷ column row 6 ∷ []

abbrev pub msg_named_order : Row → Row → Ordering
msg_named_order = by_column 1

-- number, name, owner, length, sender, comment; by number
abbrev pub msgs_shown : Row → Row
msgs_shown row = column row 1 ∷ column row 2 ∷ column row 3 ∷ column row 4 ∷ column row 5 ∷ column row 6 ∷ []

abbrev pub msgs_order : Row → Row → Ordering
msgs_order = by_column 1

-- place, name, start, size, motorola, signed, mux, factor, shift, least, most, unit, comment, spn, label; by place
abbrev pub sigs_shown : Row → Row
sigs_shown row = column row 2 ∷ column row 3 ∷ column row 4 ∷ column row 5 ∷ column row 6 ∷ column row 7 ∷ column row 8
    ∷ column row 9 ∷ column row 10 ∷ column row 11 ∷ column row 12 ∷ column row 13 ∷ column row 14 ∷ column row 15
    ∷ column row 16 ∷ []

abbrev pub sigs_order : Row → Row → Ordering
sigs_order = by_column 2

-- place; the greatest place first
abbrev pub last_place_shown : Row → Row
last_place_shown row = column row 2 ∷ []

abbrev pub last_place_order : Row → Row → Ordering
last_place_order = by_column_descending 2

-- place, name; by place, seat
abbrev pub receivers_shown : Row → Row
receivers_shown row = column row 2 ∷ column row 4 ∷ []

abbrev pub receivers_order : Row → Row → Ordering
receivers_order = then_cmp (by_column 2) (by_column 3)

-- place, value, words; by place, seat
abbrev pub sigvalues_shown : Row → Row
sigvalues_shown row = column row 2 ∷ column row 4 ∷ column row 5 ∷ []

abbrev pub sigvalues_order : Row → Row → Ordering
sigvalues_order = then_cmp (by_column 2) (by_column 3)

-- number; by number
abbrev pub msg_numbers_shown : Row → Row
msg_numbers_shown row = column row 1 ∷ []

abbrev pub msg_numbers_order : Row → Row → Ordering
msg_numbers_order = by_column 1

-- kind, a; by place
abbrev pub parts_shown : Row → Row
parts_shown row = column row 3 ∷ column row 4 ∷ []

abbrev pub parts_order : Row → Row → Ordering
parts_order = by_column 2
