-- The last name of an identifier, from the last release on.
use Rattle.std.proofs.Common.{◌≡◌, ◌+◌, ◌<◌, ◌++◌, ℕ, List, [], ◌∷◌, Option, None}
use Rattle.std.proofs.Common.{Some, length, take, get_or, refl, sym, ap, ◌∙◌}
use Rattle.std.specs.Prelude.{option_map}
use Rattle.std.specs.List.{cons_option, filter_map, last_or}
use Rattle.std.proofs.lemmas.List.{append-nil, take_more}
use Rattle.std.proofs.lemmas.List.Elements.{filter_map-append}
use Rattle.can_id.specs.Ident.{dbc_number}
use Rattle.can_id.specs.declared.ident.Ident.{Ident}
use Rattle.dbc_sheet.specs.Messages.{message_at}
use Rattle.dbc_sheet.specs.declared.message.Message.{Message}
use Rattle.dbc_sheet.specs.declared.sheet.Sheet.{Sheet}
use Rattle.office_seen.specs.Owners.{last_name}

abbrev pub name_in : Ident → Sheet → Option (List ℕ)
name_in i s = option_map (λ (m : Message). m.name) (message_at s.messages (dbc_number i))

last_of_more : {X : Type 0} (o : Option X) (xs : List X) (x : X) → last_or o (xs ++ x ∷ []) ≡ Some x
last_of_more o [] x = refl
last_of_more o (y ∷ ys) x = last_of_more (Some y) ys x

-- one release more
one_more : (sheets : List Sheet) (k : ℕ) (s : Sheet) (i : Ident) → k < length sheets → s ≡ get_or sheets k s
    → filter_map (name_in i) (take (k + 1) sheets)
    ≡ filter_map (name_in i) (take k sheets) ++ cons_option (name_in i s) []
one_more sheets k s i within is =
    ap (filter_map (name_in i)) (take_more sheets k s within ∙ ap (λ x. take k sheets ++ x ∷ []) (sym is))
    ∙ filter_map-append (name_in i) (take k sheets) (s ∷ [])

-- it has one
pub named_here : (sheets : List Sheet) (k : ℕ) (s : Sheet) (i : Ident) (n : List ℕ) → k < length sheets
    → s ≡ get_or sheets k s → name_in i s ≡ Some n → last_name (take (k + 1) sheets) i ≡ Some n
named_here sheets k s i n within is named =
    ap (last_or None) (one_more sheets k s i within is
    ∙ ap (λ o. filter_map (name_in i) (take k sheets) ++ cons_option o []) named)
    ∙ last_of_more None (filter_map (name_in i) (take k sheets)) n

-- it has no name
pub named_before : (sheets : List Sheet) (k : ℕ) (s : Sheet) (i : Ident) → k < length sheets → s ≡ get_or sheets k s
    → name_in i s ≡ None → last_name (take (k + 1) sheets) i ≡ last_name (take k sheets) i
named_before sheets k s i within here unnamed =
    ap (last_or None) (one_more sheets k s i within here
    ∙ ap (λ o. filter_map (name_in i) (take k sheets) ++ cons_option o []) unnamed
    ∙ append-nil (filter_map (name_in i) (take k sheets)))
