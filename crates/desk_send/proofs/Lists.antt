-- Lists of JSON, and texts.
use Rattle.desk_send.proofs.Common.{◌≡◌, ◌∙◌, ℕ, Bool, true, false, List, [], ◌∷◌, map, Option, Some, None, Result, Ok}
use Rattle.desk_send.proofs.Common.{Err, Global, IsUtf8, refl, ap, option_map, is_utf8, is_utf8-from_IsUtf8, Data}
use Rattle.desk_send.proofs.Common.{Items, item, string, items_view, view, ◌>>=◌, where_true}
use Rattle.std.proofs.Common.{Vec}
use Rattle.std.proofs.lemmas.Str.{IsUtf8-from_is_utf8}
use Rattle.serde_json.specs.View.{items_of}
use Rattle.serde_json.specs.declared.value.Value.{Value}
use Rattle.desk_send.specs.Json.{data_list, items_by, text_data}
use Rattle.desk_send.specs.Writing.{Writes}
use Rattle.desk_send.specs.declared.unwritten.Unwritten.{Unwritten}
use Rattle.desk_send.specs.declared.unwritten.Unwritten.TheVariants.{NotUtf8, Memory}

-- ---- texts

untested : {A : Type 0} (test : Bool) (found : Option A) → (test ≡ true → ⊥) → where_true test found ≡ None
untested true found h = absurd (h refl)
untested false found h = refl

pub no_text : (bytes : List ℕ) → ¬ (IsUtf8 bytes) → text_data bytes ≡ None
no_text bytes h = untested (is_utf8 bytes) (Some (string bytes)) (λ e. h (IsUtf8-from_is_utf8 bytes e))

pub a_text : (bytes : List ℕ) (d : Data) → IsUtf8 bytes → d ≡ string bytes → text_data bytes ≡ Some d
a_text bytes d h e = rw (is_utf8-from_IsUtf8 bytes h, e) refl

-- ---- lists

one_more : (d : Data) (o : Option (List Data))
    → option_map (λ ds. item d ds) (option_map items_of o) ≡ option_map items_of (option_map (λ ds. d ∷ ds) o)
one_more d None = refl
one_more d (Some ds) = refl

then_more : (o : Option Data) (more : Option (List Data)) (items : Option Items) → items ≡ option_map items_of more
    → (o >>= λ d. option_map (λ ds. item d ds) items) ≡ option_map items_of (o >>= λ d. option_map (λ ds. d ∷ ds) more)
then_more None more items e = refl
then_more (Some d) more items e = ap (option_map (λ ds. item d ds)) e ∙ one_more d more

items_are : {A : Type 0} (data_by : A → Option Data) (vs : List A)
    → items_by data_by vs ≡ option_map items_of (data_list data_by vs)
items_are data_by [] = refl
items_are data_by (v ∷ vs) = then_more (data_by v) (data_list data_by vs) (items_by data_by vs) (items_are data_by vs)

pub writes_items : {A : Type 0} (data_by : A → Option Data) (vs : List A) (result : Result (Vec Value Global) Unwritten)
    → Writes (λ values. map view values.items) (data_list data_by vs) result
    → Writes (λ values. items_view values.items) (items_by data_by vs) result
writes_items data_by vs (Ok values) h = items_are data_by vs ∙ ap (option_map items_of) h
writes_items data_by vs (Err NotUtf8) h = items_are data_by vs ∙ ap (option_map items_of) h
writes_items data_by vs (Err Memory) h = tt
