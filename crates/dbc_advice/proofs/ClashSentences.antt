-- The sentences of the reasons of one more message.
use Rattle.dbc_advice.proofs.Common.{◌≡◌, ◌+◌, ◌-◌, ◌<◌, ◌≤◌, ℕ, List, ◌++◌, length, map, take, get_or, sym, ap, ◌∙◌}
use Rattle.dbc_advice.proofs.Common.{arith, length-map, map-append, take_all, places_of, Message}
use Rattle.std.proofs.lemmas.Simd.{map-map}
use Rattle.dbc_advice.specs.Clashes.{Clashing, clash_sentence, clashes_of, message_clashes}
use Rattle.dbc_advice.specs.Limits.{clashes_reported, reasons_reported}
use Rattle.dbc_advice.specs.Reasons.{AreReasons}
use Rattle.dbc_advice.specs.declared.reasons.ClashReason.{ClashReason}
use Rattle.dbc_advice.proofs.ClashLines.{all_reasons, clashes_more, cut_clashes}

-- those of the messages before and these
joined : (cs : List Clashing) (m : Message) (reasons : List ClashReason)
    → map clash_sentence cs ++ map (λ (r : ClashReason). clash_sentence (m, r)) reasons
    ≡ map clash_sentence (cs ++ map (λ (r : ClashReason). (m, r)) reasons)
joined cs m reasons =
    let f : ClashReason → Clashing = λ r. (m, r) in
    ap (λ ts. map clash_sentence cs ++ ts) (sym (map-map clash_sentence f reasons))
    ∙ sym (map-append clash_sentence cs (map f reasons))

-- all reasons of one more message
pub told_more : (ms : List Message) (i : ℕ) (m : Message) (reasons : List ClashReason) (old new : List (List ℕ))
    → i < length ms → m ≡ get_or ms i m
    → AreReasons m.length (places_of m.signals) reasons → length reasons ≤ reasons_reported
    → old ≡ map clash_sentence (clashes_of (take i ms))
    → new ≡ old ++ map (λ (r : ClashReason). clash_sentence (m, r)) reasons
    → new ≡ map clash_sentence (clashes_of (take (i + 1) ms))
told_more ms i m reasons old new lt item are few before e =
    let f : ClashReason → Clashing = λ r. (m, r) in
    let all : map f reasons ≡ message_clashes m =
    ap (λ rs. map f rs) (all_reasons m.length (places_of m.signals) reasons are few) in
    e ∙ ap (λ ts. ts ++ map (λ (r : ClashReason). clash_sentence (m, r)) reasons) before
    ∙ joined (clashes_of (take i ms)) m reasons
    ∙ ap (λ cs. map clash_sentence (clashes_of (take i ms) ++ cs)) all
    ∙ ap (map clash_sentence) (sym (clashes_more ms i m lt item))

-- where there is no room for all of them
pub told_cut : (ms : List Message) (i reported room : ℕ) (m : Message) (reasons : List ClashReason)
    (old new : List (List ℕ)) → i < length ms → m ≡ get_or ms i m
    → AreReasons m.length (places_of m.signals) reasons
    → length old ≡ reported → reported ≤ clashes_reported → room ≡ clashes_reported - reported → room < length reasons
    → old ≡ map clash_sentence (clashes_of (take i ms))
    → new ≡ old ++ map (λ (r : ClashReason). clash_sentence (m, r)) (take room reasons)
    → new ≡ map clash_sentence (take clashes_reported (clashes_of ms))
told_cut ms i reported room m reasons old new lt item are count few room_is full before e =
    let n1 : length old ≡ length (map clash_sentence (clashes_of (take i ms))) = ap length before in
    let n2 : length (map clash_sentence (clashes_of (take i ms))) ≡ length (clashes_of (take i ms)) =
    length-map (clashes_of (take i ms)) clash_sentence in
    let counted : length (clashes_of (take i ms)) ≡ reported = omega (arith, n1, n2, count) in
    e ∙ ap (λ ts. ts ++ map (λ (r : ClashReason). clash_sentence (m, r)) (take room reasons)) before
    ∙ joined (clashes_of (take i ms)) m (take room reasons)
    ∙ ap (map clash_sentence) (sym (cut_clashes ms i reported room m reasons lt item are counted few room_is full))

-- after all messages
pub told_all : (ms : List Message) (i : ℕ) (told : List (List ℕ)) → length ms ≤ i → length told ≤ clashes_reported
    → told ≡ map clash_sentence (clashes_of (take i ms))
    → told ≡ map clash_sentence (take clashes_reported (clashes_of ms))
told_all ms i told over few is =
    let all : take i ms ≡ ms = take_all i ms over in
    let same : told ≡ map clash_sentence (clashes_of ms) =
    is ∙ ap (λ (xs : List Message). map clash_sentence (clashes_of xs)) all in
    let n1 : length told ≡ length (map clash_sentence (clashes_of ms)) = ap length same in
    let n2 : length (map clash_sentence (clashes_of ms)) ≡ length (clashes_of ms) =
    length-map (clashes_of ms) clash_sentence in
    same ∙ ap (map clash_sentence) (sym (take_all clashes_reported (clashes_of ms) (omega (arith, n1, n2, few))))
