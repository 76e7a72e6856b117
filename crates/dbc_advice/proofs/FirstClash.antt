-- The first reason why a message isn't clear.
use Rattle.dbc_advice.proofs.Common.{◌≡◌, ◌+◌, ◌<◌, ◌≤◌, ℕ, List, [], ◌∷◌, ◌++◌, Some, None, length, map, take, drop}
use Rattle.dbc_advice.proofs.Common.{get_or, sym, ap, subst, ◌∙◌, arith, slice_get, take_all, places_of, Message}
use Rattle.dbc_advice.specs.Clashes.{Clashing, clashes_of, message_clashes}
use Rattle.dbc_advice.specs.First.{IsFirstClash, IsStatedClash}
use Rattle.dbc_advice.specs.Reasons.{AreReasons, reasons_from}
use Rattle.dbc_advice.specs.declared.first.Stated.{Stated}
use Rattle.dbc_advice.specs.declared.reasons.ClashReason.{ClashReason}
use Rattle.dbc_advice.proofs.ClashLines.{all_reasons, clashes_more, clashes_split}

-- messages before this one have no reason, and this one has
pub first_here : (text : List ℕ) (ms : List Message) (i : ℕ) (m : Message) (r : ClashReason) (reasons : List ClashReason)
    (s : Stated) → i < length ms → m ≡ get_or ms i m → AreReasons m.length (places_of m.signals) (r ∷ reasons)
    → clashes_of (take i ms) ≡ [] → IsStatedClash text (m, r) s → IsFirstClash text (clashes_of ms) (Some s)
first_here text ms i m r reasons s lt item are none stated =
    let pair : ClashReason → Clashing = λ x. (m, x) in
    let later = reasons ++ reasons_from m.length (places_of m.signals) are.looked_at in
    let after = clashes_of (drop (i + 1) ms) in
    let here : message_clashes m ≡ (m, r) ∷ map pair later = ap (λ rs. map pair rs) (sym are.are) in
    let whole : clashes_of ms ≡ (m, r) ∷ (map pair later ++ after) =
    clashes_split ms i m lt item ∙ ap (λ cs. cs ++ (message_clashes m ++ after)) none
    ∙ ap (λ cs. cs ++ after) here in
    subst (λ cs. IsFirstClash text cs (Some s)) (sym whole) stated

-- the same where that is the first of its reasons
pub first_found : (text : List ℕ) (ms : List Message) (i : ℕ) (m : Message) (r : ClashReason) (reasons : List ClashReason)
    (s : Stated) → i < length ms → m ≡ get_or ms i m → AreReasons m.length (places_of m.signals) reasons
    → slice_get reasons 0 ≡ Some r → clashes_of (take i ms) ≡ [] → IsStatedClash text (m, r) s
    → IsFirstClash text (clashes_of ms) (Some s)
first_found text ms i m r [] s lt item are is none stated = cc
first_found text ms i m r (x ∷ reasons) s lt item are is none stated =
    let same : x ≡ r = cc in
    first_here text ms i m x reasons s lt item are none (subst (λ y. IsStatedClash text (m, y) s) (sym same) stated)

-- nor has this one
pub none_more : (ms : List Message) (i : ℕ) (m : Message) → i < length ms → m ≡ get_or ms i m
    → AreReasons m.length (places_of m.signals) [] → clashes_of (take i ms) ≡ [] → clashes_of (take (i + 1) ms) ≡ []
none_more ms i m lt item are none =
    let pair : ClashReason → Clashing = λ x. (m, x) in
    clashes_more ms i m lt item ∙ ap (λ cs. cs ++ message_clashes m) none
    ∙ ap (λ rs. map pair rs) (sym (all_reasons m.length (places_of m.signals) [] are (omega arith)))

-- no message has
pub none_at_all : (text : List ℕ) (ms : List Message) (i : ℕ) → length ms ≤ i → clashes_of (take i ms) ≡ []
    → IsFirstClash text (clashes_of ms) None
none_at_all text ms i le none =
    subst (λ cs. IsFirstClash text cs None) (sym (ap clashes_of (sym (take_all i ms le)) ∙ none)) tt
