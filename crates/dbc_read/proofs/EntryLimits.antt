-- Lists of entries, of which some may be too many, as a loop goes through them.
use Rattle.dbc_read.proofs.Common.{◌≡◌, ◌∙◌, ◌<◌, ◌++◌, ◌∷◌, true, false, List, [], Option, Some, None, is_some, length}
use Rattle.dbc_read.proofs.Common.{nat_lt, inl, inr, refl, sym, ap, append_assoc, arith, IfNone, IfSome, AllByRecursion}
use Rattle.dbc_read.proofs.Common.{nat_tests, value_text_limit, AreFewTexts, ValueText, TooMany, ReadFault}
use Rattle.std.proofs.Common.{◌⊎◌}
use Rattle.dbc_read.specs.Faults.{IsEntriesFault}

-- the fault of one of the lists, or none if none is too long
pub record IsFirstExcess (lists : List (List ValueText)) (first : Option ReadFault) : Type 0 where
  pub none : IfNone first (AllByRecursion AreFewTexts lists)
  pub fault : IfSome first (IsEntriesFault lists)

pub nothing_yet : IsFirstExcess [] None
nothing_yet = record { none = tt; fault = tt }

few : (entries : List ValueText) → false ≡ nat_lt value_text_limit (length entries) → AreFewTexts entries
few entries e = let f : nat_lt value_text_limit (length entries) ≡ false = sym e in grind (arith, nat_tests)

many : (entries : List ValueText) → true ≡ nat_lt value_text_limit (length entries) → ¬ AreFewTexts entries
many entries e = λ h. let f : nat_lt value_text_limit (length entries) ≡ true = sym e in
    let more : value_text_limit < length entries = grind (arith, nat_tests) in omega (arith, h, more)

all_and_last : (lists : List (List ValueText)) (entries : List ValueText) → AllByRecursion AreFewTexts lists
    → AreFewTexts entries → AllByRecursion AreFewTexts (lists ++ entries ∷ [])
all_and_last [] entries h last = (last, tt)
all_and_last (l ∷ lists) entries h last = (h.0, all_and_last lists entries h.1 last)

-- the fault of the first lists is one of all of them, and that of the last one is too
before_last : (lists : List (List ValueText)) (entries : List ValueText) (fault : ReadFault)
    → IsEntriesFault lists fault → IsEntriesFault (lists ++ entries ∷ []) fault
before_last lists entries fault h = record {
  before = h.before;
  entries = h.entries;
  after = h.after ++ entries ∷ [];
  parts = ap (λ l. l ++ entries ∷ []) h.parts ∙ append_assoc h.before (h.entries ∷ h.after) (entries ∷ []);
  many = h.many;
  code = h.code;
}

at_last : (lists : List (List ValueText)) (entries : List ValueText) (fault : ReadFault)
    → true ≡ nat_lt value_text_limit (length entries) → fault.code ≡ TooMany
    → IsEntriesFault (lists ++ entries ∷ []) fault
at_last lists entries fault more code =
    record { before = lists; entries = entries; after = []; parts = refl; many = many entries more; code = code }

module _ (lists : List (List ValueText)) (entries : List ValueText) where
  -- one list more, of which this is the fault where it is too long
  pub one_more : (first last both : Option ReadFault) → IsFirstExcess lists first
      → is_some last ≡ nat_lt value_text_limit (length entries) → IfSome last (λ fault. fault.code ≡ TooMany)
      → (both ≡ first) ⊎ (both ≡ last) → IfNone both ((first ≡ None) × (last ≡ None))
      → IsFirstExcess (lists ++ entries ∷ []) both
  one_more first last both h is code one none =
      record { none = no_fault first last both h is none; fault = some_fault first last both h is code one }
    where
      no_fault : (first last both : Option ReadFault) → IsFirstExcess lists first
          → is_some last ≡ nat_lt value_text_limit (length entries)
          → IfNone both ((first ≡ None) × (last ≡ None))
          → IfNone both (AllByRecursion AreFewTexts (lists ++ entries ∷ []))
      no_fault None None None h is none = all_and_last lists entries h.none (few entries is)
      no_fault (Some x) last None h is none = absurd (let e = none.0 in cc)
      no_fault None (Some x) None h is none = absurd (let e = none.1 in cc)
      no_fault first last (Some x) h is none = tt

      some_fault : (first last both : Option ReadFault) → IsFirstExcess lists first
          → is_some last ≡ nat_lt value_text_limit (length entries) → IfSome last (λ fault. fault.code ≡ TooMany)
          → (both ≡ first) ⊎ (both ≡ last) → IfSome both (IsEntriesFault (lists ++ entries ∷ []))
      some_fault first last None h is code one = tt
      some_fault (Some x) last (Some y) h is code (inl e) = let same : y ≡ x = cc in
          rw same (before_last lists entries x h.fault)
      some_fault None last (Some y) h is code (inl e) = absurd cc
      some_fault first (Some x) (Some y) h is code (inr e) = let same : y ≡ x = cc in
          rw same (at_last lists entries x is code)
      some_fault first None (Some y) h is code (inr e) = absurd cc
