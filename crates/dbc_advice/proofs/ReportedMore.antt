-- One more fault that is reported.
use Rattle.dbc_advice.proofs.Common.{◌≡◌, ◌+◌, ℕ, List, [], ◌∷◌, ◌++◌, length, true, refl, sym, ap, ◌∙◌, subst, arith}
use Rattle.dbc_advice.proofs.Common.{length-append, bytes_eq, bytes_eq-Decides}
use Rattle.dbc_advice.specs.Blanked.{blanked}
use Rattle.dbc_advice.specs.Findings.{AreReported, IsBlankUpTo, IsNext, IsReported, IsUnchanged, without}
use Rattle.dbc_advice.specs.declared.findings.Next.{Next}
use Rattle.dbc_advice.specs.declared.findings.Next.TheVariants as next
use Rattle.dbc_advice.specs.declared.findings.Reported.{Reported}

-- after those that are reported, the fault of what is left
pub reported_more : (text : List ℕ) (reported : List Reported) (left : List ℕ) (t : Reported)
    → AreReported text reported left → IsReported left t
    → AreReported text (reported ++ t ∷ []) (without t.lines left)
reported_more text [] left t same is =
    let P : List ℕ → Type 0 = λ (l : List ℕ). IsReported l t → AreReported text (t ∷ []) (without t.lines l) in
    subst P same (λ (h : IsReported text t). (h, refl)) is
reported_more text (first ∷ reported) left t are is =
    (are.0, reported_more (without first.lines text) reported left t are.1 is)

-- what the text gives next is a fault
pub is_reported : (text shown : List ℕ) (n : Next) (t : Reported) → n ≡ next.Fault t → shown ≡ text → IsNext shown n
    → IsReported text t
is_reported text shown n t e s h =
    let P : List ℕ → Type 0 = λ v. IsReported v t in
    let Q : Next → Type 0 = λ m. IsNext shown m in
    subst P s (subst Q e h)

-- the same along the equations of the code
pub reported_after : (source : List ℕ) (old new : List Reported) (text shown rest : List ℕ) (t : Reported)
    → AreReported source old text → IsReported text t
    → shown ≡ text → rest ≡ blanked t.lines.first t.lines.last shown → new ≡ old ++ t ∷ [] → AreReported source new rest
reported_after source old new text shown rest t are is s r n =
    let P : List Reported → Type 0 = λ ts. AreReported source ts rest in
    let Q : List ℕ → Type 0 = λ v. AreReported source (old ++ t ∷ []) v in
    let e : rest ≡ without t.lines text = r ∙ ap (blanked t.lines.first t.lines.last) s in
    subst P (sym n) (subst Q (sym e) (reported_more source old text t are is))

pub one_longer : (old new : List Reported) (t : Reported) (n : ℕ) → new ≡ old ++ t ∷ [] → length old ≡ n
    → length new ≡ n + 1
one_longer old new t n e many =
    let more : length (old ++ t ∷ []) ≡ length old + 1 = length-append old (t ∷ []) in
    let whole : length new ≡ length old + 1 = ap length e ∙ more in
    omega (arith, whole, many)

-- where blanking changes nothing
pub unchanged : (source : List ℕ) (old new : List Reported) (text shown rest : List ℕ) (t : Reported)
    → AreReported source old text → IsReported text t
    → shown ≡ text → rest ≡ blanked t.lines.first t.lines.last shown → new ≡ old ++ t ∷ [] → bytes_eq rest text ≡ true
    → IsUnchanged source new rest
unchanged source old new text shown rest t are is s r n tested =
    let same : rest ≡ text = (bytes_eq-Decides rest text).0 tested in
    let blank : without t.lines text ≡ text = ap (blanked t.lines.first t.lines.last) (sym s) ∙ sym r ∙ same in
    record {
      earlier = old;
      last = t;
      reported_is = n;
      before = subst (AreReported source old) (sym same) are;
      fault = subst (λ v. IsReported v t) (sym same) is;
      blank = subst (λ v. IsBlankUpTo v t.fault.at) (sym same) (is.blank blank);
    }
