use Rattle.office_looks.proofs.Common.{◌≡◌, ◌+◌, ◌<◌, ◌++◌, List, ℕ, ◌∷◌, length, drop, filter, get_or, refl, sym, ap}
use Rattle.office_looks.proofs.Common.{◌∙◌, arith, flat_map, Message, owned}
use Rattle.office_looks.specs.Who.{is_sought, live_numbers, numbers_of}
use Rattle.office_looks.proofs.Owning.{element, failing, line_more, owned_at, passing}
use Rattle.office_looks.proofs.who.add_live_numbers.Goals as goal
use Rattle.office_looks.proofs.who.add_live_numbers.Goals.{then-is_sought+in_ok-add_numbers, else-is_sought}

pub loop-index-preserved : goal.loop-index-preserved
loop-index-preserved c =
    let view = c.args.view.now in
    let s = c.args.sought.now in
    let i = c.loop-index.index in
    let test = λ (p : Message × List ℕ). is_sought s p.0.ident p.0.name in
    let piece = λ (p : Message × List ℕ). numbers_of p.0.ident in
    let rest = drop (i + 1) (owned view) in
    let within : i < length (owned view) = omega arith in
    let in_messages : i < length view.sheet.messages = omega arith in
    let in_owners : i < length view.owners = omega arith in
    let m = c.index-messages-index.result in
    let is_m : m ≡ get_or view.sheet.messages i m =
    c.index-messages-index.is ∙ ap (λ v. get_or v i m) c.messages-messages.ensures.messages in
    let (o, is_o) = element view.owners i in_owners in
    let here : drop i (owned view) ≡ (m, o) ∷ rest = owned_at view i m o within in_messages in_owners is_m is_o in
    let tested : c.is_sought.result ≡ is_sought s m.ident m.name =
    c.is_sought.ensures ∙ ap (is_sought s m.ident) c.as_bytes.ensures.bytes in
    let before = c.loop-index.numbers.items in
    elim c.if-is_sought.branch [
      | then-is_sought+in_ok-add_numbers w ↦
          line_more piece (m, o) (filter test rest) (c.args.numbers.now.items ++ live_numbers s view) before
          (numbers_of m.ident) c.if-is_sought.numbers.items
          (c.loop-index.invariant
          ∙ ap (λ v. before ++ flat_map piece (filter test v)) here
          ∙ ap (λ v. before ++ flat_map piece v) (passing test (m, o) rest (sym tested ∙ w.if-is_sought.true)))
          refl
          (ap (λ v. v.items) w.numbers-is ∙ w.in_ok-add_numbers.ensures)
      | else-is_sought w ↦
          c.loop-index.invariant
          ∙ ap (λ v. before ++ flat_map piece (filter test v)) here
          ∙ ap (λ v. before ++ flat_map piece v) (failing test (m, o) rest (sym tested ∙ w.if-is_sought.false))
          ∙ ap (λ v. v.items ++ flat_map piece (filter test rest)) (sym w.numbers-is)
    ]
