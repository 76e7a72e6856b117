use Rattle.office.proofs.Common.{◌≡◌, ◌++◌, ◌∷◌, [], List, None, refl, sym, ap, subst, ◌∙◌, lookup, answered, Answered}
use Rattle.indexmap.proofs.CallerLemmas.{insert_entry-new}
use Rattle.office_history.specs.declared.arrival.Answer.TheVariants as answer
use Rattle.office.specs.declared.first.First.{First}
use Rattle.office.specs.declared.first.Pair.{Pair}
use Rattle.office.specs.Keyed.{HoldsHistory, pair_eq}
use Rattle.office.proofs.Kept.{entry_of, first_holds, none_kept}
use Rattle.office.proofs.keyed_office.KeyedOffice.first_arrival.Goals as goal

pub returns-clause-held : goal.returns-clause-held
returns-clause-held c h holds new =
    let pair : Pair = c.args.pair in
    let first : First = record { content = c.in_ok-content.content; reply = c.in_ok-reply.reply } in
    let a : Answered = answered pair.team pair.key c.args.request.now (answer.Reply c.in_ok-reply.copy) in
    let es : List (Pair × First) = c.self.inside.firsts.entries in
    let held = subst (HoldsHistory h) (sym c.self.view_is) holds in
    let unknown : lookup (pair_eq pair) c.reserve.new.self.entries ≡ None =
    subst (λ l. lookup (pair_eq pair) l ≡ None) (sym c.reserve.ensures.entries)
    (none_kept pair a refl refl h es held.kept new) in
    let last : c.insert.new.self.entries ≡ es ++ (pair, first) ∷ [] =
    (rw c.unwrap.ensures at c.insert.ensures.entries) ∙ insert_entry-new pair_eq c.reserve.new.self pair first unknown
    ∙ ap (λ l. l ++ (pair, first) ∷ []) c.reserve.ensures.entries in
    let reported : a.answer ≡ answer.Reply first.reply = ap answer.Reply c.in_ok-reply.ensures.copy in
    first_holds c.histories_grow.ensures h a first.reply c.self.inside.office c.step_with_copy.new.self es
    c.insert.new.self.entries (pair, first) held new reported c.in_ok-reply.ensures.step
    (entry_of pair first a refl refl (c.in_ok-content.ensures.items ∙ c.as_slice.ensures.value) reported) last
