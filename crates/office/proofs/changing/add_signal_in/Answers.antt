use Rattle.office.proofs.Common.{◌++◌, ◌∷◌, ◌∙◌, [], sym, on_ok_weaker}
use Rattle.office.proofs.Changed.{index-if_added}
use Rattle.office.proofs.InPlace.{changed_in_place, fits_there, has_index, is_within}
use Rattle.office.proofs.changing.add_signal_in.Goals as goal

pub add_at-requires-clause-within : goal.add_at-requires-clause-within
add_at-requires-clause-within c =
    is_within c.args.net.now c.args.message.now (λ m. m.message.signals ++ c.args.signal ∷ []) c.in-Some.at
    (sym c.find_named.ensures ∙ c.in-Some.is)

pub add_at-requires-clause-fits : goal.add_at-requires-clause-fits
add_at-requires-clause-fits c =
    fits_there c.args.net.now c.args.message.now c.args.signal c.requires.fits c.in-Some.at
    (sym c.find_named.ensures ∙ c.in-Some.is)

pub returns-in-None-clause-ok : goal.returns-in-None-clause-ok
returns-in-None-clause-ok c =
    absurd (has_index c.args.net.now c.args.message.now c.args.signal c.requires.fits
    (sym c.find_named.ensures ∙ c.in-None.is))

pub returns-in-Some-clause-ok : goal.returns-in-Some-clause-ok
returns-in-Some-clause-ok c =
    on_ok_weaker c.add_at.result
    (changed_in_place c.args.net.now c.args.message.now (λ m. m.message.signals ++ c.args.signal ∷ []) c.in-Some.at
    (sym c.find_named.ensures ∙ c.in-Some.is) c.add_at.new.live c.requires.net)
    c.add_at.ensures.ok

pub returns-in-Some-clause-index : goal.returns-in-Some-clause-index
returns-in-Some-clause-index c =
    index-if_added c.add_at.result c.args.index.now c.args.net.now c.in-Some.at c.args.signal c.add_at.new.live
    (is_within c.args.net.now c.args.message.now (λ m. m.message.signals ++ c.args.signal ∷ []) c.in-Some.at
    (sym c.find_named.ensures ∙ c.in-Some.is))
    c.add_at.ensures.ok c.add_at.ensures.err c.requires.index
