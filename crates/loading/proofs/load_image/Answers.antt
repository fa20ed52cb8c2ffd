-- `loading::load_image` meets its contract: a table that is not taken becomes a fresh one. Assumes nothing.
use mathlib.Core.Path.{sym, ◌∙◌, ap}
use Rattle.words.specs.Words.{words_of}
use Rattle.loading.proofs.Loading.{load_refused, load_accepted}
use Rattle.loading.proofs.load_image.Goals as goal

pub returns-then-not-take_image : goal.returns-then-not-take_image
returns-then-not-take_image c =
    let e = load_refused _ (sym c.take_image.ensures.answer ∙ c.if-not-take_image.true) in
    record {
      answer = sym (ap (λ o. o.answer) e);
      table = c.refused_table.ensures ∙ sym (ap (λ o. words_of o.table) e);
    }

pub returns : goal.returns
returns c =
    let s = c.take_image.ensures in
    let taken = c.if-not-take_image.false in
    let e = load_accepted _ (sym s.answer ∙ taken) in
    record {
      answer = sym (ap (λ o. o.answer) e);
      table = s.table taken ∙ sym (ap (λ o. words_of o.table) e);
    }
