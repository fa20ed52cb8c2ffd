-- `records::step_fields` meets its contract: each word is the field that stands there. Assumes nothing.
use Rattle.image.specs.Image.{field_at}
use Rattle.records.specs.Records.{step_read}
use Rattle.records.proofs.step_fields.Goals as goal

pub returns : goal.returns
unfolding step_read field_at
returns c =
    let number = c.word_at.ensures in
    let kind = c.word_at-2.ensures in
    let content = c.word_at-3.ensures in
    let bits = c.word_at-4.ensures in
    let first = c.word_at-5.ensures in
    let second = c.word_at-6.ensures in
    let third = c.word_at-7.ensures in
    let fourth = c.word_at-8.ensures in
    λ k.
    record {
      number = number k;
      kind = kind k;
      content = content k;
      bits = bits k;
      first = first k;
      second = second k;
      third = third k;
      fourth = fourth k;
      cabin = c.cabin_in.ensures k;
    }
