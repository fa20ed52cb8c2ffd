-- `recording::recount` meets its contract: what the counters were is not looked at. Assumes nothing.
use mathlib.Core.Path.{◌≡◌, refl, sym, ◌∙◌, ap, subst}
use mathlib.Core.List.{List}
use Prim.Native.Nat.{ℕ, ◌*◌, ◌≤◌, ◌<◌}
use lib.ListN.{get_or, replicate}
use Rattle.table.specs.Table.{Table, places, counters, counts_at, links_to, with_links}
use Rattle.image.specs.Image.{counted}
use Rattle.recording.proofs.recount.Goals as goal

-- counters go by capacity, targets and bits
counted_again : (t : Table) (l : List ℕ) → counted (with_links t t.targets t.bits l) ≡ counted t
unfolding counted with_links links_to counts_at
counted_again t l = refl

pub count_links-requires : goal.count_links-requires
unfolding with_links
count_links-requires c =
    let e = c.zero_counts.ensures.table in
    let p = c.requires in
    subst (λ (t : Table). (t.capacity ≤ places) × ((p : ℕ) → get_or t.bits p 0 < counters) × (t.counts ≡ replicate (places * counters) 0)) (sym e)
    (p.0, p.1, refl)

pub returns : goal.returns
returns c =
    let z = c.zero_counts.ensures in
    record {
      table = c.count_links.ensures.table ∙ ap counted z.table ∙ counted_again _ _;
      size = c.count_links.ensures.size ∙ z.size;
    }
