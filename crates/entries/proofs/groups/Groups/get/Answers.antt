use Rattle.entries.proofs.Words.{length, slice_get, Some, sym, ap, ◌∙◌, arith, length-map, slice_get-map, slice_range, option_map, BufferPart}
use Rattle.entries.proofs.SpanLemmas.{span-in}
use Rattle.entries.proofs.groups.Groups.get.Goals as goal

pub item-span-requires : goal.item-span-requires
item-span-requires c = let n = length-map c.self.inside.spans.now (λ (s : BufferPart). slice_range c.self.inside.numbers.now s.from s.to) in let v = ap length c.self.view_is in omega arith

pub part-requires : goal.part-requires
part-requires c = span-in (length c.self.inside.numbers.now) c.self.inside.spans.now c.args.index c.item-span.result c.self.invariant c.item-span.ensures

pub returns : goal.returns
returns c =
    let cut = λ (s : BufferPart). slice_range c.self.inside.numbers.now s.from s.to in
    ap (λ xs. slice_get xs c.args.index) (sym c.self.view_is)
    ∙ (slice_get-map cut c.self.inside.spans.now c.args.index ∙ (ap (option_map cut) c.item-span.ensures ∙ ap Some (sym c.part.ensures)))
