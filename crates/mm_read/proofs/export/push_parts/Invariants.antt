use Rattle.std.proofs.Common.{◌≡◌, ◌++◌, flat_map, length, take}
use Rattle.mm_read.proofs.export.push_parts.Given as goal

abbrev pub invariant-loop-part : goal.invariant-loop-part
invariant-loop-part l = record {
  added : l.text.items ≡ l.fn.text.items ++ flat_map (λ p. p.now) (take l.part-index l.parts);
  len : l.len ≡ length l.fn.text.items;
}
