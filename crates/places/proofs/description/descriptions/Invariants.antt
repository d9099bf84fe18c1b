use Rattle.std.proofs.Common.{◌-◌, ◌≤◌, length}
use Rattle.places.proofs.DescriptionLemmas.{IsListed}
use Rattle.places.proofs.description.descriptions.Given as goal

abbrev pub invariant-loop-span : goal.invariant-loop-span
invariant-loop-span l = record { within : l.at ≤ length l.text; listed : IsListed l.text l.at l.walk l.list.items }

abbrev pub decreases-loop-span : goal.decreases-loop-span
decreases-loop-span l = length l.text - l.at
