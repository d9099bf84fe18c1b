use Rattle.std.proofs.Common.{◌≡◌, ◌<◌, ◌^◌, drop}
use Rattle.text.specs.Numbers.{number_from, number_of}
use Rattle.text.proofs.number.parse_number.Given as goal

abbrev pub invariant-loop-digit : goal.invariant-loop-digit
invariant-loop-digit l = record { reads : number_of l.word ≡ number_from l.value (drop l.digit-index l.word); small : l.value < 2 ^ 64 }
