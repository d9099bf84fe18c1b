use Rattle.std.proofs.Common.{◌+◌, ◌*◌}
use Rattle.read_pool.proofs.parts.+parts.Given as goal

abbrev pub decreases-read_parts : goal.decreases-read_parts
decreases-read_parts g l = 2 * l.parts

abbrev pub decreases-first : goal.decreases-first
decreases-first g l = 2 * l.front_parts + 1

abbrev pub decreases-second : goal.decreases-second
decreases-second g l = 2 * l.back_parts + 1
