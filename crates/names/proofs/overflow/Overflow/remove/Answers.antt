use Rattle.std.proofs.Common.{refl}
use Rattle.names.proofs.OverflowLemmas.{others-short, others-long}
use Rattle.names.proofs.overflow.Overflow.remove.Goals as goal

pub returns-then-name-lt-LEAST_HASHED_LEN : goal.returns-then-name-lt-LEAST_HASHED_LEN
returns-then-name-lt-LEAST_HASHED_LEN c =
    others-short c.args.self.now (record { short = c.remove.new.self; long = c.args.self.now.long }) c.args.name.now c.key.result _ c.key.ensures.bytes c.key.ensures.key refl c.remove.ensures.updates

pub returns-else-name-lt-LEAST_HASHED_LEN : goal.returns-else-name-lt-LEAST_HASHED_LEN
returns-else-name-lt-LEAST_HASHED_LEN c =
    λ x bytes ne. others-long c.args.self.now (record { short = c.args.self.now.short; long = c.remove-else-name-lt-LEAST_HASHED_LEN.new.self }) c.args.name.now _ refl c.remove-else-name-lt-LEAST_HASHED_LEN.ensures.updates x ne
