use Rattle.std.proofs.Common.{refl, ◌∙◌}
use Rattle.names.proofs.OverflowLemmas.{others-short, others-long}
use Rattle.names.proofs.overflow.Overflow.insert.Goals as goal

pub returns-then-name-lt-LEAST_HASHED_LEN-clause-others : goal.returns-then-name-lt-LEAST_HASHED_LEN-clause-others
returns-then-name-lt-LEAST_HASHED_LEN-clause-others c =
    others-short c.args.self.now (record { short = c.insert.new.self; long = c.args.self.now.long }) c.args.name.now c.key.result _ c.key.ensures.bytes c.key.ensures.key refl c.in_ok-insert.ensures.updates

pub returns-clause-others : goal.returns-clause-others
returns-clause-others c =
    λ x bytes ne. others-long c.args.self.now (record { short = c.args.self.now.short; long = c.insert-2.new.self }) c.in_ok-name_copy.name_copy.items _ refl c.in_ok-insert-2.ensures.updates x (λ e. ne (e ∙ c.in_ok-name_copy.ensures.items))
