-- The law of assumed statements: legal statements are good once their unproved `$p` are replaced
-- by `$a`. Commands with the option `--assume` ask a library of such statements.
-- Source: Metamath, 4.2.6: a citation uses only the frame of an earlier assertion, whether that is
-- a `$a` or a `$p`.
use Rattle.std.specs.Prelude.{ℕ, List, length}
use Rattle.library.specs.Good.{Good}
use Rattle.library.specs.Words.{AllLegal, Database}
use Rattle.unproved.specs.Unproved.{AreUnproved, assumed}

-- legal statements are good with exactly their unproved `$p` replaced by `$a`, since every
-- statement stays legal, every frame stays the same, and every other proof stays right
abbrev pub AssumedIsGood : Type 0
AssumedIsGood =
    (S : Database) (positions : List ℕ) → AllLegal S → AreUnproved S 0 (length S) positions → Good (assumed S positions)
