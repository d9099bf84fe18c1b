use Rattle.std.proofs.Common.{◌≡◌, ◌+◌, ◌++◌, List, length}
use Rattle.mm_lex.specs.Alphabet.{Name}
use Rattle.mm_lex.specs.Words.{AreWords}
use Rattle.steps.specs.KnownPart.{KnowsTokens, known_of}
use Rattle.steps.proofs.known_part.known_part.Given as goal

abbrev pub invariant-loop-token : goal.invariant-loop-token
invariant-loop-token l =
    AreWords l.rest
    × ((front : List Name) × (front ++ l.rest ≡ l.tokens) × KnowsTokens l.frames.statements l.at front (known_of l.known))
    × (l.known.left + length l.known.tokens ≡ l.limit)
