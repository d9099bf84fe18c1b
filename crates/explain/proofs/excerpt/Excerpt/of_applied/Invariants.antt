use Rattle.explain.proofs.Words.{take, code_apply}
use Rattle.explain.specs.Excerpts.{IsExcerpt}
use Rattle.explain.proofs.excerpt.Excerpt.of_applied.Given as goal

-- the excerpt is that of the symbols so far
abbrev pub invariant-loop-symbol : goal.invariant-loop-symbol
invariant-loop-symbol l = IsExcerpt (code_apply l.results.images (take l.symbol-index l.expr)) l.excerpt
