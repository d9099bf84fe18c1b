use Rattle.explain.proofs.Words.{refl, map, decode, expr_of, of_hypothesis}
use Rattle.explain.proofs.KeptRunLemmas.{hypothesis_is}
use Rattle.explain.proofs.citation.citation_fault.Goals as goal

pub returns-in-Hypothesis : goal.returns-in-Hypothesis
returns-in-Hypothesis c s e =
    let S = c.args.frames.now.statements in let names = c.args.frames.now.names in let known = c.in-Hypothesis.ensures in
    let is = hypothesis_is S names c.args.at c.args.statement known.0 s c.in-Hypothesis.field-0.now known.1 known.2 e in
    record {
      below = map (decode names) c.args.results.now.results.stack;
      result = expr_of s;
      gives = of_hypothesis is.0 refl refl;
      heavy = c.requires.stuck s (map (decode names) c.args.results.now.results.stack) (expr_of s) e (of_hypothesis is.0 refl refl);
    }
