use Rattle.explain.proofs.Words.{◌≡◌, ◌∙◌, ◌++◌, ◌-◌, ap, sym, subst, refl, length, drop, take, map, arith, decode, expr_of, before, hypotheses, map-append, take-append-drop, length-drop, length-map, AllBelow, named_results, images_of, last_named}
use Rattle.frame.specs.Substitution.{apply as applied}
use Rattle.verify.proofs.RequiredHypotheses.{required-lengths}
use Rattle.verify.specs.HypothesisResults.{AreGiven}
use Rattle.verify.specs.ResultPlaces.{top}
use Rattle.explain.proofs.KeptRunLemmas.{assertion_is, wrong_fails, gives_is}
use Rattle.explain.proofs.citation.assertion_fault.Goals as goal

pub read_untyped-requires : goal.read_untyped-requires
read_untyped-requires c =
    let s = c.requires.assertion.0 in let e = c.requires.assertion.1.0 in
    let S = c.args.frames.now.statements in let cited = c.in_ok-cited.cited in
    let lens = required-lengths S c.args.frames.now.names (hypotheses (before S c.args.cited_at) s) cited.typecodes.now cited.hypotheses (c.in_ok-cited.ensures s e).numbered_hypotheses in
    let count = lens.1 in let listed = ap length (c.in_ok-mandatory.ensures.listed s e) in
    omega (arith, count, listed, c.len-present.ensures, c.len-required.ensures, c.if-present-required.false)

pub results_fault-requires-clause-read : goal.results_fault-requires-clause-read
results_fault-requires-clause-read c =
    let s = c.requires.assertion.0 in let e = c.requires.assertion.1.0 in
    let S = c.args.frames.now.statements in let cited = c.in_ok-cited.cited in
    let lens = required-lengths S c.args.frames.now.names (hypotheses (before S c.args.cited_at) s) cited.typecodes.now cited.hypotheses (c.in_ok-cited.ensures s e).numbered_hypotheses in
    let count = lens.1 in let listed = ap length (c.in_ok-mandatory.ensures.listed s e) in
    let same = c.read_untyped.ensures.same in
    let long = ap (λ q. length q.stack) same in
    record {
      count = omega (arith, long, count, listed, c.len-present.ensures, c.len-required.ensures, c.if-present-required.false);
      below = subst (λ q. AllBelow (length c.args.frames.now.names) q.stack) (sym same) c.requires.results;
      given = subst (λ q. AreGiven cited.hypotheses (top (length cited.hypotheses) q.stack) c.read_untyped.new.self.images) (sym same) c.in_ok-read_untyped.ensures.read;
    }

pub returns-in-Some : goal.returns-in-Some
returns-in-Some c s e =
    let S = c.args.frames.now.statements in let names = c.args.frames.now.names in let cited = c.in_ok-cited.cited in
    let stack = c.args.results.now.results.stack in
    let n = length cited.hypotheses in
    let base = length stack - n in
    let rs = last_named c.args.frames.now cited.hypotheses c.read_untyped.new.self in
    let below = map (decode names) (take base stack) in
    let has = assertion_is S c.args.cited_at c.requires.assertion.0 s c.requires.assertion.1 e in
    let lens = required-lengths S names (hypotheses (before S c.args.cited_at) s) cited.typecodes.now cited.hypotheses (c.in_ok-cited.ensures s e).numbered_hypotheses in
    let by_names : rs ≡ map (decode names) (drop base stack) = ap (λ q. map (decode names) (top n q.stack)) c.read_untyped.ensures.same in
    let whole : map (decode names) stack ≡ below ++ rs =
    ap (map (decode names)) (sym (take-append-drop base stack)) ∙ (map-append (decode names) (take base stack) (drop base stack) ∙ ap (λ r. below ++ r) (sym by_names)) in
    let count = lens.1 in let listed = ap length (c.in_ok-mandatory.ensures.listed s e) in
    let long = ap length by_names ∙ length-map (drop base stack) (decode names) in let cut = length-drop base stack in
    wrong_fails S names c.args.at c.args.cited_at s (named_results c.args.frames.now c.args.results.now) below rs c.in-Some.fault
    whole (omega (arith, long, cut, count, listed, c.len-present.ensures, c.len-required.ensures, c.if-present-required.false)) c.requires.earlier has (rw c.in-Some.is at (c.in_ok-fault.ensures s e))

pub returns : goal.returns
returns c s e =
    let S = c.args.frames.now.statements in let names = c.args.frames.now.names in let cited = c.in_ok-cited.cited in
    let stack = c.args.results.now.results.stack in
    let n = length cited.hypotheses in
    let base = length stack - n in
    let rs = last_named c.args.frames.now cited.hypotheses c.read_untyped.new.self in
    let below = map (decode names) (take base stack) in
    let has = assertion_is S c.args.cited_at c.requires.assertion.0 s c.requires.assertion.1 e in
    let by_names : rs ≡ map (decode names) (drop base stack) = ap (λ q. map (decode names) (top n q.stack)) c.read_untyped.ensures.same in
    let whole : map (decode names) stack ≡ below ++ rs =
    ap (map (decode names)) (sym (take-append-drop base stack)) ∙ (map-append (decode names) (take base stack) (drop base stack) ∙ ap (λ r. below ++ r) (sym by_names)) in
    let result = applied (images_of S c.args.cited_at s rs) (expr_of s) in
    let gives = gives_is S c.args.at c.args.cited_at s rs (map (decode names) stack) below result c.requires.earlier has (c.in_ok-mandatory.ensures.legal.well_typed c.args.cited_at s has).variable
    (rw c.in-None.is at (c.in_ok-fault.ensures s e)) whole refl in
    record { below = below; result = result; gives = gives; heavy = c.requires.stuck s below result e gives }
