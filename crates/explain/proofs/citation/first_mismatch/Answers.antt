use Rattle.explain.proofs.Words.{◌≡◌, ◌∙◌, ◌-◌, ◌+◌, ◌<◌, ap, sym, subst, [], length, get_or, arith, both_ways, Some, get_or_from_slice_get, slice_get-get_or, stands-within, Float}
use Rattle.explain.specs.Excerpts.{IsExcerpt}
use Rattle.explain.proofs.CitationFaultLemmas.{all_match, as_many, essential_fault, float_fault, match_next, numbered_at}
use Rattle.explain.proofs.KeptRunLemmas.{assertion_is}
use Rattle.explain.proofs.citation.first_mismatch.Goals as goal
use Rattle.explain.proofs.citation.first_mismatch.Goals.{in-Float, in-Essential+in_ok-of_applied-in-Essential}

pub overflow_sub-base : goal.overflow_sub-base
overflow_sub-base c =
    let s = c.requires.assertion.0 in let e = c.requires.assertion.1.0 in
    let many = as_many c.args.frames.now c.args.cited_at s c.args.cited.now c.args.results.now c.args.mandatory.now c.requires.legal c.requires.assertion.1 (c.requires.cited s e) (c.requires.mandatory s e) c.requires.read in
    let count = c.requires.read.count in omega (arith, many, count, c.len.ensures)

pub expr-expr-requires : goal.expr-expr-requires
expr-expr-requires c =
    let s = c.requires.assertion.0 in let e = c.requires.assertion.1.0 in
    let k = c.loop-k.k in
    let many = as_many c.args.frames.now c.args.cited_at s c.args.cited.now c.args.results.now c.args.mandatory.now c.requires.legal c.requires.assertion.1 (c.requires.cited s e) (c.requires.mandatory s e) c.requires.read in
    let inside : k < length c.args.cited.now.hypotheses = omega (arith, many, c.loop-k-test.true) in
    let h = numbered_at c.args.frames.now c.args.cited_at s c.args.cited.now c.args.results.now c.args.mandatory.now c.requires.legal c.requires.assertion.1 (c.requires.cited s e) (c.requires.mandatory s e) c.requires.read
    k (get_or c.args.cited.now.hypotheses k (Float 0)) (slice_get-get_or c.args.cited.now.hypotheses k (Float 0) inside) in
    stands-within c.args.frames.now.statements (get_or c.args.mandatory.now k 0) h.1.stmt h.1.stands

pub matches-requires : goal.matches-requires
matches-requires c =
    let s = c.requires.assertion.0 in let e = c.requires.assertion.1.0 in
    let many = as_many c.args.frames.now c.args.cited_at s c.args.cited.now c.args.results.now c.args.mandatory.now c.requires.legal c.requires.assertion.1 (c.requires.cited s e) (c.requires.mandatory s e) c.requires.read in
    let count = c.requires.read.count in omega (arith, many, count, c.len.ensures, c.loop-k-test.true)

pub get-requires : goal.get-requires
get-requires c =
    let s = c.requires.assertion.0 in let e = c.requires.assertion.1.0 in
    let many = as_many c.args.frames.now c.args.cited_at s c.args.cited.now c.args.results.now c.args.mandatory.now c.requires.legal c.requires.assertion.1 (c.requires.cited s e) (c.requires.mandatory s e) c.requires.read in
    let count = c.requires.read.count in omega (arith, many, count, c.len.ensures, c.loop-k-test.true)

pub get-requires-in-loop-k : goal.get-requires-in-loop-k
get-requires-in-loop-k c =
    let s = c.requires.assertion.0 in let e = c.requires.assertion.1.0 in
    let many = as_many c.args.frames.now c.args.cited_at s c.args.cited.now c.args.results.now c.args.mandatory.now c.requires.legal c.requires.assertion.1 (c.requires.cited s e) (c.requires.mandatory s e) c.requires.read in
    omega (arith, many, c.loop-k-test.true)

pub loop-k-preserved : goal.loop-k-preserved
loop-k-preserved c =
    let s = c.requires.assertion.0 in let e = c.requires.assertion.1.0 in
    let many = as_many c.args.frames.now c.args.cited_at s c.args.cited.now c.args.results.now c.args.mandatory.now c.requires.legal c.requires.assertion.1 (c.requires.cited s e) (c.requires.mandatory s e) c.requires.read in
    match_next c.args.frames.now c.args.cited_at s c.args.cited.now c.args.results.now c.args.mandatory.now c.requires.legal c.requires.assertion.1 (c.requires.cited s e) (c.requires.mandatory s e) c.requires.read
    c.loop-k.k (c.len.result - length c.args.mandatory.now) c.loop-k-test.true (omega (arith, many, c.len.ensures)) c.expr-expr.result.now c.expr-expr.ensures.same c.expr-expr.ensures.codes c.loop-k.invariant
    (c.matches.ensures.0 c.if-matches.true)

pub returns-in-loop-k : goal.returns-in-loop-k
returns-in-loop-k c s e =
    let has = assertion_is c.args.frames.now.statements c.args.cited_at c.requires.assertion.0 s c.requires.assertion.1 e in
    let many = as_many c.args.frames.now c.args.cited_at s c.args.cited.now c.args.results.now c.args.mandatory.now c.requires.legal has (c.requires.cited s e) (c.requires.mandatory s e) c.requires.read in
    let base = c.len.result - length c.args.mandatory.now in
    let base_is : base ≡ length c.args.results.now.results.stack - length c.args.cited.now.hypotheses = omega (arith, many, c.len.ensures) in
    let cut = subst (λ l. IsExcerpt l c.in_ok-result.result) (sym (get_or_from_slice_get c.args.results.now.results.stack (base + c.loop-k.k) c.get.result.now [] c.get.ensures)) c.in_ok-result.ensures in
    elim c.match-get.branch [
      | in-Float w ↦
          rw w.result-is (float_fault c.args.frames.now c.args.cited_at s c.args.cited.now c.args.results.now c.args.mandatory.now c.requires.legal has (c.requires.cited s e) (c.requires.mandatory s e) c.requires.read
          c.loop-k.k base c.loop-k-test.true base_is c.expr-expr.result.now c.expr-expr.ensures.same c.expr-expr.ensures.codes c.loop-k.invariant
          (λ fits. both_ways c.matches.result c.if-matches.false (c.matches.ensures.1 fits)) w.in-Float.field-0 c.in_ok-result.result (c.get-in-loop-k.ensures ∙ ap Some w.in-Float.is) cut)
      | in-Essential+in_ok-of_applied-in-Essential w ↦
          rw w.result-is (essential_fault c.args.frames.now c.args.cited_at s c.args.cited.now c.args.results.now c.args.mandatory.now c.requires.legal has (c.requires.cited s e) (c.requires.mandatory s e) c.requires.read
          c.loop-k.k base c.loop-k-test.true base_is c.expr-expr.result.now c.expr-expr.ensures.same c.expr-expr.ensures.codes c.loop-k.invariant
          (λ fits. both_ways c.matches.result c.if-matches.false (c.matches.ensures.1 fits)) w.in-Essential.field-0 w.in_ok-of_applied-in-Essential.field-0 c.in_ok-result.result (c.get-in-loop-k.ensures ∙ ap Some w.in-Essential.is)
          w.in_ok-of_applied-in-Essential.ensures cut)
    ]

pub returns : goal.returns
returns c s e =
    let has = assertion_is c.args.frames.now.statements c.args.cited_at c.requires.assertion.0 s c.requires.assertion.1 e in
    all_match c.args.frames.now c.args.cited_at s c.args.cited.now c.args.results.now c.args.mandatory.now c.requires.legal has (c.requires.cited s e) (c.requires.mandatory s e) c.requires.read c.loop-k.k
    (omega (arith, c.loop-k-test.false)) c.loop-k.invariant
