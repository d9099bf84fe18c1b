use Rattle.explain.proofs.Words.{◌∙◌, ◌<◌, ℕ, ap, sym, subst, length, refl, map, before, AreBelow, AreDistinct, decode, AllBelow, code_image, hypotheses, images_of, last_named}
use Rattle.explain.proofs.CitationFaultLemmas.{images_over, images_same}
use Rattle.explain.proofs.KeptRunLemmas.{assertion_is}
use Rattle.explain.proofs.NamedLemmas.{AreSame, groups_same}
use Rattle.explain.proofs.ViolationLemmas.{violation_named}
use Rattle.explain.proofs.WrongResultsLemmas.{wrong_is, violation_moved, disjoint_moved}
use Rattle.explain.proofs.citation.results_fault.Goals as goal

pub first_violation-requires-clause-over : goal.first_violation-requires-clause-over
first_violation-requires-clause-over c =
    let s = c.requires.assertion.0 in let e = c.requires.assertion.1.0 in
    let S = c.args.frames.now.statements in
    subst (λ ns. (x : ℕ) → x < length ns → AreBelow (length ns) (code_image c.args.results.now.images x)) (sym c.active_pairs-pairs.ensures.names)
    (images_over c.args.frames.now c.args.cited_at s c.args.cited.now c.args.results.now (hypotheses (before S c.args.cited_at) s) c.requires.legal c.requires.assertion.1 (c.requires.cited s e) refl c.requires.read)

pub first_violation-requires-clause-below : goal.first_violation-requires-clause-below
first_violation-requires-clause-below c =
    let s = c.requires.assertion.0 in let e = c.requires.assertion.1.0 in
    subst (AllBelow (length c.active_pairs-pairs.result.names)) (sym c.as_groups.ensures) (subst (λ ns. AllBelow (length ns) c.in_ok-groups.groups) (sym c.active_pairs-pairs.ensures.names) (c.in_ok-groups.ensures s e).below)

pub returns-in-Some : goal.returns-in-Some
returns-in-Some c s e =
    let S = c.args.frames.now.statements in let names = c.args.frames.now.names in
    wrong_is S names c.args.at c.args.cited_at s (last_named c.args.frames.now c.args.cited.now.hypotheses c.args.results.now) c.in-Some.fault (rw c.in-Some.is at (c.in_ok-fault.ensures s e))

pub returns-in-Some-violation : goal.returns-in-Some-violation
returns-in-Some-violation c s e =
    let S = c.args.frames.now.statements in let names = c.args.frames.now.names in let cited = c.requires.cited s e in
    let ps = hypotheses (before S c.args.cited_at) s in
    let has = assertion_is S c.args.cited_at c.requires.assertion.0 s c.requires.assertion.1 e in
    let τ = images_of S c.args.cited_at s (last_named c.args.frames.now c.args.cited.now.hypotheses c.args.results.now) in
    let σ = c.args.results.now.images in
    let pairs = c.active_pairs-pairs.result in
    let pn = c.active_pairs-pairs.ensures.names in
    let same = subst (λ ns. AreSame ns σ τ) (sym pn) (images_same c.args.frames.now c.args.cited_at s c.args.cited.now c.args.results.now ps c.requires.legal has cited refl c.requires.read) in
    let low = subst (AllBelow (length pairs.names)) (sym c.as_groups.ensures) (subst (λ ns. AllBelow (length ns) c.in_ok-groups.groups) (sym pn) (c.in_ok-groups.ensures s e).below) in
    let groups = ap (map (decode pairs.names)) c.as_groups.ensures ∙ (ap (λ ns. map (decode ns) c.in_ok-groups.groups) pn ∙ (c.in_ok-groups.ensures s e).named) in (
      refl,
      rw c.in_default.is at (c.in_ok-fault.ensures s e),
      violation_moved τ c.active_pairs-pairs.ensures.statements pn groups c.in-Some-violation.violation
          (violation_named pairs σ τ c.as_groups.result c.in-Some-violation.violation (subst (λ ns. AreDistinct ns) (sym pn) c.requires.legal.distinct) same low (rw c.in-Some-violation.is at c.in_ok-violation.ensures)),
    )

pub returns : goal.returns
returns c s e =
    let S = c.args.frames.now.statements in let names = c.args.frames.now.names in let cited = c.requires.cited s e in
    let ps = hypotheses (before S c.args.cited_at) s in
    let has = assertion_is S c.args.cited_at c.requires.assertion.0 s c.requires.assertion.1 e in
    let τ = images_of S c.args.cited_at s (last_named c.args.frames.now c.args.cited.now.hypotheses c.args.results.now) in
    let σ = c.args.results.now.images in
    let pairs = c.active_pairs-pairs.result in
    let pn = c.active_pairs-pairs.ensures.names in
    let same = subst (λ ns. AreSame ns σ τ) (sym pn) (images_same c.args.frames.now c.args.cited_at s c.args.cited.now c.args.results.now ps c.requires.legal has cited refl c.requires.read) in
    let low = subst (AllBelow (length pairs.names)) (sym c.as_groups.ensures) (subst (λ ns. AllBelow (length ns) c.in_ok-groups.groups) (sym pn) (c.in_ok-groups.ensures s e).below) in
    let groups = ap (map (decode pairs.names)) c.as_groups.ensures ∙ (ap (λ ns. map (decode ns) c.in_ok-groups.groups) pn ∙ (c.in_ok-groups.ensures s e).named) in
    record {
      fit = rw c.in_default.is at (c.in_ok-fault.ensures s e);
      disjoint = disjoint_moved τ c.active_pairs-pairs.ensures.statements pn groups
          (sym (groups_same pairs.names (subst (λ ns. AreDistinct ns) (sym pn) c.requires.legal.distinct) pairs.statements σ τ same c.as_groups.result low) ∙ rw c.in_default-violation.is at c.in_ok-violation.ensures);
    }
