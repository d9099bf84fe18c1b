use Rattle.library.proofs.Words.{◌∙◌, Some, ap, arith, bares, inl, inr, is_provable, label_or_empty, on_ok, proof_of, refl, stands-within, subst, sym, take_all}
use Rattle.library.proofs.QueriesLemmas.{found-good}
use Rattle.library.proofs.ProvingLemmas.{Found, packed-found, normal-found, not-there, has-assertion, hypothesis-of, kind-of, other-kind, labels-more, labels-all}
use Rattle.library.proofs.CitedByLemmas.{not-provable}
use Rattle.library.proofs.axioms_used.items_of.Goals as goal

pub returns-in_default : goal.returns-in_default
returns-in_default c = not-there c.args.database.now c.args.at c.statement.result.now c.statement.ensures.stands (not-provable c.statement.result.now c.in_default.not-Prove)

pub returns-then-not-is_compressed : goal.returns-then-not-is_compressed
returns-then-not-is_compressed c =
    on_ok c.items_or_none.result
    (λ found told. found-good c.args.database.now (bares c.args.database.now) refl c.args.at c.statement.result.now c.in-Prove.proof c.statement.ensures.good (record { stands = c.statement.ensures.stands; provable = ap is_provable c.in-Prove.is }) (ap proof_of c.in-Prove.is) found
    (normal-found c.in-Prove.proof _ c.normal.result found told c.normal.ensures.unfinished (sym c.is_compressed.ensures ∙ c.if-not-is_compressed.true) c.normal.ensures.items c.normal.ensures.malformed))
    c.items_or_none.ensures.found

pub mandatory-requires-clause-assertion : goal.mandatory-requires-clause-assertion
mandatory-requires-clause-assertion c = has-assertion _ _ _ c.statement.result.now c.frames.ensures.same (record { stands = c.statement.ensures.stands; provable = ap is_provable c.in-Prove.is })

pub statement-requires-in-loop-position : goal.statement-requires-in-loop-position
statement-requires-in-loop-position c =
    let h = hypothesis-of _ _ _ c.statement.result.now _ c.loop-position.position-index _ 0 c.frames.ensures.same (record { stands = c.statement.ensures.stands; provable = ap is_provable c.in-Prove.is }) (λ x h. c.as_slice-position-items.ensures.value ∙ c.in_ok-mandatory.ensures.listed x h) c.loop-position-test.true refl in
    stands-within _ _ h.stmt h.stands

pub unreachable-requires : goal.unreachable-requires
unreachable-requires c =
    let h = hypothesis-of _ _ _ c.statement.result.now _ c.loop-position.position-index _ 0 c.frames.ensures.same (record { stands = c.statement.ensures.stands; provable = ap is_provable c.in-Prove.is }) (λ x h. c.as_slice-position-items.ensures.value ∙ c.in_ok-mandatory.ensures.listed x h) c.loop-position-test.true refl in
    other-kind c.statement-in-loop-position.result.now (kind-of _ _ h c.statement-in-loop-position.result.now c.statement-in-loop-position.ensures.stands) c.in_default-statement.not-Float c.in_default-statement.not-Ess

pub loop-position-preserved : goal.loop-position-preserved
loop-position-preserved c =
    labels-more c.args.database.now c.as_slice-position-items.result.now c.loop-position.position-index _ 0 _ _ _ c.loop-position-test.true refl
    (c.as_bytes.ensures.bytes ∙ elim c.in-Float.is [ inl e ↦ sym (ap label_or_empty (c.statement-in-loop-position.ensures.stands ∙ ap Some e.2)) | inr e ↦ sym (ap label_or_empty (c.statement-in-loop-position.ensures.stands ∙ ap Some e.1)) ])
    c.loop-position.invariant c.in_ok-push-in-Float.ensures.ok

pub returns : goal.returns
returns c =
    let labels = labels-all c.args.database.now c.frames.result.now.statements c.args.at c.statement.result.now c.as_slice-position-items.result.now c.loop-position.position-index c.loop-position.labels c.frames.ensures.same (record { stands = c.statement.ensures.stands; provable = ap is_provable c.in-Prove.is }) (λ x h. c.as_slice-position-items.ensures.value ∙ c.in_ok-mandatory.ensures.listed x h)
    (take_all _ _ (omega (arith, c.loop-position-test.false))) c.loop-position.invariant in
    on_ok c.items_or_none-2.result
    (λ found told. found-good c.args.database.now (bares c.args.database.now) refl c.args.at c.statement.result.now c.in-Prove.proof c.statement.ensures.good (record { stands = c.statement.ensures.stands; provable = ap is_provable c.in-Prove.is }) (ap proof_of c.in-Prove.is) found
    (subst (λ labels. Found c.in-Prove.proof labels found) labels
    (packed-found c.in-Prove.proof c.loop-position.labels c.packed.result found told c.packed.ensures.unfinished (sym c.is_compressed.ensures ∙ c.if-not-is_compressed.false) c.packed.ensures.items c.packed.ensures.malformed)))
    c.items_or_none-2.ensures.found
