use Rattle.proof_code.proofs.Words.{◌≡◌, ◌++◌, false, take, drop, refl, sym, ◌∙◌, ap, is_unfinished}
use Rattle.proof_code.proofs.ReadProofLemmas.{shared-none, apart-written}
use Rattle.proof_code.proofs.compressed_proof.packed.Goals as goal

pub returns-in_default-clause-malformed : goal.returns-in_default-clause-malformed
returns-in_default-clause-malformed c =
    let finished : is_unfinished c.args.tokens.now ≡ false = sym c.is_unfinished.ensures ∙ c.if-is_unfinished.false in
    (λ e. (finished, λ items w. c.in_default.ensures.read c.args.mandatory.now (sym c.count_labels.ensures.count) items w.1), λ m. refl)

pub returns-then-shares_label-clause-malformed : goal.returns-then-shares_label-clause-malformed
returns-then-shares_label-clause-malformed c =
    let finished : is_unfinished c.args.tokens.now ≡ false = sym c.is_unfinished.ensures ∙ c.if-is_unfinished.false in
    let none = shared-none _ c.args.mandatory.now _ _ _ _ c.count_labels.ensures.count c.in-Some.ensures.read.2 (sym c.shares_label.ensures ∙ c.if-shares_label.true) in
    (λ e. (finished, λ items w. none items w.1), λ m. refl)

pub returns-in-Ok-Ok-clause-items : goal.returns-in-Ok-Ok-clause-items
returns-in-Ok-Ok-clause-items c =
    let found = c.in-Some.ensures.read in
    let mandatory = c.args.mandatory.now in
    let labels = c.in-Ok-Ok.ensures ∙ ap (λ tokens. mandatory ++ take c.in-Some.heading.count (drop 1 tokens)) found.0 in
    let numbers = rw c.in-Ok-Ok.is-1 at found.3 in
    let written = apart-written _ mandatory _ _ _ _ c.count_labels.ensures.count found.2 (sym c.shares_label.ensures ∙ c.if-shares_label.false) in
    (sym c.is_unfinished.ensures ∙ c.if-is_unfinished.false, rw (c.from_parts.ensures, c.into_numbers.ensures, ← numbers, labels) written)

pub returns-in-Ok-Ok-clause-malformed : goal.returns-in-Ok-Ok-clause-malformed
returns-in-Ok-Ok-clause-malformed c = (λ e. cc, λ m. absurd (m.1 c.from_parts.result (returns-in-Ok-Ok-clause-items c)))
