use Rattle.std.proofs.Common.{◌≡◌, ◌++◌, [], ◌∙◌, ap, subst, sym}
use Rattle.std.proofs.lemmas.List.{append-nil, nil_from_length}
use Rattle.std.specs.Vec.Iter.{into_iter_items}
use Rattle.mm_read.specs.Statements.{Database}
use Rattle.unproved.specs.LegalPart.{IsSifted}
use Rattle.unproved.proofs.LegalPartLemmas.{taken_front}
use Rattle.unproved.proofs.legal_part.sift.Goals as goal

pub sift_next-requires : goal.sift_next-requires
sift_next-requires c = c.loop-statement.invariant.same

pub loop-statement-preserved : goal.loop-statement-preserved
loop-statement-preserved c = c.in_ok-sift_next.ensures c.loop-statement.yielded c.loop-statement.invariant

pub returns : goal.returns
returns c =
    let it = c.loop-statement.statement-iterator in
    let done = c.loop-statement.yielded in
    let none : into_iter_items it ≡ [] = nil_from_length (into_iter_items it) (sym it.rest.ok.0 ∙ c.in-None.ensures.steps.0) in
    let whole = sym c.into_iter-statement-iterator.ensures.into_iter_gives.0 ∙ (taken_front c.into_iter-statement-iterator.result done it c.loop-statement.yielded_by ∙ (ap (λ (S : Database). done ++ S) none ∙ append-nil done)) in
    subst (λ (S : Database). IsSifted S c.loop-statement.sifter) (sym whole) c.loop-statement.invariant
