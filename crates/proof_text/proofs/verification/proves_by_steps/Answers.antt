use Rattle.std.proofs.Common.{subst}
use Rattle.proof_code.specs.Writes.{Writes}
use Rattle.proof_text.proofs.SpelledLemmas.{spelled-start, spells}
use Rattle.proof_text.proofs.verification.proves_by_steps.Goals as goal

pub run-requires : goal.run-requires
run-requires c = (c.requires.provable.0, c.requires.provable.1.stands)

pub returns : goal.returns
returns c = λ s provable same.
    let none = c.in_ok-spelled.ensures.none in
    let right = rw c.in-Right.is at c.in_ok-run.ensures.outcome in
    let heard = rw c.in-Right.is at (c.in_ok-run.ensures.heard (spelled-start c.args.frames.now c.args.at c.in_ok-spelled.spelled none.0 none.1 none.2)) in
    record {
      items = c.in-Some.items;
      written = subst (λ labels. Writes c.args.tokens.now labels c.in-Some.items) (c.in_ok-labels.ensures s provable) (rw c.in-Some.is at c.in_ok-items.ensures);
      derives = spells c.args.frames.now.statements c.args.at c.run.ensures.legal.once c.in-Some.items c.run.new.listener _ (c.have_same_steps.ensures same) c.requires.distinct right.0 heard (c.is_whole.ensures c.if-not-is_whole.false);
    }
