use Rattle.explain.proofs.Words.{subst, Writes}
use Rattle.explain.proofs.proof_fault.explain_wrong.Goals as goal

pub unreachable-requires : goal.unreachable-requires
unreachable-requires c =
    let s = c.requires.provable.0 in let p = c.requires.provable.1 in
    c.requires.wrong (record {
      stmt = s;
      items = c.in-Some.items;
      provable = p;
      written = subst (λ labels. Writes c.args.tokens.now labels c.in-Some.items) (c.in_ok-labels.ensures s p) (rw c.in-Some.is at c.in_ok-items.ensures);
      right = rw c.in-None.is at c.in_ok-reason.ensures.right;
    })

pub returns : goal.returns
returns c =
    let s = c.requires.provable.0 in let p = c.requires.provable.1 in (
      s,
      p,
      subst (λ labels. Writes c.args.tokens.now labels c.in-Some.items) (c.in_ok-labels.ensures s p) (rw c.in-Some.is at c.in_ok-items.ensures),
      rw c.in-Some-2.is at (c.in_ok-reason.ensures.first s p.stands),
    )
