use Rattle.std.proofs.Common.{◌≡◌, length, arith, refl, ap, ◌∙◌, ◌++◌, ◌∷◌, []}
use Rattle.verify.proofs.plan.TreePlan.add.Goals as goal

pub returns : goal.returns
returns c = record {
  nodes = c.in_ok-push.ensures.items;
  stack = c.in_ok-push-2.ensures.items ∙ ap (λ n. c.args.self.now.stack.items ++ n ∷ []) (let e : c.len-number.result ≡ length c.args.self.now.nodes.items = omega (arith, c.len-number.ensures) in e);
  saved = refl;
}
