use Rattle.verify_pool.proofs.Words.{◌≡◌, ◌++◌, ◌∙◌, ◌∷◌, [], length, subst, sym, ◌+◌, ◌*◌, List, Found, AreFoundIn}
use Rattle.verify_pool.proofs.StripeLemmas.{appended, next_turn, one_more}
use Rattle.verify_pool.proofs.stripes.judge_stripe.Goals as goal

pub loop-index-preserved : goal.loop-index-preserved
loop-index-preserved g c =
    let right = g.W.Work.right c.args.work.now in
    let works = g.W.Work.work c.args.work.now in
    let i = c.loop-index.index in
    let founds = c.loop-index.worker.founds.items in
    let found = c.find_out-found.result in
    let is : c.push.new.self.items ≡ founds ++ found ∷ [] = appended c.push.result founds found c.push.new.self.items c.push.ensures.items (sym c.is_err.ensures.value ∙ c.if-is_err.false) in
    record {
      place = subst (λ (all : List Found). i + c.args.step ≡ c.args.first + length all * c.args.step) (sym is) (next_turn c.args.first c.args.step i founds found c.loop-index.invariant.place);
      found = subst (AreFoundIn right works c.args.first c.args.step) (sym is)
          (one_more right works c.args.first c.args.step i founds found c.loop-index.invariant.place c.find_out-found.ensures c.loop-index.invariant.found);
    }
