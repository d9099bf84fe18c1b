use Rattle.frame.proofs.Words.{◌+◌, ◌∙◌, ap, sym, subst, arith, cut, with_list, is_numbered_pair, IsPairList}
use Rattle.frame.proofs.PairListLemmas.{AreAdded, added-all, added-more}
use Rattle.frame.proofs.assertion_parts.add_pairs.Goals as goal

pub loop-index-preserved : goal.loop-index-preserved
loop-index-preserved c =
    let v = c.args.pairs.now in
    let variables = c.args.pair_buffer.now.variables in
    let n = c.loop-index.index in
    let made = cut c.loop-index.grouped_variables.items c.loop-index.groups.items in
    let i = c.loop-index.invariant in
    record {
      variables = c.fill.ensures.variables ∙ i.variables;
      added = subst (AreAdded (is_numbered_pair v) variables (n + 1)) (sym (c.in_ok-add_list.ensures.added ∙ ap (λ l. with_list l made) c.list.ensures))
          (added-more v variables n made c.fill.new.self.list i.added (subst (λ vs. IsPairList v vs n c.fill.new.self.list) i.variables c.in_ok-fill.ensures.list));
      within = c.add_list.ensures.within;
    }

pub returns-clause-added : goal.returns-clause-added
returns-clause-added c = λ whole.
    let i = c.loop-index.invariant in
    added-all (is_numbered_pair c.args.pairs.now) c.args.pair_buffer.now.variables c.loop-index.index _ (omega (arith, c.loop-index-test.false, c.len-index-end.ensures)) i.added
