use Rattle.rule_violation.proofs.Words.{◌≡◌, ◌∙◌, ◌||◌, sym, ap, ◌∷◌, drop, list_any, first-named, rest-named}
use Rattle.rule_violation.proofs.SearchLemmas.{rest_after, first_is}
use Rattle.rule_violation.proofs.symbol_search.first_marked.Goals as goal

pub mark_of-requires-clause-named : goal.mark_of-requires-clause-named
mark_of-requires-clause-named c = first-named c.args.names.now c.loop-index.left c.next.new.self c.in-Some.name.now c.loop-index.invariant.named c.in-Some.ensures.steps

pub returns-then-mark_of : goal.returns-then-mark_of
returns-then-mark_of c = λ t e.
    let split : c.in-Some.name.now ∷ c.next.new.self ≡ drop c.loop-index.index c.args.words.now = sym c.in-Some.ensures.steps ∙ c.loop-index.invariant.rest in
    record { is_there = first_is c.args.words.now c.next.new.self c.loop-index.index c.in-Some.name.now split; passes = sym (c.mark_of.ensures t e) ∙ c.if-mark_of.true }

pub loop-index-preserved : goal.loop-index-preserved
loop-index-preserved c =
    let steps = c.in-Some.ensures.steps in
    let split : c.in-Some.name.now ∷ c.next.new.self ≡ drop c.loop-index.index c.args.words.now = sym steps ∙ c.loop-index.invariant.rest in
    record {
      rest = rest_after c.args.words.now c.next.new.self c.loop-index.index c.in-Some.name.now split;
      named = rest-named c.args.names.now c.loop-index.left c.next.new.self c.in-Some.name.now c.loop-index.invariant.named steps;
      whole = λ t e. c.loop-index.invariant.whole t e ∙ (ap (list_any t) steps ∙ ap (λ b. b || list_any t c.next.new.self) (sym (c.mark_of.ensures t e) ∙ c.if-mark_of.false));
    }
