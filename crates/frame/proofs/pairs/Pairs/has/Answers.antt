use Rattle.frame.proofs.Words.{◌≡◌, ◌==◌, ◌&&◌, ◌||◌, ◌∙◌, [], ap, sym, and-false, arith, not, false, list_any, rules, List, ℕ}
use Rattle.frame.proofs.pairs.Pairs.has.Goals as goal

pub returns-then-contains : goal.returns-then-contains
returns-then-contains c =
    let lists = λ (ls : List (List ℕ)). list_any (λ l. list_any (λ d. c.args.y == d) l) ls in
    let differ : (c.args.x == c.args.y) ≡ false = let h = c.if-x-y.false in grind (arith, h) in
    let here = ap lists c.in-Some.ensures.some ∙ ap (λ b. b || lists c.next.new.self) (sym c.contains.ensures ∙ c.if-contains.true) in
    sym (c.disjoints_with-disjoints.ensures.pairs c.args.y c.requires.1 ∙ (ap (λ b. not b && lists c.disjoints_with-disjoints.result) differ ∙ (sym c.loop-symbols.invariant ∙ here)))

pub loop-symbols-preserved : goal.loop-symbols-preserved
loop-symbols-preserved c =
    let lists = λ (ls : List (List ℕ)). list_any (λ l. list_any (λ d. c.args.y == d) l) ls in
    sym (ap lists c.in-Some.ensures.some ∙ ap (λ b. b || lists c.next.new.self) (sym c.contains.ensures ∙ c.if-contains.false)) ∙ c.loop-symbols.invariant

pub returns : goal.returns
returns c =
    let lists = λ (ls : List (List ℕ)). list_any (λ l. list_any (λ d. c.args.y == d) l) ls in
    let none : c.loop-symbols.disjoints ≡ [] = search rules in
    sym (c.disjoints_with-disjoints.ensures.pairs c.args.y c.requires.1 ∙ (ap (λ b. not (c.args.x == c.args.y) && b) (sym c.loop-symbols.invariant ∙ ap lists none) ∙ and-false (not (c.args.x == c.args.y))))
