use Rattle.scope.proofs.Words.{subst, IfSome, ◌∙◌, symbols_of, AreNumbers}
use Rattle.scope.proofs.NamesLemmas.{symbols-distinct}
use Rattle.scope.proofs.AcceptLemmas.{numbers-differ}
use Rattle.scope.proofs.legal.RuleChecker.are_distinct.Goals as goal

pub returns-then-numbers-lt-MIN_SORTED_LEN : goal.returns-then-numbers-lt-MIN_SORTED_LEN
returns-then-numbers-lt-MIN_SORTED_LEN c =
    let N = symbols_of c.args.self.now.statements in
    let are : AreNumbers N c.args.symbols.now c.in-Some.numbers.now = subst (λ o. IfSome o (AreNumbers N c.args.symbols.now)) c.in-Some.ensures.numbers c.requires in
    c.are_numbers_distinct.ensures ∙ numbers-differ N c.in-Some.numbers.now c.args.symbols.now (symbols-distinct c.args.self.now.statements) are
