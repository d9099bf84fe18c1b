use Rattle.sites.proofs.ReferenceWords.{◌+◌, ◌++◌, ◌∷◌, [], List, ℕ, ◌∙◌, ap, arith, lists_of}
use Rattle.sites.proofs.PassLemmas.{empties-more, lists-push}
use Rattle.sites.proofs.references.empty_lists.Goals as goal

pub loop-preserved : goal.loop-preserved
loop-preserved c =
    empties-more c.loop.counter (c.loop.counter + 1) (lists_of c.loop.lists.items) (lists_of c.push.new.self.items) (omega arith) c.loop.invariant
    (lists-push c.loop.lists.items c.push.new.self.items c.new.result c.in_ok-push.ensures.items ∙ ap (λ (l : List ℕ). lists_of c.loop.lists.items ++ l ∷ []) c.new.ensures.items)
