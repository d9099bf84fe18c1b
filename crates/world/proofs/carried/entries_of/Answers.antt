use Rattle.world.proofs.Words.{List, Option, ◌∷◌, ◌++◌, [], ap, sym, ◌∙◌, Entry, entries_of}
use Rattle.world.proofs.EntryLogs.{entries_of-append}
use Rattle.world.proofs.carried.entries_of.Goals as goal

pub loop-value-preserved : goal.loop-value-preserved
loop-value-preserved c =
    c.in_ok-push.ensures.items
    ∙ (ap (λ (es : List (Option Entry)). es ++ c.entry_of.result ∷ []) c.loop-value.invariant
    ∙ (ap (λ (e : Option Entry). entries_of c.loop-value.yielded ++ e ∷ []) c.entry_of.ensures ∙ sym (entries_of-append c.loop-value.yielded (c.in-Some.value ∷ []))))
