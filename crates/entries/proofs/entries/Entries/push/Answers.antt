use Rattle.entries.proofs.Words.{◌∙◌, ap, refl, arith, ◌++◌, ◌∷◌, [], length, sym, assertion_of, entry_by, entries_of, has_parts, numbers_of, record_of}
use Rattle.entries.proofs.AddedStatement.{on-ok, ok-weaker, entries-push, packed-push, run-laid, run-entry}
use Rattle.entries.proofs.entries.Entries.push.Goals as goal

pub invariant_of-self-else-is_err : goal.invariant_of-self-else-is_err
invariant_of-self-else-is_err c =
    let s = c.self.inside in let m = c.add-added.new in let p = c.args.parts.now in let h = c.args.header in
    let done = sym c.is_err.ensures.value ∙ c.if-is_err.false in
    let added = c.add-added.ensures in
    packed-push s.numbers.items m.numbers.items s.groups.items m.groups.items s.records.items m.records.items (record_of h p (length s.numbers.items) (length s.groups.items))
    (numbers_of (has_parts h.size p) h.size p) p.groups.now c.self.invariant (on-ok c.add-added.result _ done added.added) (on-ok c.add-added.result _ done added.groups) (on-ok c.add-added.result _ done added.last)
    refl refl (run-laid h.size p (has_parts h.size p) c.requires refl) (omega (arith, c.len-count.ensures))

pub returns-else-is_err-clause-added : goal.returns-else-is_err-clause-added
returns-else-is_err-clause-added c =
    let s = c.self.inside in let m = c.add-added.new in let p = c.args.parts.now in let h = c.args.header in
    let done = sym c.is_err.ensures.value ∙ c.if-is_err.false in
    let added = c.add-added.ensures in
    ok-weaker c.add-added.result _ _
    (λ numbers. entries-push s.numbers.items m.numbers.items s.groups.items m.groups.items s.records.items m.records.items (record_of h p (length s.numbers.items) (length s.groups.items))
    (numbers_of (has_parts h.size p) h.size p) p.groups.now c.self.invariant numbers (on-ok c.add-added.result _ done added.groups) (on-ok c.add-added.result _ done added.last) refl refl
    ∙ (ap (λ e. entries_of s.numbers.items s.groups.items s.records.items ++ e ∷ []) (run-entry h p (length s.numbers.items) (length s.groups.items) (has_parts h.size p) c.requires refl)
    ∙ ap (λ es. es ++ entry_by h p.symbols.now (assertion_of p) ∷ []) c.self.view_is)) added.added
