use Rattle.library.proofs.Words.{◌+◌, ◌∷◌, cond, drop, None, Some, sym, ◌∙◌, ap, drop_more, first_declaration}
use Rattle.library.proofs.entry_text.first_forbidden.Goals as goal

pub returns-then-is_declaration : goal.returns-then-is_declaration
returns-then-is_declaration c =
    let S = c.args.statements.now in
    let i = c.loop-index.index in
    sym (ap (λ b. cond b None (first_declaration 1 S)) (sym c.may_declare.ensures ∙ c.if-may_declare.false)
    ∙ (c.loop-index.invariant
    ∙ (ap (first_declaration (i + 1)) (drop_more S i c.index-statements-index.result c.loop-index-test.true ∙ ap (λ r. r ∷ drop (i + 1) S) (sym c.index-statements-index.is))
    ∙ ap (λ b. cond b (Some (i + 1)) (first_declaration (i + 1 + 1) (drop (i + 1) S))) (sym c.is_declaration.ensures ∙ c.if-is_declaration.true))))
