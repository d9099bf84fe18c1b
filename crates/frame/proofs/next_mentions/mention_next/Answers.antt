use Rattle.frame.proofs.Words.{◌≡◌, ◌∙◌, ◌+◌, ◌++◌, ◌∷◌, [], sym, subst, arith, ℕ, true, nat_eq, length, list_any, ok-weaker, Result, Ok, Err, OnOk, Assertion, entry_by, mentions_of, IsMentionedAt, IsTableOf, AreGrown, opening}
use Rattle.frame.proofs.TableLemmas.{grown-start, table-closed, table-other, table-own}
use Rattle.frame.proofs.next_mentions.mention_next.Goals as goal

any-ok : {T E P : Type 0} (r : Result T E) → P → OnOk r P
any-ok (Ok x) p = p
any-ok (Err e) p = tt

pub mention_each-requires-clause-grown : goal.mention_each-requires-clause-grown
mention_each-requires-clause-grown c = grown-start c.args.table c.args.entries.now (c.len.result + 1) c.args.mentions.now c.requires.table

pub mention_closed-requires-clause-grown : goal.mention_closed-requires-clause-grown
mention_closed-requires-clause-grown c = grown-start c.args.table c.args.entries.now (opening c.args.header.now.before.last_active.block) c.args.mentions.now c.requires.table

pub returns-then-is_entry_of-clause-table : goal.returns-then-is_entry_of-clause-table
returns-then-is_entry_of-clause-table c =
    let es = c.args.entries.now in
    let from = c.len.result + 1 in
    let new = c.mention_each.new.mentions in
    let codes = c.args.codes.now in
    let place : from ≡ length es + 1 = omega (arith, c.len.ensures.len) in
    ok-weaker c.mention_each.result (from ≡ length es + 1 → (d : ℕ) → list_any (λ x. nat_eq d x) codes ≡ true → IsMentionedAt from (mentions_of new d))
    ((a : Assertion) → IsTableOf c.args.table (es ++ entry_by c.args.header.now codes a ∷ []) new)
    (λ mentioned a. table-own c.args.table es (entry_by c.args.header.now codes a) c.args.mentions.now c.requires.table new (sym c.is_entry_of.ensures ∙ c.if-is_entry_of.true)
    (subst (λ n. AreGrown c.args.table es n new) place c.mention_each.ensures.grown) c.mention_each.ensures.others
    (λ d has. subst (λ n. IsMentionedAt n (mentions_of new d)) place (mentioned place d has)))
    c.mention_each.ensures.mentioned

pub returns-in-Close-clause-table : goal.returns-in-Close-clause-table
returns-in-Close-clause-table c =
    any-ok c.mention_closed.result (λ (a : Assertion). table-closed c.args.table c.args.entries.now (entry_by c.args.header.now c.args.codes.now a) c.args.mentions.now c.requires.table c.mention_closed.new.mentions c.args.header.now.before.last_active c.requires.last_active c.in-Close.is
    (sym c.is_entry_of.ensures ∙ c.if-is_entry_of.false) c.mention_closed.ensures.grown)

pub returns-in_default-clause-table : goal.returns-in_default-clause-table
returns-in_default-clause-table c = λ a. table-other c.args.table c.args.entries.now (entry_by c.args.header.now c.args.codes.now a) c.args.mentions.now c.requires.table (sym c.is_entry_of.ensures ∙ c.if-is_entry_of.false)

pub returns-in_default-2-clause-table : goal.returns-in_default-2-clause-table
returns-in_default-2-clause-table c = λ a. table-other c.args.table c.args.entries.now (entry_by c.args.header.now c.args.codes.now a) c.args.mentions.now c.requires.table (sym c.is_entry_of.ensures ∙ c.if-is_entry_of.false)
