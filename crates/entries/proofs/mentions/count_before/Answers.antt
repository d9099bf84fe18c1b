use Rattle.std.proofs.lemmas.Option.{slice_get-get_or}
use Rattle.entries.proofs.Words.{◌≡◌, ◌∙◌, ◌-◌, ◌∷◌, [], ℕ, List, None, suc, refl, ap, sym, arith, rules, length, ltb, nat_lt, lt-ltb, slice_get, slice_get_within, get_or_from_slice_get, IsPartitionPoint-from_clause, IsPartitionedBy-ltb}
use Rattle.entries.specs.declared.mentions.Mention.{Mention}
use Rattle.entries.specs.Mentions.{before}
use Rattle.entries.proofs.MentionLemmas.{filter-front}
use Rattle.entries.proofs.mentions.count_before.Goals as goal

no-last : (at : ℕ) (ms : List Mention) → None ≡ slice_get ms (length ms - 1) → [] ≡ before at ms
no-last at [] e = refl
no-last at (m ∷ ms) e =
    absurd (let back : suc (length ms) - 1 ≡ length ms = omega arith in let some = slice_get-get_or (m ∷ ms) (length ms) m (omega arith) in let none = e ∙ ap (slice_get (m ∷ ms)) back in cc)

pub returns-in_default-clause-first : goal.returns-in_default-clause-first
returns-in_default-clause-first c = no-last c.args.at c.args.mentions.now c.in_default.ensures.value

pub returns-then-last-at-clause-first : goal.returns-then-last-at-clause-first
returns-then-last-at-clause-first c =
    let ms = c.args.mentions.now in
    let some = slice_get_within ms (length ms - 1) c.in-Some.last.now (sym c.in-Some.ensures.value) in
    sym (filter-front (λ m. nat_lt m.position c.args.at) ms (length ms) (omega arith)
    (λ k d lt.
    let le = c.requires.ordered k (length ms - 1) d (omega (arith, lt)) (omega (arith, some)) in
    let last = ap (λ (m : Mention). m.position) (get_or_from_slice_get ms (length ms - 1) c.in-Some.last.now d (sym c.in-Some.ensures.value)) in
    lt-ltb _ _ (omega (arith, le, last, c.if-last-at.true)))
    (λ k d ge lt. absurd (omega (arith, ge, lt))))

pub returns-clause-first : goal.returns-clause-first
returns-clause-first c =
    let ms = c.args.mentions.now in
    let n = c.partition_point.result in
    let parted = IsPartitionedBy-ltb (λ m. m.position) ms c.args.at c.requires.ordered in
    let point = IsPartitionPoint-from_clause (λ m. ltb m.position c.args.at) ms n c.partition_point.ensures.partitioned parted (λ a r q k. search rules) in
    sym (filter-front (λ m. nat_lt m.position c.args.at) ms n c.partition_point.ensures.bound (λ k d lt. point.0 k d (omega arith) lt) (λ k d ge lt. point.1 k d ge lt))
