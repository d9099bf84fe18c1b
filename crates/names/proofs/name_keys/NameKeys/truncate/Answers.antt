use Rattle.names.proofs.Words.{◌≡◌, ◌≢◌, ◌∙◌, sym, subst, arith, ℕ, ◌<◌, length, rules, name_at, code_in_overflow, NameKeys}
use Rattle.names.proofs.NameKeyLemmas.{names-distinct}
use Rattle.names.proofs.name_keys.NameKeys.truncate.Goals as goal
use Rattle.names.proofs.name_keys.NameKeys.truncate.Goals.{then-index-eq-IN_OVERFLOW, else-index-eq-IN_OVERFLOW}

pub loop-code-preserved : goal.loop-code-preserved
loop-code-preserved c =
    let names = c.args.name_list.now in
    let i = c.loop-code.code in
    let lt : i < length names = search rules in
    let P : NameKeys → Type 0 = λ s. (s.keys ≡ c.args.self.now.keys) × ((k : ℕ) → k < c.args.len → code_in_overflow s.overflow (name_at names k) ≡ code_in_overflow c.args.self.now.overflow (name_at names k)) in
    elim c.if-index-eq-IN_OVERFLOW.branch [
      | then-index-eq-IN_OVERFLOW w ↦ subst P (sym w.self-is) (
        c.loop-code.invariant.0,
        λ k p.
            let ne : k ≢ i = λ e. absurd (omega (arith, p, e)) in
            w.remove.ensures (name_at names k) (c.requires.name_keys k (omega (arith, p))).bytes (λ e. names-distinct names k i c.requires.distinct (omega (arith, p)) lt ne (e ∙ w.get.ensures)) ∙ c.loop-code.invariant.1 k p,
      )
      | else-index-eq-IN_OVERFLOW w ↦ subst P (sym w.self-is) c.loop-code.invariant
    ]
