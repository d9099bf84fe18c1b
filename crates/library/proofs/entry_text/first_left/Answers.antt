use Rattle.library.proofs.Words.{◌≡◌, ◌+◌, ◌-◌, ◌∷◌, true, drop, sym, ◌∙◌, ap, arith, drop_more}
use Rattle.library.specs.Causes.{first_left}
use Rattle.library.specs.Judging.{closed_from}
use Rattle.library.proofs.LeavingLemmas.{closed_by, closed_from-few, first_left-here, first_left-later}
use Rattle.library.proofs.entry_text.first_left.Goals as goal
use Rattle.library.proofs.entry_text.first_left.Goals.{then-closed-eq0+then-is_condition, else-closed-eq0, else-closed-eq0-via-then-closed-eq0+else-is_condition, else-closed-eq0-via-else-closed-eq0}

pub loop-index-preserved : goal.loop-index-preserved
loop-index-preserved c =
    let T = c.args.statements.now in
    let i = c.loop-index.index - 1 in
    let some = c.loop-index-test.true in
    let v = c.loop-index.invariant in
    let s = c.index-statements-index.result in
    let next : i + 1 ≡ c.loop-index.index = omega (arith, some) in
    let few = v.few in
    let rest = drop c.loop-index.index T in
    let split : drop i T ≡ s ∷ rest = drop_more T i s (omega (arith, some, few)) ∙ (ap (λ r. r ∷ drop (i + 1) T) (sym c.index-statements-index.is) ∙ ap (λ n. s ∷ drop n T) next) in
    let later : first_left (i + 1 + 1) rest ≡ c.loop-index.found = ap (λ n. first_left (n + 1) rest) next ∙ sym v.found in
    let step = ap (λ n. closed_from s n) v.closed in
    let least = closed_from-few s c.loop-index.closed in
    let is = c.closed_from-closed.ensures in
    record {
      found = elim c.if-closed-eq0.branch [
        | then-closed-eq0+then-is_condition w ↦ w.found-is ∙ sym (ap (first_left (i + 1)) split
            ∙ first_left-here (i + 1) s rest (sym w.is_condition.ensures ∙ w.if-is_condition.true) (sym v.closed ∙ w.if-closed-eq0.true))
        | else-closed-eq0 w ↦ w.found-is ∙ sym (ap (first_left (i + 1)) split ∙ (first_left-later (i + 1) s rest (λ p q. elim w.else-closed-eq0.branch [
          | else-closed-eq0-via-then-closed-eq0+else-is_condition u ↦ (let f = u.if-is_condition.false in let t : u.is_condition.result ≡ true = u.is_condition.ensures ∙ p in cc)
          | else-closed-eq0-via-else-closed-eq0 u ↦ u.if-closed-eq0.false (v.closed ∙ q)
        ]) ∙ later))
      ];
      closed = is ∙ (step ∙ sym (ap closed_by split));
      few = omega (arith, is, least, few, some);
    }
