use Rattle.frame.proofs.Words.{◌≡◌, ◌∙◌, ◌<◌, ap, sym, subst, arith, ℕ, List, true, false, nat_eq, length, get_or, take, take_all, list_any, list_any_more, list_any_at, or_cases, true≢false, false_from_ne_true, ◌⊎◌, inl, inr, mentions_of, IsMentionedAt}
use Rattle.frame.proofs.next_mentions.mention_each.Goals as goal

other-at : (c : ℕ) (codes : List ℕ) (i : ℕ) → i < length codes → list_any (λ x. nat_eq c x) codes ≡ false → nat_eq c (get_or codes i 0) ≡ false
other-at c codes i lt none = false_from_ne_true (nat_eq c (get_or codes i 0)) (λ e. true≢false (sym (list_any_at (λ x. nat_eq c x) codes i 0 lt e) ∙ none))

pub loop-code-preserved : goal.loop-code-preserved
loop-code-preserved c =
    let codes = c.args.codes.now in
    let i = c.loop-code.code-index in
    record {
      grown = c.mention.ensures.grown;
      kept = λ d. c.mention.ensures.kept d ∙ c.loop-code.invariant.kept d;
      others = λ d none. c.mention.ensures.others d (other-at d codes i (omega arith) none) ∙ c.loop-code.invariant.others d none;
      mentioned = λ here d has.
          let either : (list_any (λ x. nat_eq d x) (take i codes) ≡ true) ⊎ (nat_eq d (get_or codes i 0) ≡ true) = or_cases _ _ (sym (list_any_more (λ x. nat_eq d x) codes i 0 (omega arith)) ∙ has) in
          elim either [
            | inl old ↦ subst (λ n. IsMentionedAt n (mentions_of c.mention.new.mentions d)) (sym here) (c.mention.ensures.longer d (subst (λ n. IsMentionedAt n (mentions_of c.loop-code.mentions d)) here (c.loop-code.invariant.mentioned here d old)))
            | inr new ↦ let is : get_or codes i 0 ≡ d = grind (arith, new) in subst (λ n. IsMentionedAt c.args.from (mentions_of c.mention.new.mentions n)) is (c.in_ok-mention.ensures.mentioned here)
          ];
    }

pub returns-in_err-mention-clause-grown : goal.returns-in_err-mention-clause-grown
returns-in_err-mention-clause-grown c = c.mention.ensures.grown

pub returns-in_err-mention-clause-kept : goal.returns-in_err-mention-clause-kept
returns-in_err-mention-clause-kept c = λ d. c.mention.ensures.kept d ∙ c.loop-code.invariant.kept d

pub returns-in_err-mention-clause-others : goal.returns-in_err-mention-clause-others
returns-in_err-mention-clause-others c = λ d none. c.mention.ensures.others d (other-at d c.args.codes.now c.loop-code.code-index (omega arith) none) ∙ c.loop-code.invariant.others d none

pub returns-clause-mentioned : goal.returns-clause-mentioned
returns-clause-mentioned c = λ here d has. c.loop-code.invariant.mentioned here d (ap (list_any (λ x. nat_eq d x)) (take_all c.loop-code.code-index c.args.codes.now (omega arith)) ∙ has)
