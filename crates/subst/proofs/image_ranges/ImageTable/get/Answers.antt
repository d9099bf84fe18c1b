use Rattle.subst.proofs.Words.{◌≡◌, ℕ, nat_lt, ◌≤◌, ◌==◌, List, length, get_or, true, false, Bool, sym, ◌∙◌, ap, arith, nat_eq, cond, Some, None, lookup, eq-eqb, SymbolRange, images_in_round, nat_tests}
use Rattle.subst.proofs.ImageTableLemmas.{placed-image, image-none, image-at}
use Rattle.subst.proofs.image_ranges.ImageTable.get.Goals as goal
use Rattle.std.proofs.lemmas.Bool.{ne_eqb}

-- a symbol in the tables has its image exactly if it was set in this round
found : (round : ℕ) (rounds : List ℕ) (ranges : List SymbolRange) (x r : ℕ) (p : SymbolRange) (b : Bool) → true ≡ nat_lt x (length rounds) → length rounds ≤ length ranges → r ≡ get_or rounds x r → (r == round) ≡ b
    → cond b (Some (get_or ranges x p)) None ≡ lookup (nat_eq x) (images_in_round round 0 rounds ranges)
found round rounds ranges x r p b h l is test =
    ap (λ t. cond t (Some (get_or ranges x p)) None) (sym test)
    ∙ (ap (λ s. cond (s == round) (Some (get_or ranges x p)) None) is ∙ sym (placed-image round rounds ranges x ∙ image-at round rounds ranges x r p (grind (arith, nat_tests, h)) l))

pub returns-in-Some : goal.returns-in-Some
returns-in-Some c =
    found c.self.inside.round c.self.inside.rounds.now c.self.inside.ranges.now c.args.symbol c.in-Some.round.now (record { start = 0; end = 0 }) true c.in-Some.ensures.lookup.0 c.self.invariant c.in-Some.ensures.lookup.1 (eq-eqb _ _ c.if-round-self.true)
    ∙ ap (λ (ps : List (ℕ × SymbolRange)). lookup (nat_eq c.args.symbol) ps) c.self.view_is

pub returns-in_default : goal.returns-in_default
returns-in_default c =
    found c.self.inside.round c.self.inside.rounds.now c.self.inside.ranges.now c.args.symbol c.in-Some.round.now (record { start = 0; end = 0 }) false c.in-Some.ensures.lookup.0 c.self.invariant c.in-Some.ensures.lookup.1 (ne_eqb _ _ c.if-round-self.false)
    ∙ ap (λ (ps : List (ℕ × SymbolRange)). lookup (nat_eq c.args.symbol) ps) c.self.view_is

pub returns-in_default-2 : goal.returns-in_default-2
returns-in_default-2 c =
    let past : length c.self.inside.rounds.now ≤ c.args.symbol = grind (arith, nat_tests, c.get.ensures.lookup.0, c.in_default.is) in
    sym (ap (λ (ps : List (ℕ × SymbolRange)). lookup (nat_eq c.args.symbol) ps) (sym c.self.view_is)
    ∙ (placed-image c.self.inside.round c.self.inside.rounds.now c.self.inside.ranges.now c.args.symbol ∙ image-none c.self.inside.round c.self.inside.rounds.now c.self.inside.ranges.now c.args.symbol past))
