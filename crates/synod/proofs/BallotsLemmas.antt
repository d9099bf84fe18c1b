-- The order of ballots.
use Rattle.synod.proofs.Words.{◌≡◌, ℕ, ◌<◌, ◌≤◌, true, false, ◌⊎◌, inl, inr, refl, arith, ap₂, eq-or-lt_of_le, nat_tests, Ballot, is_below, is_same}

abbrev pub Under : Ballot → Ballot → Type 0
Under a b = (a.round < b.round) ⊎ ((a.round ≡ b.round) × (a.node < b.node))

-- ballot a is at most ballot b: it is below b, or is b
abbrev pub Upto : Ballot → Ballot → Type 0
Upto a b = (a.round < b.round) ⊎ ((a.round ≡ b.round) × (a.node ≤ b.node))

-- if the test says that a is below b, it is
pub under_true : (a b : Ballot) → is_below a b ≡ true → Under a b
under_true a b h = grind (arith, nat_tests)

-- if the test says that a is not below b, b is at most a
pub under_false : (a b : Ballot) → is_below a b ≡ false → Upto b a
under_false a b h = grind (arith, nat_tests)

-- if a is at most b and b is below c, a is below c
pub upto_under : (a b c : Ballot) → Upto a b → Under b c → Under a c
upto_under a b c h k = grind arith

-- if a is at most b and b is at most c, a is at most c
pub upto_upto : (a b c : Ballot) → Upto a b → Upto b c → Upto a c
upto_upto a b c h k = grind arith

-- if a is below b, b is not at most a
pub not_both : (a b : Ballot) → Under a b → Upto b a → ⊥
not_both a b h k = grind arith

-- if a is below b, a is at most b
pub under_is_upto : (a b : Ballot) → Under a b → Upto a b
under_is_upto a b h = grind arith

-- each ballot is at most itself
pub upto_self : (a : Ballot) → Upto a a
upto_self a = inr (refl, omega arith)

-- ballots with the same round and the same node are equal
pub same_ballots : (a b : Ballot) → a.round ≡ b.round → a.node ≡ b.node → a ≡ b
same_ballots a b p q = ap₂ (λ (r k : ℕ). let x : Ballot = record { round = r; node = k } in x) p q

-- ballots for which the test says that they are the same are equal
pub same_true : (a b : Ballot) → is_same a b ≡ true → a ≡ b
same_true a b h = same_ballots a b (grind (arith, nat_tests)) (grind (arith, nat_tests))

-- if a is at most b, a is below b or equal to it
pub upto_splits : (a b : Ballot) → Upto a b → Under a b ⊎ (a ≡ b)
upto_splits a b (inl h) = inl (inl h)
upto_splits a b (inr (e, h)) =
    elim (eq-or-lt_of_le h) [ inl n ↦ inr (same_ballots a b e n) | inr l ↦ inl (inr (e, l)) ]

-- for any two ballots a and b, a is below b or b is at most a
pub total : (a b : Ballot) → Under a b ⊎ Upto b a
total a b = grind arith
