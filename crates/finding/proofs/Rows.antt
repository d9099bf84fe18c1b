-- The lines of statements that are found.
use Rattle.finding.proofs.LineWords.{◌≡◌, [], ◌∷◌, codes, refl, Axiom, Prove, Open, found_line}

-- a line for an axiom and for a theorem, and none for any other statement
axiom_line : found_line (Axiom (codes "tze") (codes "term" ∷ codes "0" ∷ [])) ≡ codes "tze term 0\n"
axiom_line = refl

theorem_line : found_line (Prove (codes "th1") (codes "|-" ∷ codes "t" ∷ []) (codes "tt" ∷ [])) ≡ codes "th1 |- t\n"
theorem_line = refl

no_line : found_line Open ≡ []
no_line = refl
