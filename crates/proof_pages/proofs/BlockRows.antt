-- The blocks of small statements.
use Rattle.proof_pages.proofs.BlockWords.{◌≡◌, List, [], ◌∷◌, codes, refl, arith, Some, None, decimal, decimal_digit, Const, Var, Disj, Float, Ess, Axiom, Prove, Open, Close, Database, wrapped, block_text}

-- the digits of small numbers
one : decimal 1 ≡ codes "1"
one = decimal_digit 1 (omega arith)

three : decimal 3 ≡ codes "3"
three = decimal_digit 3 (omega arith)

five : decimal 5 ≡ codes "5"
five = decimal_digit 5 (omega arith)

-- the block of a hypothesis shows only the hypothesis
alone : block_text (Float (codes "wph") (codes "wff") (codes "ph") ∷ []) 1 (Float (codes "wph") (codes "wff") (codes "ph")) (record { line = 3; column = 5 }) None
    ≡ codes "3:5: 1\nwph $f wff ph\n"
alone = rw (one, three, five) refl

-- words in lines of at most 78 bytes
short : wrapped (codes "a" ∷ codes "description" ∷ []) ≡ codes "a description\n"
short = refl

two_lines : wrapped (codes "123456789012345678901234567890123456789" ∷ codes "12345678901234567890123456789012345678" ∷ codes "x" ∷ []) ≡ codes "123456789012345678901234567890123456789 12345678901234567890123456789012345678\nx\n"
two_lines = refl

empty : wrapped [] ≡ []
empty = refl
