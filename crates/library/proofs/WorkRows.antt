-- Examples of the work of texts, added or not.
use Rattle.library.proofs.Words.{◌≡◌, ℕ, ◌+◌, List, [], ◌∷◌, codes, refl, Some, None, Const, Var, Axiom, Ess, Float, Prove, Database, G4, G10, Rule, Proof, Shape, Unfinished, NotChartered, replicate, w}
use Rattle.mm_read.specs.declared.stmt.Stmt.TheVariants.{Open, Close, Disj}
use Rattle.scope.proofs.Databases.{demo}
use Rattle.library.specs.Causes.{first_left}
use Rattle.library.specs.Work.{text_work, judged_counts, statement_counts, first_past, total}

-- a text of so many bytes; which they are does not matter
abbrev bytes : ℕ → List ℕ
bytes n = replicate n 32

-- the book's first example, in a file of 1,364 bytes: 64 for each of 14 symbols and 15 labels, sizes
-- of 71, and 887 for the proof
book : text_work [] (bytes 1364) demo ≡ 4178
book = refl

abbrev twice : Database
twice = Const (w (codes "|-")) ∷ Axiom (codes "p") (w (codes "|-")) ∷ Axiom (codes "p") (w (codes "|-")) ∷ []

-- a broken rule: the bytes; 64 for the symbol; 64 and the size 1 for the first `p`; nothing for the
-- second
broken : judged_counts [] (bytes 33) twice (Some (Rule 3 G4)) ≡ (0, 33) ∷ (1, 64) ∷ (2, 65) ∷ []
broken = refl

-- an open block at the end: the bytes and all statements
open_at_end : judged_counts [] (bytes 9) (Open ∷ Const (w (codes "o")) ∷ []) (Some (Rule 3 G10)) ≡ (0, 9) ∷ (1, 0) ∷ (2, 64) ∷ []
open_at_end = refl

-- no list of statements: the bytes
no_shape : total (judged_counts [] (bytes 9) [] (Some Shape)) ≡ 9
no_shape = refl

-- a statement that the charter forbids: the bytes
forbidden : total (judged_counts [] (bytes 33) twice (Some (NotChartered 1))) ≡ 33
forbidden = refl

-- statements with three proofs: a right one, a wrong one, and one more
abbrev three_proofs : Database
three_proofs =
    Const (w (codes "wff o"))
    ∷ Var (w (codes "x y"))
    ∷ Float (codes "wx") (codes "wff") (codes "x")
    ∷ Float (codes "wy") (codes "wff") (codes "y")
    ∷ Axiom (codes "wo") (w (codes "wff o"))
    ∷ Open
    ∷ Disj (w (codes "x y"))
    ∷ Axiom (codes "wj") (w (codes "wff x y"))
    ∷ Close
    ∷ Prove (codes "a") (w (codes "wff o")) (w (codes "( wo ) A"))
    ∷ Prove (codes "b") (w (codes "wff x x")) (w (codes "wx wx wj"))
    ∷ Prove (codes "c") (w (codes "wff o")) (w (codes "wo"))
    ∷ []

-- declarations count 64 for each name, `wj` its label and 2 hypotheses, 3 symbols and the rows 2 and 2
entered : statement_counts [] three_proofs
    ≡ (1, 128) ∷ (2, 128) ∷ (3, 64) ∷ (4, 64) ∷ (5, 66) ∷ (6, 0) ∷ (7, 0) ∷ (8, 73) ∷ (9, 0) ∷ (10, 66) ∷ (11, 68) ∷ (12, 66) ∷ []
entered = refl

-- a wrong proof: the bytes, all statements, the proof of `a`, and of that of `b` the three labels, two
-- hypotheses of 3 each, and for `wj` 1, its size 9, and its disjointness 3: two images of 1 symbol, and
-- for x a row of 0 and the variable x; nothing for that of `c`
wrong : total (judged_counts [] (bytes 200) three_proofs (Some (Proof 11))) ≡ 200 + 723 + 23 + 67
wrong = refl

-- a proof that is not finished counts nothing; nor does that of a statement that has none
unfinished : judged_counts [] (bytes 20) (Const (w (codes "o")) ∷ Prove (codes "t") (w (codes "o")) (w (codes "?")) ∷ []) (Some (Unfinished 2))
    ≡ (0, 20) ∷ (1, 64) ∷ (2, 65) ∷ (1, 0) ∷ (2, 0) ∷ []
unfinished = refl

-- a text after others counts what it adds: `c` cites `wo` of the first five statements
after : text_work three_proofs (bytes 30) (Prove (codes "d") (w (codes "wff o")) (w (codes "wo")) ∷ []) ≡ 30 + 66 + 21
after = refl

-- the statement with which a limit is passed: that of the wrong proof, in the second pass; an earlier
-- one in the first; 0 for the bytes
past_in_proof : first_past (200 + 723 + 23 + 66) (judged_counts [] (bytes 200) three_proofs (Some (Proof 11))) ≡ Some 11
past_in_proof = refl

not_past : first_past (200 + 723 + 23 + 67) (judged_counts [] (bytes 200) three_proofs (Some (Proof 11))) ≡ None
not_past = refl

past_in_statements : first_past (200 + 200) (judged_counts [] (bytes 200) three_proofs (Some (Proof 11))) ≡ Some 2
past_in_statements = refl

past_in_bytes : first_past 199 (judged_counts [] (bytes 200) three_proofs (Some (Proof 11))) ≡ Some 0
past_in_bytes = refl

-- ---- what is left active behind a text

-- a `$d` in a block is not
in_block : first_left 1 three_proofs ≡ None
in_block = refl

-- the first `$e` or `$d` outside all blocks
outside : first_left 1 (Open ∷ Disj (w (codes "x y")) ∷ Close ∷ Ess (codes "h") (w (codes "wff o")) ∷ Disj (w (codes "x y")) ∷ []) ≡ Some 4
outside = refl
