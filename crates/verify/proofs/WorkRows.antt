-- Examples of the work of proofs: right ones, and wrong ones by the place of their fault.
use Rattle.verify.proofs.Words.{◌≡◌, ℕ, [], ◌∷◌, ◌++◌, codes, refl, Open, Const, Var, Disj, Axiom, Prove, Stmt, Database, bares, before, Cite, String, w, demo, row_seven, row_th, start, weight_limit}
use Rattle.mm_read.specs.declared.stmt.Stmt.TheVariants.{Float}
use Rattle.verify.specs.Work.{items_work, proof_work}

-- the work of a proof that these tokens are
abbrev work : Database → Stmt → String → ℕ
work S s tokens = proof_work S s (w (codes tokens))

-- ---- right proofs

abbrev demo_theorem : Stmt
demo_theorem = Prove (codes "th1") (w (codes "|- t = t")) []

-- the first theorem of the book: 16 for each of 34 labels; 1 for each of 34 items, and 166 symbols; the
-- sizes 8 for 4 times `tze`, 32 for 4 times `tpl`, 30 for 5 times `weq`, 8 for `wim`, 18 for twice `a2`,
-- 19 for `a1` and 28 for twice `mp`
demo_work : work (before (bares demo) 19) demo_theorem "tt tze tpl tt weq tt tt weq tt a2 tt tze tpl tt weq tt tze tpl tt weq tt tt weq wim tt a2 tt tze tpl tt tt a1 mp mp" ≡ 887
demo_work = refl

-- the same compressed: 16 for each of 7 labels, 5 for the theorem; 1 for each of 25 items, and 132
-- symbols; sizes of 86
demo_compressed_work : work (before (bares demo) 19) demo_theorem "( tze tpl weq a2 wim a1 mp ) ABCZADZAADZAEZJJKFLIAAGHH" ≡ 360
demo_compressed_work = refl

-- after `$d x y`, under which `ax` is `|- x R y`, a block with `$d x z`
abbrev apart : Database
apart = before row_seven 10 ++ Open ∷ Disj (w (codes "x z")) ∷ []

abbrev theorem : String → Stmt
theorem expr = Prove (codes "th") (w (codes expr)) []

-- a citation with a mandatory pair: 16 for each of 3 labels; 1 and 2 symbols for each hypothesis; for
-- `ax` 1, 4 symbols, its size 10, and its disjointness 5: two images of 1 symbol, the row 2 of z, and
-- the variable x
with_pair : work apart (theorem "|- x R z") "wx wz ax" ≡ 74
with_pair = refl

-- the same compressed: 16 for one label; for the theorem 2 hypotheses, 4 symbols and the rows 2 and 2;
-- the items as above
with_pair_compressed : work apart (theorem "|- x R z") "( ax ) ABC" ≡ 52
with_pair_compressed = refl

-- z has no part in the theorem, whose `$d x z` counts all the same: 16 for each of 6 labels, 3 for each
-- of 4 hypotheses, 20 for `ax`, and for `r` 1, 3 symbols and its size 10
dummy : work row_seven row_th "wx wz wx wz ax r" ≡ 142
dummy = refl

-- the same compressed: 16 for each of 3 labels, and 6 for the theorem: a hypothesis, 3 symbols, and
-- the row 2 of x
dummy_compressed : work row_seven row_th "( wz ax r ) ABABCD" ≡ 100
dummy_compressed = refl

-- a label that is listed twice counts twice, and so does one that is not cited
listed_twice : work row_seven row_th "( wz ax wz r ax ) ABADCE" ≡ 132
listed_twice = refl

abbrev marked : Database
marked =
    Const (w (codes "wff o"))
    ∷ Var (w (codes "x y"))
    ∷ Float (codes "wx") (codes "wff") (codes "x")
    ∷ Float (codes "wy") (codes "wff") (codes "y")
    ∷ Axiom (codes "wo") (w (codes "wff o"))
    ∷ Axiom (codes "wj") (w (codes "wff x y"))
    ∷ []

-- a mark and a recall: 16 for each of 2 labels, 3 for the theorem; `wo` 1, 2 symbols and its size 2; the
-- mark 1; the recall 1 and 2 symbols; `wj` 1, 3 symbols and its size 5
mark_and_recall : work marked (theorem "wff o o") "( wo wj ) AZCB" ≡ 53
mark_and_recall = refl

-- spaces between the letters change nothing
letters_apart : work marked (theorem "wff o o") "( wo wj ) A ZC B" ≡ 53
letters_apart = refl

-- ---- tokens that are no proof code count nothing

-- a small letter
wrong_letter : work marked (theorem "wff o o") "( wo wj ) AZCBa" ≡ 0
wrong_letter = refl

-- a number that is too great, before as many marks
great_number : work marked (theorem "wff o o") "( wo wj ) ACZB" ≡ 0
great_number = refl

-- a token that is no label, at the end
no_label : work marked (theorem "wff o o") "wo wo wj*" ≡ 0
no_label = refl

-- a mandatory label that is listed
mandatory_listed : work apart (theorem "|- x R z") "( wx ax ) ABC" ≡ 0
mandatory_listed = refl

-- a proof that is not finished, in both forms
unfinished : work marked (theorem "wff o o") "wo wo ?" ≡ 0
unfinished = refl

unfinished_compressed : work marked (theorem "wff o o") "( wo wj ) AZ? ?" ≡ 0
unfinished_compressed = refl

-- no tokens
no_tokens : work marked (theorem "wff o o") "" ≡ 0
no_tokens = refl

-- ---- proofs at whose fault an item counts no result

-- a label that names nothing: 16, and 1 for the item; later items do not count
names_nothing : work marked (theorem "wff o o") "wo nothing wj" ≡ 54
names_nothing = refl

-- an assertion does not stand before itself
itself : work marked (theorem "wff o o") "th" ≡ 17
itself = refl

-- a hypothesis that is no longer active
not_active : work row_seven row_th "h" ≡ 17
not_active = refl

-- too few results: 16, and 1 and the size 5 for `wj`
too_few : work marked (theorem "wff o o") "wj" ≡ 22
too_few = refl

-- another typecode: 16 for each of 5 labels, 3 for each of 3 hypotheses, 20 for `ax` with x and z; for
-- `ax` with `|- x R z` for y 1 and its size 10
typecode : work apart (theorem "|- x R z") "wx wx wz ax ax" ≡ 120
typecode = refl

-- another `$e`: 16 for each of 6 labels, 3 for each of 4 hypotheses, 20 for `ax`, and for `r` with x and
-- x, to which `|- x R z` does not fit, 1 and its size 10
essential : work row_seven row_th "wx wx wx wz ax r" ≡ 139
essential = refl

-- a pair: 16 for each of 3 labels, 3 for each of 2 hypotheses, and for `ax` with x and x 1, its size 10
-- and its disjointness 5: two images of 1 symbol, the row 2 of x, and the variable x
pair : work apart (theorem "|- x R x") "wx wx ax" ≡ 70
pair = refl

-- a proof that is too heavy with the result: the item counts 1 alone
too_heavy : items_work marked (Cite (codes "wx") ∷ []) (record start { weight = weight_limit }) ≡ 1
too_heavy = refl

as_heavy_as_may_be : items_work marked (Cite (codes "wx") ∷ []) (record start { weight = 67108862 }) ≡ 3
as_heavy_as_may_be = refl

-- ---- proofs at fault at the end, all of whose items count

-- two results
two_left : work apart (theorem "|- x R z") "wx wz ax wx" ≡ 93
two_left = refl

-- another theorem
another : work apart (theorem "|- x R x") "wx wz ax" ≡ 74
another = refl

-- no letters: 16 for each of 2 labels, and 3 for the theorem
no_letters : work marked (theorem "wff o o") "( wo wj )" ≡ 35
no_letters = refl
