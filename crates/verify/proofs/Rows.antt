-- The worked proofs, checked by computation.
use Rattle.verify.proofs.Words.{◌≡◌, ℕ, List, [], ◌∷◌, ◌++◌, codes, refl, true, map, is_some, is_none, Option, Some, None, Open, Const, Var, Disj, Axiom, Prove, Database, bares, before, Item, Cite, Recall, Mark, IsRight, String, w, demo, row_seven, row_th}
use Rattle.mm_read.specs.declared.stmt.Stmt.TheVariants.{Float}
use Rattle.verify.proofs.Computed.{prove, found}

abbrev cites : String → List Item
cites text = map (λ l. Cite l) (w (codes text))

-- row 4: both images are substituted at once
abbrev swapped : Database
swapped =
    Const (w (codes "|- R wff"))
    ∷ Var (w (codes "x y"))
    ∷ Float (codes "wx") (codes "wff") (codes "x")
    ∷ Float (codes "wy") (codes "wff") (codes "y")
    ∷ Axiom (codes "ax") (w (codes "|- x R y"))
    ∷ Prove (codes "th") (w (codes "|- y R x")) []
    ∷ []

row_four : IsRight swapped 6 (cites "wy wx ax")
row_four = found (prove _ 6 (cites "wy wx ax")) refl

-- row 5: an empty image
row_five : IsRight (Const (w (codes "wff |- ( )")) ∷ Var (w (codes "x")) ∷ Float (codes "wx") (codes "wff") (codes "x") ∷ Axiom (codes "we") (w (codes "wff"))
    ∷ Axiom (codes "ax") (w (codes "|- ( x )")) ∷ Prove (codes "th") (w (codes "|- ( )")) [] ∷ []) 6 (cites "we ax")
row_five = found (prove _ 6 (cites "we ax")) refl

-- row 7: z is a dummy variable
row_seven_right : IsRight (row_seven ++ row_th ∷ []) 16 (cites "wx wz wx wz ax r")
row_seven_right = found (prove _ 16 (cites "wx wz wx wz ax r")) refl

-- a proof that leaves two results is wrong
two_left : is_none (prove (Const (w (codes "|- o")) ∷ Axiom (codes "a") (w (codes "|- o")) ∷ Prove (codes "th") (w (codes "|- o")) [] ∷ []) 3 (cites "a a")) ≡ true
two_left = refl

-- the weight of a right proof
abbrev weighed : {S : Database} {at : ℕ} {items : List Item} → Option (IsRight S at items) → ℕ
weighed None = 0
weighed (Some r) = r.1.weight

-- row 2 weighs 166
demo_normal_weight : weighed (prove (bares demo) 19 (cites "tt tze tpl tt weq tt tt weq tt a2 tt tze tpl tt weq tt tze tpl tt weq tt tt weq wim tt a2 tt tze tpl tt tt a1 mp mp")) ≡ 166
demo_normal_weight = refl

-- row 3: the letters `ABCZADZAADZAEZJJKFLIAAGHH`
abbrev demo_packed : List Item
demo_packed = cites "tt tze tpl" ++ Mark ∷ (cites "tt weq" ++ Mark ∷ (cites "tt tt weq" ++ Mark ∷ (cites "tt a2" ++ Mark ∷ Recall 2 ∷ Recall 2 ∷ Recall 3 ∷ (cites "wim" ++ Recall 4 ∷ Recall 1 ∷ cites "tt tt a1 mp mp"))))

-- with marks a proof of the same theorem weighs 132
demo_packed_weight : weighed (prove (bares demo) 19 demo_packed) ≡ 132
demo_packed_weight = refl

-- row 6: without a `$d` of x and z at the theorem the proof is wrong
row_six_open : is_none (prove (before row_seven 10 ++ Prove (codes "th") (w (codes "|- x R z")) [] ∷ []) 10 (cites "wx wz ax")) ≡ true
row_six_open = refl

-- with a `$d` of x and z in a block at the theorem the proof is right
row_six_kept : is_some (prove (before row_seven 10 ++ Open ∷ Disj (w (codes "x z")) ∷ Prove (codes "th") (w (codes "|- x R z")) [] ∷ []) 12 (cites "wx wz ax")) ≡ true
row_six_kept = refl

-- the `$d` does not help if both images have x
row_six_same : is_none (prove (before row_seven 10 ++ Open ∷ Disj (w (codes "x z")) ∷ Prove (codes "th") (w (codes "|- x R x")) [] ∷ []) 12 (cites "wx wx ax")) ≡ true
row_six_same = refl

-- row 7 with `th` alone: the `$d` of the closed block does not help
row_seven_alone : is_none (prove (before row_seven 14 ++ Prove (codes "th") (w (codes "|- R x")) [] ∷ []) 14 (cites "wx wz wx wz ax r")) ≡ true
row_seven_alone = refl

-- row 4 with `|- x R x` as the theorem: the proof is wrong
row_four_wrong : is_none (prove (before swapped 6 ++ Prove (codes "th") (w (codes "|- x R x")) [] ∷ []) 6 (cites "wy wx ax")) ≡ true
row_four_wrong = refl

-- a `$p` may not cite itself
itself : is_none (prove (Const (w (codes "|- o")) ∷ Prove (codes "th") (w (codes "|- o")) [] ∷ []) 2 (cites "th")) ≡ true
itself = refl
