-- The rules, worked out on small databases.
use Rattle.scope.proofs.Words.{◌≡◌, [], ◌∷◌, ◌++◌, codes, refl, Some, Open, Close, Const, Var, Float, Axiom, G1, G2, G3, G4, G10, first_broken, AllLegal}
use Rattle.scope.proofs.Databases.{w, demo, row_seven, row_th}

-- D breaks no rule
demo_legal : AllLegal demo
demo_legal = refl

-- nor does the database of row 7
row_seven_legal : AllLegal (row_seven ++ row_th ∷ Close ∷ [])
row_seven_legal = refl

-- a `$c` inside a block
inner_constant : first_broken 1 [] (Open ∷ Const (w (codes "a")) ∷ []) ≡ Some (2, G1)
inner_constant = refl

-- a `$}` without an open block
stray_close : first_broken 1 [] (Close ∷ []) ≡ Some (1, G10)
stray_close = refl

-- an open block at the end counts as one more statement
open_at_end : first_broken 1 [] (Open ∷ Var (w (codes "x")) ∷ []) ≡ Some (3, G10)
open_at_end = refl

-- a symbol twice in one `$c`
twice : first_broken 1 [] (Const (w (codes "a a")) ∷ []) ≡ Some (1, G2)
twice = refl

-- a label used twice
label_again : first_broken 1 [] (Const (w (codes "|-")) ∷ Axiom (codes "p") (w (codes "|-")) ∷ Axiom (codes "p") (w (codes "|-")) ∷ []) ≡ Some (3, G4)
label_again = refl

-- a label that is a constant
label_is_symbol : first_broken 1 [] (Const (w (codes "o |-")) ∷ Axiom (codes "o") (w (codes "|-")) ∷ []) ≡ Some (2, G4)
label_is_symbol = refl

-- a variable declared again while it is active
variable_again : first_broken 1 (Var (w (codes "x")) ∷ []) (Var (w (codes "x")) ∷ []) ≡ Some (1, G3)
variable_again = refl

-- row 7's first text: a variable with another type in another block
retyped : AllLegal (Const (w (codes "wff set |- R")) ∷ Open ∷ Var (w (codes "x")) ∷ Float (codes "wx") (codes "wff") (codes "x") ∷ Axiom (codes "a1") (w (codes "|- x")) ∷ Close
    ∷ Open ∷ Var (w (codes "x")) ∷ Float (codes "sx") (codes "set") (codes "x") ∷ Axiom (codes "a2") (w (codes "|- R x")) ∷ Close ∷ [])
retyped = refl

-- a symbol that was a variable of a closed block cannot be declared as a constant
once_variable : first_broken 1 [] (Open ∷ Var (w (codes "x")) ∷ Close ∷ Const (w (codes "x")) ∷ []) ≡ Some (4, G2)
once_variable = refl
