-- The databases of the worked examples.
use Rattle.scope.proofs.Words.{◌≡◌, ℕ, List, [], ◌∷◌, ◌++◌, codes, refl, Name, words_of, Stmt, Open, Close, Const, Var, Disj, Float, Ess, Axiom, Prove, Database, AreShaped, tokens_of}

abbrev pub w : List ℕ → List Name
w = words_of

abbrev pub demo_before : Database
demo_before =
    Const (w (codes "0 + = -> ( ) term wff |-"))
    ∷ Var (w (codes "t r s P Q"))
    ∷ Float (codes "tt") (codes "term") (codes "t")
    ∷ Float (codes "tr") (codes "term") (codes "r")
    ∷ Float (codes "ts") (codes "term") (codes "s")
    ∷ Float (codes "wp") (codes "wff") (codes "P")
    ∷ Float (codes "wq") (codes "wff") (codes "Q")
    ∷ Axiom (codes "tze") (w (codes "term 0"))
    ∷ Axiom (codes "tpl") (w (codes "term ( t + r )"))
    ∷ Axiom (codes "weq") (w (codes "wff t = r"))
    ∷ Axiom (codes "wim") (w (codes "wff ( P -> Q )"))
    ∷ Axiom (codes "a1") (w (codes "|- ( t = r -> ( t = s -> r = s ) )"))
    ∷ Axiom (codes "a2") (w (codes "|- ( t + 0 ) = t"))
    ∷ Open
    ∷ Ess (codes "min") (w (codes "|- P"))
    ∷ Ess (codes "maj") (w (codes "|- ( P -> Q )"))
    ∷ []

abbrev pub demo_mp : Stmt
demo_mp = Axiom (codes "mp") (w (codes "|- Q"))

abbrev pub demo : Database
demo = demo_before ++ demo_mp ∷ Close ∷ Prove (codes "th1") (w (codes "|- t = t")) (w (codes "tt tze tpl tt weq tt tt weq tt a2 tt tze tpl tt weq tt tze tpl tt weq tt tt weq wim tt a2 tt tze tpl tt tt a1 mp mp")) ∷ []

-- the front of the databases of rows 6 and 7
abbrev pub rows_front : Database
rows_front =
    Const (w (codes "wff R |-"))
    ∷ Var (w (codes "x y z"))
    ∷ Float (codes "wx") (codes "wff") (codes "x")
    ∷ Float (codes "wy") (codes "wff") (codes "y")
    ∷ Float (codes "wz") (codes "wff") (codes "z")
    ∷ Open
    ∷ Disj (w (codes "x y"))
    ∷ []

abbrev pub row_ax : Stmt
row_ax = Axiom (codes "ax") (w (codes "|- x R y"))

abbrev pub row_seven : Database
row_seven = rows_front ++ row_ax ∷ Close
    ∷ Open ∷ Ess (codes "h") (w (codes "|- x R y")) ∷ Axiom (codes "r") (w (codes "|- R x")) ∷ Close
    ∷ Open ∷ Disj (w (codes "x z")) ∷ []

abbrev pub row_th : Stmt
row_th = Prove (codes "th") (w (codes "|- R x")) (w (codes "wx wz wx wz ax r"))

-- the tokens of D are the words of its text
demo_tokens : tokens_of demo ≡ w (codes "$c 0 + = -> ( ) term wff |- $. $v t r s P Q $. tt $f term t $. tr $f term r $. ts $f term s $. wp $f wff P $. wq $f wff Q $. tze $a term 0 $. tpl $a term ( t + r ) $. weq $a wff t = r $. wim $a wff ( P -> Q ) $. a1 $a |- ( t = r -> ( t = s -> r = s ) ) $. a2 $a |- ( t + 0 ) = t $. ${ min $e |- P $. maj $e |- ( P -> Q ) $. mp $a |- Q $. $} th1 $p |- t = t $= tt tze tpl tt weq tt tt weq tt a2 tt tze tpl tt weq tt tze tpl tt weq tt tt weq wim tt a2 tt tze tpl tt tt a1 mp mp $.")
demo_tokens = refl

-- each statement of D is well shaped
demo_shaped : AreShaped demo
demo_shaped = refl
