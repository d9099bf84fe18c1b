-- The images that the results for the hypotheses of an assertion give to its variables.
-- Source: Metamath, 4.2.6.
-- The code reads them off numbers; here they are read off the statements.
use Rattle.std.specs.Prelude.{ℕ, List, [], ◌∷◌, ◌++◌, drop, Option, Some}
use Rattle.explain.specs.Words.{Stmt, Expr, Database, stmt_at, Images}
use Rattle.mm_read.specs.declared.stmt.Stmt.TheVariants as stmt

-- the result for a `$f`, without its typecode, is the image of its variable; a result for another
-- statement gives no image
abbrev pub image_at : Option Stmt → Expr → Images
image_at (Some (stmt.Float label constant variable)) e = (variable, drop 1 e) ∷ []
image_at s e = []

-- the images that the results give, a result for each of the hypotheses
abbrev pub images_read : Database → List ℕ → List Expr → Images
images_read S [] rs = []
images_read S (p ∷ ps) [] = []
images_read S (p ∷ ps) (e ∷ rs) = image_at (stmt_at S p) e ++ images_read S ps rs
