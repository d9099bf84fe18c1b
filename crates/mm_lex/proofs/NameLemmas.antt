-- The test whether two names are the same passes exactly if they are.
use Rattle.mm_lex.proofs.Prelude.{◌≡◌, true, refl, Bool, false, cond, ◌||◌, bytes_eq-Decides, Name, name_eq}

-- a name passes the test against itself
pub name_same : (x : Name) → name_eq x x ≡ true
name_same x = (bytes_eq-Decides x x).1 refl

-- names that pass the test are equal
pub same_name : (x y : Name) → name_eq x y ≡ true → x ≡ y
same_name x y h = (bytes_eq-Decides x y).0 h

-- a test that is made before another has the same result after it
pub tried_first : (a b : Bool) → cond a true b ≡ (b || (a || false))
tried_first true true = refl
tried_first true false = refl
tried_first false true = refl
tried_first false false = refl
