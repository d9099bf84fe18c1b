-- Two parts appended one after the other.
use Rattle.std.specs.Prelude.{◌≡◌, ℕ, if◌then◌else◌, List, ◌++◌, Result, Ok, Err, OnOk}
use Rattle.std.specs.Result.{is_ok}
use Rattle.std.proofs.Common.{◌∙◌, ap, append_assoc}

-- two parts are appended
pub joined : (a b c x y : List ℕ) → b ≡ a ++ x → c ≡ b ++ y → c ≡ a ++ (x ++ y)
joined a b c x y h k = k ∙ (ap (λ s. s ++ y) h ∙ append_assoc a x y)

-- the second part is appended, or memory runs out
pub joined-last : {T E : Type 0} (a b c x y : List ℕ) (r : Result T E) → b ≡ a ++ x → c ≡ (if is_ok r then b ++ y else b) → OnOk r (c ≡ a ++ (x ++ y))
joined-last a b c x y (Ok v) h k = joined a b c x y h k
joined-last a b c x y (Err e) h k = tt
