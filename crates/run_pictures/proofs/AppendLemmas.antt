-- Two parts appended one after the other.
use Rattle.std.proofs.Common.{◌≡◌, ℕ, List, ◌++◌, Result, Ok, Err, is_ok, ◌∙◌, ap, append_assoc}
use Rattle.std.specs.Prelude.{if◌then◌else◌, OnOk}

-- two parts are appended
pub joined : (a b c x y : List ℕ) → b ≡ a ++ x → c ≡ b ++ y → c ≡ a ++ (x ++ y)
joined a b c x y h k = k ∙ (ap (λ s. s ++ y) h ∙ append_assoc a x y)

-- the second part is appended, or memory runs out
pub joined-last : {T E : Type 0} (a b c x y : List ℕ) (r : Result T E) → b ≡ a ++ x → c ≡ (if is_ok r then b ++ y else b) → OnOk r (c ≡ a ++ (x ++ y))
joined-last a b c x y (Ok v) h k = joined a b c x y h k
joined-last a b c x y (Err e) h k = tt
