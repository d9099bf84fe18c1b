-- Two parts appended one after the other.
use Rattle.proof_pages.proofs.Words.{◌≡◌, ℕ, if◌then◌else◌, List, ◌++◌, Result, Ok, Err, OnOk, is_ok, ◌∙◌, ap, append_assoc}

-- two parts are appended
pub joined : (a b c x y : List ℕ) → b ≡ a ++ x → c ≡ b ++ y → c ≡ a ++ (x ++ y)
joined a b c x y h k = k ∙ (ap (λ s. s ++ y) h ∙ append_assoc a x y)

-- the second part is appended, or memory runs out
pub joined-last : {T E : Type 0} (a b c x y : List ℕ) (r : Result T E) → b ≡ a ++ x → c ≡ (if is_ok r then b ++ y else b) → OnOk r (c ≡ a ++ (x ++ y))
joined-last a b c x y (Ok v) h k = joined a b c x y h k
joined-last a b c x y (Err e) h k = tt

-- the second part is appended by a call that may fail
pub joined-on : {T E : Type 0} (r : Result T E) (a b c x y : List ℕ) → b ≡ a ++ x → OnOk r (c ≡ b ++ y) → OnOk r (c ≡ a ++ (x ++ y))
joined-on (Ok v) a b c x y h k = joined a b c x y h k
joined-on (Err e) a b c x y h k = tt

-- three parts are appended, or memory runs out
pub three-last : {T E : Type 0} (r : Result T E) (a b c d x y z : List ℕ) → b ≡ a ++ x → c ≡ b ++ y → d ≡ (if is_ok r then c ++ z else c) → OnOk r (d ≡ a ++ (x ++ y ++ z))
three-last r a b c d x y z h k l = joined-last a c d (x ++ y) z r (joined a b c x y h k) l
