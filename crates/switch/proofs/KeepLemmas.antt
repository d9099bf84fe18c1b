-- A record with or without a change.
use Rattle.switch.proofs.Words.{◌≡◌, ℕ, zero, suc, List, [], ◌∷◌, Option, Some, None, refl, ap, ◌∙◌, subst, inl, inr, put_at, Change, Round, Promise, Entry, AcceptedEntry, KeptPart, changed_by, IsWithOrWithout}

-- putting an entry twice at one slot is putting it once
put_twice : {T : Type 0} (xs : List (Option T)) (s : ℕ) (v : T) → put_at (put_at xs s v) s v ≡ put_at xs s v
put_twice [] zero v = refl
put_twice [] (suc s) v = ap (λ xs. None ∷ xs) (put_twice [] s v)
put_twice (x ∷ xs) zero v = refl
put_twice (x ∷ xs) (suc s) v = ap (λ xs. x ∷ xs) (put_twice xs s v)

-- storing a change twice is storing it once
changed_twice : {V : Type 0} (kept : KeptPart V) (change : Option (Change V)) → changed_by (changed_by kept change) change ≡ changed_by kept change
changed_twice kept None = refl
changed_twice kept (Some (Round r)) = refl
changed_twice kept (Some (Promise b)) = refl
changed_twice {V} kept (Some (Entry s h)) = ap (λ (xs : List (Option (AcceptedEntry V))). let k : KeptPart V = record { promise = h.ballot; round = kept.round; accepted = xs } in k) (put_twice kept.accepted s h)

-- a record with or without a change has the change once it is made again
pub with_either : {V : Type 0} (base kept : KeptPart V) (change : Option (Change V)) → IsWithOrWithout base change kept → changed_by kept change ≡ changed_by base change
with_either {V} base kept change (inl e) = ap (λ (k : KeptPart V). changed_by k change) e
with_either {V} base kept change (inr e) = ap (λ (k : KeptPart V). changed_by k change) e ∙ changed_twice base change

-- if b is a with or without a change, and c is b with or without it, c is a with or without it
pub either_twice : {V : Type 0} (a b c : KeptPart V) (change : Option (Change V)) → IsWithOrWithout a change b → IsWithOrWithout b change c → IsWithOrWithout a change c
either_twice {V} a b c change (inl e) h = subst (λ (x : KeptPart V). IsWithOrWithout x change c) e h
either_twice {V} a b c change (inr e) (inl d) = inr (d ∙ e)
either_twice {V} a b c change (inr e) (inr d) = inr (d ∙ ap (λ (x : KeptPart V). changed_by x change) e ∙ changed_twice a change)
